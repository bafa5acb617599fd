-- What a view tells of the next call, and that it is what the reference and the rows tell.
use Rattle.std.proofs.Common.{◌≡◌, ℕ, ◌<◌, ◌≤◌, Bool, true, false, cond, ◌&&◌, ltb, leb, ◌⊎◌, List, length, Some, None, Ok, Err, Option, Result, refl, ap, subst, inl, inr}
use Rattle.std.proofs.lemmas.Bool.{cases_lt, false≢true, true≢false, le-leb, leb-true, lt-leb, lt-ltb, le-ltb}
use Rattle.frame.specs.declared.headers.Header.{Header}
use Rattle.frame.specs.Sizes.{row_count}
use Rattle.rows.specs.Carriers.{is_reference, row_fits}
use Rattle.rows.specs.Rows.{cells_of, header_rows}
use Rattle.receiving.specs.declared.refusals.FeedRefusal.{FeedRefusal}
use Rattle.receiving.specs.declared.refusals.FeedRefusal.TheVariants.{NotListening, Row}
use Rattle.receiving.specs.declared.refusals.TakeRefusal.TheVariants.{TooShort}
use Rattle.receiving.specs.Decisions.{payload_decision}
use Rattle.receiving.specs.Histories.{awaited, fits_behind, fits_next, header_told, listens}
use Rattle.receiving.specs.Steps.{View, deaf, fed, heading, loaded, loading, taken, whole}
use Rattle.receiving.proofs.Holdings.{accepts, hands, header_by, hears, holding, holding_behind}

-- feeds that change nothing
pub unheard : (v : View) (row : List ℕ) → hears v ≡ false → fed v row ≡ (v, Err NotListening)
unheard deaf row e = refl
unheard (heading reference n cells) row e = absurd (true≢false e)
unheard (loading h n cells) row e = absurd (true≢false e)
unheard (whole h bytes) row e = refl

pub unfit : (v : View) (row : List ℕ) → hears v ≡ true → accepts v row ≡ false → fed v row ≡ (v, Err Row)
unfit deaf row e a = absurd (false≢true e)
unfit (heading reference n cells) row e a = rw a refl
unfit (loading h n cells) row e a = rw a refl
unfit (whole h bytes) row e a = absurd (false≢true e)

pub not_accepted : (v : View) (row : List ℕ) → accepts v row ≡ false → (fed v row).0 ≡ v
not_accepted deaf row a = refl
not_accepted (heading reference n cells) row a = rw a refl
not_accepted (loading h n cells) row a = rw a refl
not_accepted (whole h bytes) row a = refl

-- a take drops what it hands over
pub left_by_take : (v : View) (room : ℕ) → (taken v room).0 ≡ cond (hands v room) deaf v
left_by_take deaf room = refl
left_by_take (heading reference n cells) room = refl
left_by_take (loading h n cells) room = refl
left_by_take (whole h bytes) room = of (cases_lt room (length bytes))
  where
    of : (room < length bytes) ⊎ (length bytes ≤ room) → (taken (whole h bytes) room).0 ≡ cond (leb (length bytes) room) deaf (whole h bytes)
    of (inl l) = rw (lt-ltb room (length bytes) l, lt-leb (length bytes) room l) refl
    of (inr l) = rw (le-ltb room (length bytes) l, le-leb (length bytes) room l) refl

-- a view that hands over is a whole frame, which the room is enough for
pub hands_whole : (v : View) (room : ℕ) → hands v room ≡ true → (h : Header) × ((bytes : List ℕ) × ((v ≡ whole h bytes) × (length bytes ≤ room)))
hands_whole deaf room e = absurd (false≢true e)
hands_whole (heading reference n cells) room e = absurd (false≢true e)
hands_whole (loading h n cells) room e = absurd (false≢true e)
hands_whole (whole h bytes) room e = (h, (bytes, (refl, leb-true (length bytes) room e)))

-- and so is one whose take answers with a frame
pub taken_whole : (v : View) (room : ℕ) (h : Header) (bytes : List ℕ) → (taken v room).1 ≡ Ok (h, bytes) → (v ≡ whole h bytes) × (length bytes ≤ room)
taken_whole deaf room h bytes e = absurd (cc)
taken_whole (heading reference n cells) room h bytes e = absurd (cc)
taken_whole (loading g n cells) room h bytes e = absurd (cc)
taken_whole (whole g others) room h bytes e = of (cases_lt room (length others))
  where
    of : (room < length others) ⊎ (length others ≤ room) → (whole g others ≡ whole h bytes) × (length bytes ≤ room)
    of (inl l) =
        let t = rw (lt-ltb room (length others) l) at e in absurd (cc)
    of (inr l) =
        let t : Ok (g, others) ≡ Ok (h, bytes) = rw (le-ltb room (length others) l) at e in
        let p : (g, others) ≡ (h, bytes) = cc in
        (ap (λ (q : Header × List ℕ). whole q.0 q.1) p, subst (λ (xs : List ℕ). length xs ≤ room) (ap (λ (q : Header × List ℕ). q.1) p) l)

pub whole_taken : (h : Header) (bytes : List ℕ) (room : ℕ) → length bytes ≤ room → (taken (whole h bytes) room).1 ≡ Ok (h, bytes)
whole_taken h bytes room l = rw (le-ltb room (length bytes) l) refl

pub whole_too_long : (h : Header) (bytes : List ℕ) (room : ℕ) → room < length bytes → (taken (whole h bytes) room).1 ≡ Err TooShort
whole_too_long h bytes room l = rw (lt-ltb room (length bytes) l) refl

-- who listens by the reference and the rows, listens by the view
hears_behind : (b : Bool) (h : Header) (rows : List (List ℕ)) (p : Result (List ℕ) FeedRefusal)
    → b ≡ hears (cond b (loading h (length rows) (cells_of rows)) (loaded h p).0)
hears_behind true h rows p = refl
hears_behind false h rows (Ok bytes) = refl
hears_behind false h rows (Err e) = refl

hears_by : (b : Bool) (d : Result Header FeedRefusal) (reference : List ℕ) (rows : List (List ℕ))
    → cond b true (awaited (header_told d) (length rows)) ≡ hears (cond b (heading reference (length rows) (cells_of rows)) (holding_behind d rows))
hears_by true d reference rows = refl
hears_by false (Err e) reference rows = refl
hears_by false (Ok h) reference rows =
    hears_behind (ltb (length rows) (row_count h.fl)) h rows (payload_decision h (cells_of rows))

pub listens_hears : (o : Option (List ℕ)) (rows : List (List ℕ)) → listens o rows ≡ hears (holding o rows)
listens_hears None rows = refl
listens_hears (Some reference) rows =
    hears_by (ltb (length rows) header_rows) (header_by reference rows) reference rows

-- and the rows that it takes are those that count
accepts_behind : (b : Bool) (h : Header) (rows : List (List ℕ)) (row : List ℕ) (p : Result (List ℕ) FeedRefusal)
    → (b && row_fits h.tm row) ≡ accepts (cond b (loading h (length rows) (cells_of rows)) (loaded h p).0) row
accepts_behind true h rows row p = refl
accepts_behind false h rows row (Ok bytes) = refl
accepts_behind false h rows row (Err e) = refl

accepts_by : (b : Bool) (d : Result Header FeedRefusal) (reference : List ℕ) (rows : List (List ℕ)) (row : List ℕ)
    → (cond b true (awaited (header_told d) (length rows)) && cond b (is_reference row) (fits_behind (header_told d) row)) ≡ accepts (cond b (heading reference (length rows) (cells_of rows)) (holding_behind d rows)) row
accepts_by true d reference rows row = refl
accepts_by false (Err e) reference rows row = refl
accepts_by false (Ok h) reference rows row =
    accepts_behind (ltb (length rows) (row_count h.fl)) h rows row (payload_decision h (cells_of rows))

pub counts_accepts : (o : Option (List ℕ)) (rows : List (List ℕ)) (row : List ℕ) → (listens o rows && fits_next o rows row) ≡ accepts (holding o rows) row
counts_accepts None rows row = refl
counts_accepts (Some reference) rows row =
    accepts_by (ltb (length rows) header_rows) (header_by reference rows) reference rows row
