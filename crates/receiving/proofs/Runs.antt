-- A receiver holds what its history says.
use Rattle.std.proofs.Common.{◌≡◌, ℕ, ◌-◌, ◌<◌, ◌≤◌, Bool, true, false, cond, ◌||◌, ltb, ◌⊎◌, List, [], ◌∷◌, length, Some, None, Ok, Err, Option, Result, sym, refl, ap, ◌∙◌, inl, inr, arith}
use Rattle.std.proofs.lemmas.Bool.{cases_lt, le-ltb, lt-ltb}
use Rattle.frame.specs.declared.headers.Header.{Header}
use Rattle.frame.specs.Sizes.{row_count}
use Rattle.rows.specs.Carriers.{is_reference, whole_rows}
use Rattle.rows.specs.Rows.{cells_of, header_rows}
use Rattle.receiving.specs.declared.refusals.FeedRefusal.{FeedRefusal}
use Rattle.receiving.specs.Decisions.{header_decision, payload_decision}
use Rattle.receiving.specs.Histories.{Call, Feed, Start, Take, counted, reference_of, run}
use Rattle.receiving.specs.Steps.{deaf, fed, headed, heading, loaded, loading, taken, with_header_row, with_payload_row}
use Rattle.receiving.proofs.Counts.{KeptUnder, counted_feed, counted_is_kept, kept_more, same_header}
use Rattle.receiving.proofs.Holdings.{accepts, hands, header_by, held, holding, holding_behind, was_handed}
use Rattle.receiving.proofs.Nexts.{Next, decided_legal, fed_in_header, fed_in_payload, holding_decided, in_header, in_payload, legal_rows, next_of}
use Rattle.receiving.proofs.RowLists.{header_all, length_with_row, with_row}
use Rattle.receiving.proofs.Views.{left_by_take, not_accepted}

-- thirteen rows hold what their decision leads to
headed_holds : (reference : List ℕ) (rows : List (List ℕ)) → whole_rows rows ≡ true → length rows ≡ header_rows
    → (headed (length rows) (cells_of rows) (header_decision reference (cells_of rows))).0 ≡ holding (Some reference) rows
headed_holds reference rows w n =
    of (header_decision reference (cells_of rows)) refl
    ∙ ap (λ d. holding_behind d rows) (ap (header_decision reference) (sym (header_all rows w n)))
    ∙ sym (ap (λ b. cond b (heading reference (length rows) (cells_of rows)) (holding_behind (header_by reference rows) rows)) (le-ltb (length rows) header_rows (omega arith)))
  where
    of : (d : Result Header FeedRefusal) → header_decision reference (cells_of rows) ≡ d → (headed (length rows) (cells_of rows) d).0 ≡ holding_behind d rows
    of (Err e) d = refl
    of (Ok h) d =
        let more = legal_rows h (decided_legal reference (cells_of rows) h d) in
        let l : length rows < row_count h.fl = omega arith in
        rw (lt-ltb (length rows) (row_count h.fl) l) refl

header_row_holds : (reference : List ℕ) (rows : List (List ℕ)) → whole_rows rows ≡ true → length rows ≤ header_rows
    → (with_header_row reference (length rows) (cells_of rows)).0 ≡ holding (Some reference) rows
header_row_holds reference rows w m = of (cases_lt (length rows) header_rows)
  where
    of : (length rows < header_rows) ⊎ (header_rows ≤ length rows) → (with_header_row reference (length rows) (cells_of rows)).0 ≡ holding (Some reference) rows
    of (inl l) = rw (lt-ltb (length rows) header_rows l) refl
    of (inr l) =
        ap (λ b. (cond b (heading reference (length rows) (cells_of rows), Ok (header_rows - length rows)) (headed (length rows) (cells_of rows) (header_decision reference (cells_of rows)))).0) (le-ltb (length rows) header_rows l)
        ∙ headed_holds reference rows w (omega arith)

payload_row_holds : (reference : List ℕ) (rows : List (List ℕ)) (h : Header) → header_rows ≤ length rows → header_by reference rows ≡ Ok h
    → (with_payload_row h (length rows) (cells_of rows)).0 ≡ holding (Some reference) rows
payload_row_holds reference rows h l d =
    of (ltb (length rows) (row_count h.fl)) (payload_decision h (cells_of rows)) ∙ sym (holding_decided reference rows h l d)
  where
    of : (b : Bool) (p : Result (List ℕ) FeedRefusal)
        → (cond b (loading h (length rows) (cells_of rows), Ok (row_count h.fl - length rows)) (loaded h p)).0 ≡ cond b (loading h (length rows) (cells_of rows)) (loaded h p).0
    of true p = refl
    of false p = refl

-- a row that counts leads from what is held to what is held with it
pub accepted_holds : (o : Option (List ℕ)) (rows : List (List ℕ)) (row : List ℕ) → KeptUnder o rows → accepts (holding o rows) row ≡ true
    → (fed (holding o rows) row).0 ≡ holding o (with_row rows row)
accepted_holds None rows row k a = refl
accepted_holds (Some reference) rows row k a = of (next_of reference rows row a)
  where
    of : Next reference rows row → (fed (holding (Some reference) rows) row).0 ≡ holding (Some reference) (with_row rows row)
    of (in_header l i) =
        let e = length_with_row rows row in
        ap (λ q. q.0) (fed_in_header reference rows row l i)
        ∙ header_row_holds reference (with_row rows row) (kept_more (Some reference) rows row k a).whole (omega arith)
    of (in_payload h l d m i) =
        let e = length_with_row rows row in
        ap (λ q. q.0) (fed_in_payload reference rows row h l d m i)
        ∙ payload_row_holds reference (with_row rows row) h (omega arith) (same_header reference rows row k.whole l ∙ d)

pub feed_holds : (o : Option (List ℕ)) (rows : List (List ℕ)) (row : List ℕ) → KeptUnder o rows
    → (fed (holding o rows) row).0 ≡ holding o (cond (accepts (holding o rows) row) (with_row rows row) rows)
feed_holds o rows row k = of (accepts (holding o rows) row) refl
  where
    of : (b : Bool) → accepts (holding o rows) row ≡ b → (fed (holding o rows) row).0 ≡ holding o (cond b (with_row rows row) rows)
    of true a = accepted_holds o rows row k a
    of false a = not_accepted (holding o rows) row a

-- and so after every history
pub run_is_held : (cs : List Call) → run cs ≡ held cs
run_is_held [] = refl
run_is_held (Start cells ∷ cs) = of (is_reference cells) (run_is_held cs)
  where
    of : (b : Bool) → run cs ≡ held cs
        → cond b (heading cells 0 []) (run cs) ≡ cond (cond b false (was_handed cs)) deaf (holding (cond b (Some cells) (reference_of cs)) (cond b [] (counted cs)))
    of true e = refl
    of false e = e
run_is_held (Feed row ∷ cs) =
    ap (λ v. (fed v row).0) (run_is_held cs)
    ∙ of (was_handed cs)
    ∙ ap (λ rows. cond (was_handed cs) deaf (holding (reference_of cs) rows)) (sym (counted_feed cs row))
  where
    of : (b : Bool)
        → (fed (cond b deaf (holding (reference_of cs) (counted cs))) row).0 ≡ cond b deaf (holding (reference_of cs) (cond (accepts (holding (reference_of cs) (counted cs)) row) (with_row (counted cs) row) (counted cs)))
    of true = refl
    of false = feed_holds (reference_of cs) (counted cs) row (counted_is_kept cs)
run_is_held (Take room ∷ cs) = ap (λ v. (taken v room).0) (run_is_held cs) ∙ of (was_handed cs)
  where
    of : (b : Bool)
        → (taken (cond b deaf (holding (reference_of cs) (counted cs))) room).0 ≡ cond (b || hands (holding (reference_of cs) (counted cs)) room) deaf (holding (reference_of cs) (counted cs))
    of true = refl
    of false = left_by_take (holding (reference_of cs) (counted cs)) room
