-- Feeds that are answered, and the one that is answered with 0: it makes a frame whole.
use Rattle.std.proofs.Common.{◌≡◌, ℕ, ◌-◌, ◌<◌, ◌≤◌, Bool, true, false, ◌⊎◌, List, length, Some, None, Ok, Err, Option, Result, sym, refl, ap, ◌∙◌, subst, inl, inr, arith}
use Rattle.std.proofs.lemmas.Bool.{cases_lt, le-ltb, lt-ltb}
use Rattle.frame.specs.declared.headers.Header.{Header}
use Rattle.frame.specs.Sizes.{payload_rows, row_count}
use Rattle.rows.specs.Rows.{cells_of, header_rows}
use Rattle.receiving.specs.declared.refusals.FeedRefusal.{FeedRefusal}
use Rattle.receiving.specs.declared.refusals.FeedRefusal.TheVariants.{NotListening, Row}
use Rattle.receiving.specs.Decisions.{header_decision, payload_decision}
use Rattle.receiving.specs.Steps.{View, deaf, fed, headed, heading, loaded, loading, whole, with_header_row, with_payload_row}
use Rattle.receiving.proofs.Holdings.{accepts, hears, holding}
use Rattle.receiving.proofs.Nexts.{Next, decided_legal, fed_in_header, fed_in_payload, in_header, in_payload, legal_rows, next_of}
use Rattle.receiving.proofs.RowLists.{with_row}
use Rattle.receiving.proofs.Views.{unfit, unheard}

-- an error is no answer
error_is_no_answer : (r : Result ℕ FeedRefusal) (e : FeedRefusal) (n : ℕ) → r ≡ Err e → r ≡ Ok n → ⊥
error_is_no_answer r e n p q = cc

same_number : (m n : ℕ) → ◌≡◌ {A = Result ℕ FeedRefusal} (Ok m) (Ok n) → m ≡ n
same_number m n e = cc

-- a row that is answered is accepted
pub answered_is_accepted : (v : View) (row : List ℕ) (n : ℕ) → (fed v row).1 ≡ Ok n → accepts v row ≡ true
answered_is_accepted v row n e = of (accepts v row) refl
  where
    dead : (b : Bool) → hears v ≡ b → accepts v row ≡ false → ⊥
    dead true h a = error_is_no_answer (fed v row).1 Row n (ap (λ q. q.1) (unfit v row h a)) e
    dead false h a = error_is_no_answer (fed v row).1 NotListening n (ap (λ q. q.1) (unheard v row h)) e

    of : (b : Bool) → accepts v row ≡ b → accepts v row ≡ true
    of true a = a
    of false a = absurd (dead (hears v) refl a)

-- who accepts a row listens
pub accepting_hears : (v : View) (row : List ℕ) → accepts v row ≡ true → hears v ≡ true
accepting_hears deaf row a = a
accepting_hears (heading reference n cells) row a = refl
accepting_hears (loading h n cells) row a = refl
accepting_hears (whole h bytes) row a = a

-- A whole frame.
abbrev pub AWhole : View → Type 0
AWhole v = (h : Header) × ((bytes : List ℕ) × (v ≡ whole h bytes))

-- a header row is never answered with 0
header_row_not_zero : (reference : List ℕ) (n : ℕ) (cells : List ℕ) → (with_header_row reference n cells).1 ≡ Ok 0 → ⊥
header_row_not_zero reference n cells e = of (cases_lt n header_rows)
  where
    by : (d : Result Header FeedRefusal) → header_decision reference cells ≡ d → (headed n cells d).1 ≡ Ok 0 → ⊥
    by (Err f) d z = error_is_no_answer (Err f) f 0 refl z
    by (Ok h) d z =
        let more = legal_rows h (decided_legal reference cells h d) in
        let none = same_number (payload_rows h.fl) 0 z in omega arith

    of : (n < header_rows) ⊎ (header_rows ≤ n) → ⊥
    of (inl l) = let z = rw (lt-ltb n header_rows l) at e in let none = same_number (header_rows - n) 0 z in omega arith
    of (inr l) = let z = rw (le-ltb n header_rows l) at e in by (header_decision reference cells) refl z

-- and a payload row if it makes a frame whole
payload_row_zero : (h : Header) (n : ℕ) (cells : List ℕ) → (with_payload_row h n cells).1 ≡ Ok 0 → AWhole (with_payload_row h n cells).0
payload_row_zero h n cells e = of (cases_lt n (row_count h.fl))
  where
    by : (p : Result (List ℕ) FeedRefusal) → (loaded h p).1 ≡ Ok 0 → AWhole (loaded h p).0
    by (Ok bytes) z = (h, (bytes, refl))
    by (Err f) z = absurd (error_is_no_answer (Err f) f 0 refl z)

    of : (n < row_count h.fl) ⊎ (row_count h.fl ≤ n) → AWhole (with_payload_row h n cells).0
    of (inl l) =
        let z = rw (lt-ltb n (row_count h.fl) l) at e in
        let none = same_number (row_count h.fl - n) 0 z in absurd (omega arith)
    of (inr l) =
        let z = rw (le-ltb n (row_count h.fl) l) at e in
        rw (le-ltb n (row_count h.fl) l) (by (payload_decision h cells) z)

pub zero_makes_whole : (o : Option (List ℕ)) (rows : List (List ℕ)) (row : List ℕ) → (fed (holding o rows) row).1 ≡ Ok 0 → AWhole (fed (holding o rows) row).0
zero_makes_whole None rows row e = absurd (error_is_no_answer (Err NotListening) NotListening 0 refl e)
zero_makes_whole (Some reference) rows row e =
    of (next_of reference rows row (answered_is_accepted (holding (Some reference) rows) row 0 e))
  where
    of : Next reference rows row → AWhole (fed (holding (Some reference) rows) row).0
    of (in_header l i) =
        let q = fed_in_header reference rows row l i in
        absurd (header_row_not_zero reference (length (with_row rows row)) (cells_of (with_row rows row)) (sym (ap (λ p. p.1) q) ∙ e))
    of (in_payload h l d m i) =
        let q = fed_in_payload reference rows row h l d m i in
        subst
        AWhole
        (sym (ap (λ p. p.0) q))
        (payload_row_zero h (length (with_row rows row)) (cells_of (with_row rows row)) (sym (ap (λ p. p.1) q) ∙ e))
