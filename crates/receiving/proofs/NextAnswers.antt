-- What the next call answers after any history.
use Rattle.std.proofs.Common.{◌≡◌, ℕ, ◌<◌, Bool, true, false, List, Some, None, Ok, Err, Option, sym, refl, ap, ◌∙◌, subst, arith}
use Rattle.std.proofs.lemmas.Bool.{and_from, and_right, false≢true, true≢false}
use Rattle.frame.specs.declared.headers.Header.{Header}
use Rattle.frame.specs.Answers.{payload}
use Rattle.receiving.specs.declared.refusals.FeedRefusal.TheVariants.{NotListening, Row}
use Rattle.receiving.specs.declared.refusals.TakeRefusal.TheVariants.{NoFrame, TooShort}
use Rattle.receiving.specs.Histories.{Call, Complete, Handed, counted, fits_next, listens, reference_of, run}
use Rattle.receiving.specs.Laws.{Due, Tells}
use Rattle.receiving.specs.Steps.{View, deaf, fed, heading, loading, taken, whole}
use Rattle.receiving.proofs.Counts.{KeptUnder, counted_is_kept}
use Rattle.receiving.proofs.Exactness.{Exact}
use Rattle.receiving.proofs.Handings.{complete_by_held, complete_length, handed_tested, held_by_complete, run_handed, run_listening, run_unhanded, tested_handed}
use Rattle.receiving.proofs.Holdings.{accepts, holding, was_handed}
use Rattle.receiving.proofs.RowLists.{with_row}
use Rattle.receiving.proofs.Tellings.{tells_next}
use Rattle.receiving.proofs.Views.{counts_accepts, listens_hears, taken_whole, unfit, unheard, whole_taken, whole_too_long}

deaf_is_not_whole : (h : Header) (bytes : List ℕ) → deaf ≡ whole h bytes → ⊥
deaf_is_not_whole h bytes e = cc

-- a receiver with a whole frame handed none over
whole_unhanded : (cs : List Call) (h : Header) (bytes : List ℕ) → run cs ≡ whole h bytes → was_handed cs ≡ false
whole_unhanded cs h bytes w = of (was_handed cs) refl
  where
    of : (b : Bool) → was_handed cs ≡ b → was_handed cs ≡ false
    of true t = absurd (deaf_is_not_whole h bytes (sym (run_handed cs t) ∙ w))
    of false t = t

unhanded_tested : (exact : Exact) (cs : List Call) → (Handed cs → ⊥) → was_handed cs ≡ false
unhanded_tested exact cs n = of (was_handed cs) refl
  where
    of : (b : Bool) → was_handed cs ≡ b → was_handed cs ≡ false
    of true t = absurd (n (tested_handed exact cs t))
    of false t = t

run_complete : (exact : Exact) (cs : List Call) (h : Header) (bytes : List ℕ) → Complete cs h bytes → (Handed cs → ⊥) → run cs ≡ whole h bytes
run_complete exact cs h bytes f n =
    run_unhanded cs (unhanded_tested exact cs n) ∙ held_by_complete exact cs h bytes f

-- takes
pub taken_is_due : (exact : Exact) (cs : List Call) (room : ℕ) (h : Header) (bytes : List ℕ) → (taken (run cs) room).1 ≡ Ok (h, bytes) → Due cs room h bytes
taken_is_due exact cs room h bytes e =
    let w = taken_whole (run cs) room h bytes e in
    let un = whole_unhanded cs h bytes w.0 in
    let f = complete_by_held exact cs h bytes (sym (run_unhanded cs un) ∙ w.0) in
    let n = complete_length (reference_of cs) (counted cs) h bytes f in
    let l = w.1 in
    record { complete = f; room_enough = omega arith; not_handed = λ t. true≢false (sym (handed_tested exact cs t) ∙ un) }

pub due_is_taken : (exact : Exact) (cs : List Call) (room : ℕ) (h : Header) (bytes : List ℕ) → Due cs room h bytes → (taken (run cs) room).1 ≡ Ok (h, bytes)
due_is_taken exact cs room h bytes d =
    let n = complete_length (reference_of cs) (counted cs) h bytes d.complete in
    let l = d.room_enough in
    ap (λ v. (taken v room).1) (run_complete exact cs h bytes d.complete d.not_handed) ∙ whole_taken h bytes room (omega arith)

pub too_short : (exact : Exact) (cs : List Call) (room : ℕ) (h : Header) (bytes : List ℕ) → Complete cs h bytes → (Handed cs → ⊥) → room < payload h
    → (taken (run cs) room).1 ≡ Err TooShort
too_short exact cs room h bytes f un l =
    let n = complete_length (reference_of cs) (counted cs) h bytes f in
    ap (λ v. (taken v room).1) (run_complete exact cs h bytes f un) ∙ whole_too_long h bytes room (omega arith)

no_whole_no_frame : (v : View) (room : ℕ) → ((h : Header) (bytes : List ℕ) → v ≡ whole h bytes → ⊥) → (taken v room).1 ≡ Err NoFrame
no_whole_no_frame deaf room n = refl
no_whole_no_frame (heading reference k cells) room n = refl
no_whole_no_frame (loading h k cells) room n = refl
no_whole_no_frame (whole h bytes) room n = absurd (n h bytes refl)

pub no_frame : (exact : Exact) (cs : List Call) (room : ℕ) → ((h : Header) (bytes : List ℕ) → Complete cs h bytes → Handed cs) → (taken (run cs) room).1 ≡ Err NoFrame
no_frame exact cs room n =
    no_whole_no_frame (run cs) room (λ h bytes w.
    let un = whole_unhanded cs h bytes w in
    let f = complete_by_held exact cs h bytes (sym (run_unhanded cs un) ∙ w) in
    true≢false (sym (handed_tested exact cs (n h bytes f)) ∙ un))

-- feeds that are refused
pub not_listening : (cs : List Call) (row : List ℕ) → listens (reference_of cs) (counted cs) ≡ false → (fed (run cs) row).1 ≡ Err NotListening
not_listening cs row l = of (was_handed cs) refl
  where
    of : (b : Bool) → was_handed cs ≡ b → (fed (run cs) row).1 ≡ Err NotListening
    of true t = ap (λ v. (fed v row).1) (run_handed cs t)
    of false t =
        ap (λ v. (fed v row).1) (run_unhanded cs t)
        ∙ ap (λ q. q.1) (unheard (holding (reference_of cs) (counted cs)) row (sym (listens_hears (reference_of cs) (counted cs)) ∙ l))

pub not_next : (cs : List Call) (row : List ℕ) → listens (reference_of cs) (counted cs) ≡ true → fits_next (reference_of cs) (counted cs) row ≡ false
    → (fed (run cs) row).1 ≡ Err Row
not_next cs row l f =
    let o = reference_of cs in
    let rows = counted cs in
    let h = sym (listens_hears o rows) ∙ l in
    let a = sym (counts_accepts o rows row) ∙ and_right (listens o rows) (fits_next o rows row) f in
    ap (λ v. (fed v row).1) (run_listening cs l) ∙ ap (λ q. q.1) (unfit (holding o rows) row h a)

-- feeds whose row counts
pub tells_under : (exact : Exact) (o : Option (List ℕ)) (reference : List ℕ) (rows : List (List ℕ)) (row : List ℕ) → o ≡ Some reference
    → KeptUnder o rows → accepts (holding o rows) row ≡ true
    → Tells reference (with_row rows row) (fed (holding o rows) row).1
tells_under exact None reference rows row e k a = absurd (false≢true a)
tells_under exact (Some other) reference rows row e k a =
    let p : other ≡ reference = cc in
    subst (λ (x : List ℕ). Tells x (with_row rows row) (fed (holding (Some other) rows) row).1) p (tells_next exact other rows row k a)

pub tells_counted : (exact : Exact) (cs : List Call) (row reference : List ℕ) → reference_of cs ≡ Some reference
    → listens (reference_of cs) (counted cs) ≡ true → fits_next (reference_of cs) (counted cs) row ≡ true
    → Tells reference (with_row (counted cs) row) (fed (run cs) row).1
tells_counted exact cs row reference e l f =
    let o = reference_of cs in
    let rows = counted cs in
    let a = sym (counts_accepts o rows row) ∙ and_from (listens o rows) (fits_next o rows row) l f in
    subst
    (λ v. Tells reference (with_row rows row) (fed v row).1)
    (sym (run_listening cs l))
    (tells_under exact o reference rows row e (counted_is_kept cs) a)
