-- Frames that were handed over, and what a receiver holds that handed none over.
use Rattle.std.proofs.Common.{◌≡◌, ℕ, ◌≤◌, Bool, true, false, cond, ◌⊎◌, List, [], ◌∷◌, length, Some, None, Option, sym, refl, ap, ◌∙◌, inl, inr, arith}
use Rattle.std.proofs.lemmas.Bool.{and_left, false≢true, le-leb, or_cases, or_left, or_right}
use Rattle.frame.specs.declared.headers.Header.{Header}
use Rattle.frame.specs.Answers.{payload}
use Rattle.rows.specs.Carriers.{is_reference}
use Rattle.receiving.specs.Histories.{Call, Complete, Feed, Handed, RowsUnder, Start, Take, counted, fits_next, listens, reference_of, run}
use Rattle.receiving.specs.Steps.{deaf, whole}
use Rattle.receiving.proofs.Completes.{complete_holds, holds_complete}
use Rattle.receiving.proofs.Counts.{counted_is_kept}
use Rattle.receiving.proofs.Exactness.{Exact}
use Rattle.receiving.proofs.Holdings.{hands, hears, holding, was_handed}
use Rattle.receiving.proofs.Runs.{run_is_held}
use Rattle.receiving.proofs.RowLists.{with_row}
use Rattle.receiving.proofs.Views.{hands_whole, listens_hears}

-- the payload of a frame has the header's length
pub complete_length : (o : Option (List ℕ)) (rows : List (List ℕ)) (h : Header) (bytes : List ℕ) → RowsUnder o h bytes rows → length bytes ≡ payload h
complete_length None rows h bytes f = absurd f
complete_length (Some reference) rows h bytes f = f.frame.exactly

-- the frame of a history is the one that its counted rows hold
pub held_by_complete : (exact : Exact) (cs : List Call) (h : Header) (bytes : List ℕ) → Complete cs h bytes → holding (reference_of cs) (counted cs) ≡ whole h bytes
held_by_complete exact cs h bytes f =
    complete_holds exact (reference_of cs) (counted cs) h bytes (counted_is_kept cs) f

pub complete_by_held : (exact : Exact) (cs : List Call) (h : Header) (bytes : List ℕ) → holding (reference_of cs) (counted cs) ≡ whole h bytes → Complete cs h bytes
complete_by_held exact cs h bytes w =
    holds_complete exact (reference_of cs) (counted cs) h bytes (counted_is_kept cs) w

-- the test says what it says in words
pub handed_tested : (exact : Exact) (cs : List Call) → Handed cs → was_handed cs ≡ true
handed_tested exact [] t = absurd t
handed_tested exact (Start cells ∷ cs) t =
    ap (λ b. cond b false (was_handed cs)) t.0 ∙ handed_tested exact cs t.1
handed_tested exact (Feed row ∷ cs) t = handed_tested exact cs t
handed_tested exact (Take room ∷ cs) (inl t) =
    or_left (was_handed cs) (hands (holding (reference_of cs) (counted cs)) room) (handed_tested exact cs t)
handed_tested exact (Take room ∷ cs) (inr (h, (bytes, (f, l)))) =
    let e = complete_length (reference_of cs) (counted cs) h bytes f in
    or_right
    (was_handed cs)
    (hands (holding (reference_of cs) (counted cs)) room)
    (ap (λ v. hands v room) (held_by_complete exact cs h bytes f) ∙ le-leb (length bytes) room (omega arith))

pub tested_handed : (exact : Exact) (cs : List Call) → was_handed cs ≡ true → Handed cs
tested_handed exact [] t = absurd (false≢true t)
tested_handed exact (Start cells ∷ cs) t = of (is_reference cells) refl t (tested_handed exact cs)
  where
    of : (b : Bool) → is_reference cells ≡ b → cond b false (was_handed cs) ≡ true → (was_handed cs ≡ true → Handed cs) → (is_reference cells ≡ false) × Handed cs
    of true r e back = absurd (false≢true e)
    of false r e back = (r, back e)
tested_handed exact (Feed row ∷ cs) t = tested_handed exact cs t
tested_handed exact (Take room ∷ cs) t =
    of (or_cases (was_handed cs) (hands (holding (reference_of cs) (counted cs)) room) t) (tested_handed exact cs)
  where
    now : (h : Header) (bytes : List ℕ) → holding (reference_of cs) (counted cs) ≡ whole h bytes → length bytes ≤ room → Handed (Take room ∷ cs)
    now h bytes w l =
        let f = complete_by_held exact cs h bytes w in
        let e = complete_length (reference_of cs) (counted cs) h bytes f in inr (h, (bytes, (f, omega arith)))

    of : (was_handed cs ≡ true) ⊎ (hands (holding (reference_of cs) (counted cs)) room ≡ true) → (was_handed cs ≡ true → Handed cs) → Handed (Take room ∷ cs)
    of (inl e) back = inl (back e)
    of (inr e) back =
        let w = hands_whole (holding (reference_of cs) (counted cs)) room e in now w.0 w.1.0 w.1.1.0 w.1.1.1

-- nobody listens behind a frame that was handed over
whole_hears_none : (o : Option (List ℕ)) (rows : List (List ℕ)) (room : ℕ) → hands (holding o rows) room ≡ true → listens o rows ≡ false
whole_hears_none o rows room e =
    let w = hands_whole (holding o rows) room e in listens_hears o rows ∙ ap hears w.1.1.0

pub handed_hears_none : (cs : List Call) → was_handed cs ≡ true → listens (reference_of cs) (counted cs) ≡ false
handed_hears_none [] t = absurd (false≢true t)
handed_hears_none (Start cells ∷ cs) t = of (is_reference cells) t (handed_hears_none cs)
  where
    of : (b : Bool) → cond b false (was_handed cs) ≡ true → (was_handed cs ≡ true → listens (reference_of cs) (counted cs) ≡ false)
        → listens (cond b (Some cells) (reference_of cs)) (cond b [] (counted cs)) ≡ false
    of true e back = absurd (false≢true e)
    of false e back = back e
handed_hears_none (Feed row ∷ cs) t =
    let none = handed_hears_none cs t in
    ap (λ b. listens (reference_of cs) (cond b (with_row (counted cs) row) (counted cs))) (and_left (listens (reference_of cs) (counted cs)) (fits_next (reference_of cs) (counted cs) row) none)
    ∙ none
handed_hears_none (Take room ∷ cs) t =
    of (or_cases (was_handed cs) (hands (holding (reference_of cs) (counted cs)) room) t) (handed_hears_none cs)
  where
    of : (was_handed cs ≡ true) ⊎ (hands (holding (reference_of cs) (counted cs)) room ≡ true)
        → (was_handed cs ≡ true → listens (reference_of cs) (counted cs) ≡ false) → listens (reference_of cs) (counted cs) ≡ false
    of (inl e) back = back e
    of (inr e) back = whole_hears_none (reference_of cs) (counted cs) room e

-- what a receiver holds, by whether it handed its frame over
pub run_handed : (cs : List Call) → was_handed cs ≡ true → run cs ≡ deaf
run_handed cs t = run_is_held cs ∙ ap (λ b. cond b deaf (holding (reference_of cs) (counted cs))) t

pub run_unhanded : (cs : List Call) → was_handed cs ≡ false → run cs ≡ holding (reference_of cs) (counted cs)
run_unhanded cs t = run_is_held cs ∙ ap (λ b. cond b deaf (holding (reference_of cs) (counted cs))) t

pub run_listening : (cs : List Call) → listens (reference_of cs) (counted cs) ≡ true → run cs ≡ holding (reference_of cs) (counted cs)
run_listening cs l = of (was_handed cs) refl
  where
    of : (b : Bool) → was_handed cs ≡ b → run cs ≡ holding (reference_of cs) (counted cs)
    of true t = absurd (false≢true (sym (handed_hears_none cs t) ∙ l))
    of false t = run_unhanded cs t
