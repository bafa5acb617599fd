-- Begun and finished rows are the frame's.
use Rattle.std.proofs.Common.{◌≡◌, ℕ, ◌≤◌, Bool, true, false, cond, eqb, ltb, List, ◌++◌, length, drop, Some, None, Ok, Option, sym, refl, ap, ◌∙◌, subst, arith}
use Rattle.std.proofs.lemmas.Bool.{eqb-true, ltb-false}
use Rattle.stage.specs.Plain.{within}
use Rattle.frame.specs.declared.headers.Header.{Header}
use Rattle.frame.specs.declared.refusals.Refusal.{Refusal}
use Rattle.frame.specs.Answers.{payload, refusal}
use Rattle.rows.specs.Carriers.{is_reference}
use Rattle.sending.specs.declared.refusals.BeginRefusal.{BeginRefusal}
use Rattle.sending.specs.declared.refusals.BeginRefusal.TheVariants.{Reference, TooShort}
use Rattle.sending.specs.declared.refusals.FinishRefusal.{FinishRefusal}
use Rattle.sending.specs.declared.refusals.FinishRefusal.TheVariants.{PayloadLength}
use Rattle.sending.specs.Laws.{HoldsFrame, begun_and_finished}
use Rattle.sending.specs.Sendings.{begin_answer, begin_buffer, begin_legal, begin_refusal, begin_unless, finish_answer, finish_buffer, finish_refusal, finish_unless, frame_cells, header_part, sent}
use Rattle.sending.proofs.SentLaws.{sent_holds, written_is_sent}

some_none : {A : Type 0} (a : A) → ◌≡◌ {A = Option A} (Some a) None → ⊥
some_none a q = cc

begin_none : (o : Option BeginRefusal) (h k : Header) → begin_unless o h ≡ Ok k → o ≡ None
begin_none None h k q = refl
begin_none (Some e) h k q = absurd (cc)

finish_none : (o : Option FinishRefusal) (h : Header) (rows : ℕ) → finish_unless o h ≡ Ok rows → o ≡ None
finish_none None h rows q = refl
finish_none (Some e) h rows q = absurd (cc)

-- What an accepted begin tells.
accepted : (o : Option Refusal) (h : Header) (reference : List ℕ) (room : ℕ) → begin_legal o h reference room ≡ None → (o ≡ None) × ((is_reference reference ≡ true) × (frame_cells h ≤ room))
accepted (Some e) h reference room q = absurd (some_none _ q)
accepted None h reference room q = (refl, of (is_reference reference) (ltb room (frame_cells h)) refl refl q)
  where
    of : (b s : Bool) → is_reference reference ≡ b → ltb room (frame_cells h) ≡ s → cond b (cond s (Some TooShort) None) (Some Reference) ≡ None → (is_reference reference ≡ true) × (frame_cells h ≤ room)
    of true false eb es p = (eb, ltb-false room (frame_cells h) es)
    of true true eb es p = absurd (some_none _ p)
    of false s eb es p = absurd (some_none _ p)

-- What an accepted finish tells of the payload.
exactly : (h : Header) (count : ℕ) (cells : List ℕ) → finish_refusal h count cells ≡ None → count ≡ payload h
exactly h count cells q = of (eqb count (payload h)) refl _ q
  where
    of : (b : Bool) → eqb count (payload h) ≡ b → (inner : Option FinishRefusal) → cond b inner (Some PayloadLength) ≡ None → count ≡ payload h
    of true e inner p = eqb-true count (payload h) e
    of false e inner p = absurd (some_none _ p)

pub begun_and_finished_holds : (h : Header) (reference bytes cells : List ℕ) (rows : ℕ) → within 255 bytes ≡ true → begin_answer h reference (length cells) ≡ Ok h
    → finish_answer h bytes (begin_buffer h reference (begin_answer h reference (length cells)) cells) ≡ Ok rows → HoldsFrame reference h bytes cells (begun_and_finished h reference bytes cells)
begun_and_finished_holds h reference bytes cells rows w b f =
    let a = accepted (refusal h) h reference (length cells) (begin_none (begin_refusal h reference (length cells)) h h b) in
    let buffer = begin_buffer h reference (begin_answer h reference (length cells)) cells in
    let n = exactly h (length bytes) buffer (finish_none (finish_refusal h (length bytes) buffer) h rows f) in
    let same : buffer ≡ header_part h reference ++ drop 468 cells = ap (λ q. begin_buffer h reference q cells) b in
    let written : begun_and_finished h reference bytes cells ≡ sent h reference bytes ++ drop (frame_cells h) cells =
    ap (λ q. finish_buffer h bytes q buffer) f ∙ ap (finish_buffer h bytes (Ok rows)) same ∙ written_is_sent h reference bytes cells a.1.0 a.1.1 in
    subst (HoldsFrame reference h bytes cells) (sym written) (sent_holds h reference bytes cells a.0 a.1.0 n w a.1.1)
