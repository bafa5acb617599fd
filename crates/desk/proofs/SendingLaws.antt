-- What beginning and finishing a frame came to.
use Rattle.std.proofs.Common.{◌≡◌, ℕ, List, length, Some, None, Ok, Err, Option, Result, sym, ap, ◌∙◌, arith}
use Rattle.desk.specs.Sending.{Begins, Finishes}
use Rattle.frame.specs.declared.headers.Header.{Header}
use Rattle.sending.specs.declared.begun.Begun.{Begun}
use Rattle.sending.specs.declared.refusals.BeginRefusal.{BeginRefusal}
use Rattle.sending.specs.declared.refusals.FinishRefusal.{FinishRefusal}
use Rattle.sending.specs.declared.refusals.Unfinished.{Unfinished}
use Rattle.sending.specs.Sendings.{begin_answer, begin_buffer, begun_told, finish_answer, finish_buffer, finish_refusal, finish_told, finish_unless}

pub begins : (h : Header) (row cells slice after : List ℕ) (r : Result Begun BeginRefusal) → slice ≡ cells → begun_told r ≡ begin_answer h row (length slice) → after ≡ begin_buffer h row (begun_told r) slice → Begins h row cells r after
begins h row cells slice after (Ok b) es e c =
    (ap (λ (xs : List ℕ). begin_answer h row (length xs)) (sym es) ∙ sym e, c ∙ ap (begin_buffer h row (Ok b.header)) es)
begins h row cells slice after (Err x) es e c = ap (λ (xs : List ℕ). begin_answer h row (length xs)) (sym es) ∙ sym e

-- the header that is handed back is that of the begun frame
handed_back : (o : Option FinishRefusal) (h k : Header) (why : FinishRefusal) → Err (why, k) ≡ finish_unless o h → k ≡ h
handed_back None h k why e = let z : ◌≡◌ {A = ℕ} 0 1 = cc in let w : ⊥ = omega arith in absurd w
handed_back (Some x) h k why e = let pair : ◌≡◌ {A = FinishRefusal × Header} (why, k) (x, h) = cc in ap (λ (p : FinishRefusal × Header). p.1) pair

pub finishes : (h : Header) (bytes cells slice after : List ℕ) (r : Result ℕ Unfinished) → slice ≡ cells → finish_told r ≡ finish_answer h bytes slice → after ≡ finish_buffer h bytes (finish_told r) slice → Finishes h bytes cells r after
finishes h bytes cells slice after (Ok rows) es e b =
    (ap (finish_answer h bytes) (sym es) ∙ sym e, b ∙ ap (finish_buffer h bytes (Ok rows)) es)
finishes h bytes cells slice after (Err u) es e b =
    let k : u.begun.header ≡ h = handed_back (finish_refusal h (length bytes) slice) h u.begun.header u.why e in
    (ap (finish_answer h bytes) (sym es) ∙ sym e ∙ ap (λ (g : Header). Err (u.why, g)) k, (k, b ∙ es))
