-- A stage call: a direction, a list, and the lengths of the two buffers lent.
use Rattle.std.specs.Prelude.{ℕ, List, Some, None, Ok, Err, vec_items, Option, Result}
use Rattle.wording.specs.Calls.{nothing_behind, read_list, read_number, then_read}
use Rattle.wording.specs.declared.requests.Direction.{Direction}
use Rattle.wording.specs.declared.requests.Direction.TheVariants.{Code, Decode}
use Rattle.wording.specs.declared.requests.Request.{Request}
use Rattle.wording.specs.Texts.{code_text, decode_text, refusal_text, served}
use Rattle.stage.specs.declared.faults.Refusal.{Refusal}
use Rattle.stage.specs.Model.{Model}

-- What is asked of a stage: a list and two lengths.
pub record Asked : Type 0 where
  pub list : List ℕ
  pub work : ℕ
  pub result : ℕ

abbrev pub asking : List ℕ → ℕ → ℕ → Asked
asking xs work result = record { list = xs; work = work; result = result }

-- What a request asks.
abbrev pub asked : Request → Asked
asked r = record { list = vec_items r.list; work = r.work; result = r.result }

-- The words of a request: a list, the length of the work buffer, the length of the result buffer, and
-- the line's end.
abbrev pub read_request : List (List ℕ) → Option Asked
read_request ws =
    then_read (read_list ws)
    (λ xs ws1. then_read (read_number ws1)
    (λ w ws2. then_read (read_number ws2)
    (λ r rest. nothing_behind (asking xs (served w) (served r)) rest)))

-- The answer of a stage with this meaning.
abbrev pub stage_text : Direction → Model → Asked → List ℕ
stage_text Code m q = code_text m q.list q.work q.result
stage_text Decode m q = decode_text m q.list q.work q.result

-- The answer to a request of a stage, or of settings that make none.
abbrev pub made_text : Direction → Result Model Refusal → Asked → List ℕ
made_text d (Ok m) q = stage_text d m q
made_text d (Err e) q = refusal_text e

-- The answer to a request, if it can be read.
abbrev pub answer_to : Direction → Result Model Refusal → Option Asked → Option (List ℕ)
answer_to d made None = None
answer_to d made (Some q) = Some (made_text d made q)
