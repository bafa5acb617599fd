-- The chains that references and headers make, and what the calls on them answer.
use Rattle.std.specs.Prelude.{ℕ, cond, List, Ok, Err, Result}
use Rattle.chains.specs.Chains.{header_carriers, header_chain, payload_chain, is_row}
use Rattle.chains.specs.declared.refusals.ChainRefusal.{ChainRefusal}
use Rattle.chains.specs.declared.refusals.ChainRefusal.TheVariants.{Header as BadHeader, Reference, Stage}
use Rattle.frame.specs.declared.headers.Header.{Header}
use Rattle.frame.specs.declared.refusals.Refusal.{Refusal as FrameRefusal}
use Rattle.frame.specs.Answers.{size_answer}
use Rattle.frame.specs.Sizes.{live_carriers}
use Rattle.stage.specs.Calls.{code_answer, decode_answer}
use Rattle.stage.specs.declared.faults.Refusal.{Refusal}
use Rattle.stage.specs.declared.faults.Refusal.TheVariants.{Setting}
use Rattle.stage.specs.Model.{Model}

-- The header chain over a reference, or the refusal of one that is not 36 phases.
abbrev pub made_header_chain : List ℕ → Result Model Refusal
made_header_chain reference = cond (is_row header_carriers reference) (Ok (header_chain reference)) (Err Setting)

-- The payload chain of a header over a reference: refused for the header if it has no size, then
-- for a reference that has not a phase for each live carrier.
abbrev pub payload_chain_sized : Result (ℕ × ℕ) FrameRefusal → Header → List ℕ → Result Model ChainRefusal
payload_chain_sized (Err e) h reference = Err (BadHeader e)
payload_chain_sized (Ok size) h reference =
    cond (is_row (live_carriers h.tm) reference) (Ok (payload_chain h reference)) (Err Reference)

abbrev pub made_payload_chain : Header → List ℕ → Result Model ChainRefusal
made_payload_chain h reference = payload_chain_sized (size_answer h) h reference

-- The answer to a call on a header chain, if it is made.
abbrev pub on_header : Result Model Refusal → (Model → Result ℕ Refusal) → Result ℕ Refusal
on_header (Ok m) call = call m
on_header (Err e) call = Err e

-- `code` and `decode` by the header chain; lengths of the buffers are given.
abbrev pub code_header_answer : List ℕ → List ℕ → ℕ → ℕ → Result ℕ Refusal
code_header_answer reference xs work result = on_header (made_header_chain reference) (λ m. code_answer m xs work result)

abbrev pub decode_header_answer : List ℕ → List ℕ → ℕ → ℕ → Result ℕ Refusal
decode_header_answer reference ys work result = on_header (made_header_chain reference) (λ m. decode_answer m ys work result)

-- A stage's answer as one of the chain, and a chain's as that of a stage: a chain that was not made
-- has a setting out of range.
abbrev pub by_chain : Result ℕ Refusal → Result ℕ ChainRefusal
by_chain (Ok n) = Ok n
by_chain (Err e) = Err (Stage e)

abbrev pub by_its_stage : Result ℕ ChainRefusal → Result ℕ Refusal
by_its_stage (Ok n) = Ok n
by_its_stage (Err (BadHeader e)) = Err Setting
by_its_stage (Err Reference) = Err Setting
by_its_stage (Err (Stage e)) = Err e

-- The answer to a call on a payload chain, if it is made.
abbrev pub on_payload : Result Model ChainRefusal → (Model → Result ℕ Refusal) → Result ℕ ChainRefusal
on_payload (Ok m) call = by_chain (call m)
on_payload (Err e) call = Err e

-- `code` and `decode` by the payload chain; lengths of the buffers are given.
abbrev pub code_payload_answer : Header → List ℕ → List ℕ → ℕ → ℕ → Result ℕ ChainRefusal
code_payload_answer h reference xs work result =
    on_payload (made_payload_chain h reference) (λ m. code_answer m xs work result)

abbrev pub decode_payload_answer : Header → List ℕ → List ℕ → ℕ → ℕ → Result ℕ ChainRefusal
decode_payload_answer h reference ys work result =
    on_payload (made_payload_chain h reference) (λ m. decode_answer m ys work result)
