-- The chains of a frame as stages: what their calls are answered.
use Rattle.std.specs.Prelude.{ℕ, cond, List, Some, None, Ok, Err, Option, Result}
use Rattle.chains.specs.Calls.{made_header_chain, made_payload_chain}
use Rattle.chains.specs.declared.refusals.ChainRefusal.{ChainRefusal}
use Rattle.chains.specs.declared.refusals.ChainRefusal.TheVariants.{Header as BadHeader, Reference}
use Rattle.chains.specs.Refusals.{number_of}
use Rattle.frame.specs.Answers.{size_answer}
use Rattle.frame.specs.declared.headers.Header.{Header}
use Rattle.frame.specs.declared.refusals.Refusal.{Refusal}
use Rattle.wording.specs.Calls.{read_number, then_read}
use Rattle.wording.specs.Cells.{read_cells}
use Rattle.wording.specs.declared.requests.Direction.{Direction}
use Rattle.wording.specs.Requests.{Asked, answer_to, read_request, stage_text}
use Rattle.wording.specs.Texts.{refused_text}
use Rattle.rows.specs.Carriers.{gathered, is_reference}
use Rattle.stage.specs.Model.{Model}

-- `header CELLS`: the header chain over a reference row.
abbrev pub header_reply : Direction → List (List ℕ) → Option (List ℕ)
header_reply d ws = then_read (read_cells ws) (λ row ws1. answer_to d (made_header_chain row) (read_request ws1))

-- The header that sets a payload chain: PDC and DT are 0.
abbrev pub setting : ℕ → ℕ → ℕ → Header
setting mo fl tm = record { pdc = 0; modulation = mo; fl = fl; tm = tm; dt = 0 }

-- The payload chain of a header behind a row: refused for the header if it has no size, then for a row
-- that is no reference.
abbrev pub payload_sized : Result (ℕ × ℕ) Refusal → Header → List ℕ → Result Model ChainRefusal
payload_sized (Err e) h row = Err (BadHeader e)
payload_sized (Ok size) h row = cond (is_reference row) (made_payload_chain h (gathered h.tm row)) (Err Reference)

abbrev pub payload_behind : Header → List ℕ → Result Model ChainRefusal
payload_behind h row = payload_sized (size_answer h) h row

-- The answer to a request of a chain, or of settings that make none.
abbrev pub chain_text : Direction → Result Model ChainRefusal → Asked → List ℕ
chain_text d (Ok m) q = stage_text d m q
chain_text d (Err e) q = refused_text (number_of e)

-- The answer to a request of a chain, if it can be read.
abbrev pub chain_answer : Direction → Result Model ChainRefusal → Option Asked → Option (List ℕ)
chain_answer d made None = None
chain_answer d made (Some q) = Some (chain_text d made q)

-- The row, and what is asked of the payload chain of a header behind it.
abbrev pub row_reply : Header → Direction → List (List ℕ) → Option (List ℕ)
row_reply h d ws = then_read (read_cells ws) (λ row ws1. chain_answer d (payload_behind h row) (read_request ws1))

-- `payload MOD FL TM CELLS`: the payload chain for these numbers behind a row.
abbrev pub payload_reply : Direction → List (List ℕ) → Option (List ℕ)
payload_reply d ws =
    then_read (read_number ws)
    (λ mo ws1. then_read (read_number ws1)
    (λ fl ws2. then_read (read_number ws2)
    (λ tm ws3. row_reply (setting mo fl tm) d ws3)))
