-- What the laws of receiving use of the two decisions, and of the codings that they undo.
use Rattle.std.proofs.Common.{◌≡◌, ℕ, true, List, length, drop, Ok}
use Rattle.stage.specs.Model.{coding}
use Rattle.stage.specs.Plain.{within}
use Rattle.frame.specs.declared.headers.Header.{Header}
use Rattle.frame.specs.Answers.{Legal}
use Rattle.chains.specs.Chains.{payload_chain}
use Rattle.rows.specs.Carriers.{gathered, highest_phase, is_reference, row_at}
use Rattle.rows.specs.Rows.{Frame, HeaderCells, header_cells, last_header_row, payload_reference}
use Rattle.receiving.specs.Decisions.{header_decision, payload_decision}

-- The live cells behind the header's are the payload's coding from the last header row on.
abbrev pub OnLive : Header → List ℕ → List ℕ → Type 0
OnLive h bytes cells =
    gathered h.tm (drop header_cells cells) ≡ coding (payload_chain h (payload_reference h cells)) bytes

-- The decisions are exact, and what the chains put out are phases.
pub record Exact : Type 0 where
  pub header_only : (reference cells : List ℕ) (h : Header) → is_reference reference ≡ true → header_decision reference cells ≡ Ok h → Legal h × HeaderCells reference h cells
  pub header_if : (reference cells : List ℕ) (h : Header) → is_reference reference ≡ true → Legal h → HeaderCells reference h cells → header_decision reference cells ≡ Ok h
  pub header_phases : (reference cells : List ℕ) (h : Header) → is_reference reference ≡ true → Legal h → HeaderCells reference h cells → (length cells ≡ header_cells) × (within highest_phase cells ≡ true)
  pub payload_only : (h : Header) (bytes cells : List ℕ) → Legal h → is_reference (row_at last_header_row cells) ≡ true → payload_decision h cells ≡ Ok bytes → Frame h bytes × OnLive h bytes cells
  pub payload_if : (h : Header) (bytes cells : List ℕ) → Frame h bytes → is_reference (row_at last_header_row cells) ≡ true → OnLive h bytes cells → payload_decision h cells ≡ Ok bytes
  pub payload_phases : (h : Header) (bytes cells : List ℕ) → Frame h bytes → is_reference (row_at last_header_row cells) ≡ true → OnLive h bytes cells → within highest_phase (gathered h.tm (drop header_cells cells)) ≡ true
