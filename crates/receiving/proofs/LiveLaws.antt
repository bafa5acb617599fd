-- Live cells gathered into buffers, as the payload chain takes them.
use Rattle.std.proofs.Common.{◌≡◌, ℕ, ◌-◌, ◌*◌, true, eqb, List, length, take, ap, ◌∙◌, arith}
use Rattle.std.proofs.lemmas.Bool.{and_from, eq-eqb}
use Rattle.stage.specs.Calls.{Holds}
use Rattle.stage.specs.Plain.{within}
use Rattle.frame.specs.declared.headers.Header.{Header}
use Rattle.frame.specs.Answers.{Legal}
use Rattle.frame.specs.Sizes.{live_carriers, payload_rows}
use Rattle.chains.specs.Chains.{is_row}
use Rattle.rows.specs.Carriers.{gathered, is_reference}
use Rattle.rows.proofs.CarrierLaws.{gathered_length}
use Rattle.rows.proofs.ChainLaws.{row_gathered}
use Rattle.rows.proofs.RowLaws.{legal_tone_map_low}

-- A part from the first element on that was held.
pub part_held : (buffer xs : List ℕ) (n : ℕ) → Holds buffer n xs → take (n - 0) buffer ≡ xs
part_held buffer xs n h = let z : n - 0 ≡ n = omega arith in ap (λ k. take k buffer) z ∙ h.front

-- The live cells of a reference are a reference of the payload chain.
pub live_row : (h : Header) (row part : List ℕ) → Legal h → is_reference row ≡ true → part ≡ gathered h.tm row → is_row (live_carriers h.tm) part ≡ true
live_row h row part legal r e =
    let g = row_gathered h row legal r in
    and_from
    (eqb (length part) (live_carriers h.tm))
    (within 7 part)
    (eq-eqb (length part) (live_carriers h.tm) (ap length e ∙ g.0))
    (ap (within 7) e ∙ g.1)

-- The live cells of all payload rows are as many as the payload chain takes.
pub live_long : (h : Header) (cells part : List ℕ) → Legal h → length cells ≡ 36 * payload_rows h.fl → part ≡ gathered h.tm cells → length part ≡ live_carriers h.tm * payload_rows h.fl
live_long h cells part legal l e = ap length e ∙ gathered_length h.tm (payload_rows h.fl) cells (legal_tone_map_low h legal) l
