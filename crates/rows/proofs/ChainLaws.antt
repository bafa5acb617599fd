-- The two chains as the rows of a frame use them.
use Rattle.std.proofs.Common.{◌≡◌, ℕ, ◌*◌, true, eqb, List, length, ◌∙◌, arith}
use Rattle.std.proofs.lemmas.Bool.{and_parts, eqb-true}
use Rattle.stage.specs.Model.{legal}
use Rattle.stage.specs.Plain.{within}
use Rattle.frame.specs.declared.headers.Header.{Header}
use Rattle.frame.specs.Answers.{Legal, payload}
use Rattle.frame.specs.Sizes.{live_carriers, payload_rows}
use Rattle.packing.specs.Bits.{header_bits}
use Rattle.packing.proofs.HeaderBits.{header_bits_length, header_bits_within}
use Rattle.chains.specs.Carries.{Carries}
use Rattle.chains.specs.Chains.{header_chain, payload_chain}
use Rattle.chains.proofs.HeaderSteps.{header_carries}
use Rattle.chains.proofs.PayloadSteps.{payload_carries}
use Rattle.rows.specs.Carriers.{gathered, is_reference}
use Rattle.rows.proofs.CarrierLaws.{gathered_length, gathered_within}
use Rattle.chains.proofs.Callers.{right_is_legal}
use Rattle.rows.proofs.RowLaws.{legal_tone_map_low}

-- A reference has 36 cells, and each is a phase.
pub reference_parts : (reference : List ℕ) → is_reference reference ≡ true → (length reference ≡ 36) × (within 7 reference ≡ true)
reference_parts reference h =
    let p = and_parts (eqb (length reference) 36) (within 7 reference) h in
    (eqb-true (length reference) 36 p.0, p.1)

-- The header chain over a reference carries a header's bits.
pub reference_carries : (reference : List ℕ) → is_reference reference ≡ true → Carries (header_chain reference) 1 28 468 468
reference_carries reference h = let p = reference_parts reference h in header_carries reference p.0 p.1

pub header_bits_legal : (h : Header) (reference : List ℕ) → is_reference reference ≡ true → legal (header_chain reference) (header_bits h) ≡ true
header_bits_legal h reference r =
    right_is_legal (header_chain reference) 1 28 468 468 (reference_carries reference r) (header_bits h) (header_bits_length h) (header_bits_within h)

-- The live cells of a row of phases: one for each live carrier.
pub row_gathered : (h : Header) (row : List ℕ) → Legal h → is_reference row ≡ true → (length (gathered h.tm row) ≡ live_carriers h.tm) × (within 7 (gathered h.tm row) ≡ true)
row_gathered h row legal r =
    let p = reference_parts row r in
    let l : length row ≡ 36 * 1 = p.0 in
    let m : live_carriers h.tm * 1 ≡ live_carriers h.tm = omega arith in
    (gathered_length h.tm 1 row (legal_tone_map_low h legal) l ∙ m, gathered_within 7 h.tm row p.1)

-- The payload chain of a legal header over the live cells of a row of phases carries the payload.
pub row_carries : (h : Header) (row : List ℕ) → Legal h → is_reference row ≡ true
    → Carries (payload_chain h (gathered h.tm row)) 255 (payload h) (live_carriers h.tm * payload_rows h.fl) 9072
row_carries h row legal r =
    let g = row_gathered h row legal r in
    payload_carries h legal (gathered h.tm row) g.0 g.1
