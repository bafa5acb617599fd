-- The two decisions of a receiver are exact: they give a header and a payload exactly if the cells are
-- theirs. From what the chains carry, and from nothing of their codings.
use Rattle.std.proofs.Common.{◌≡◌, ℕ, ◌*◌, true, List, length, drop, Some, None, Ok, Err, Option, Result, sym, refl, ap, ◌∙◌}
use Rattle.stage.specs.declared.faults.ChainFault.{ChainFault}
use Rattle.stage.specs.Model.{coding, decoding}
use Rattle.stage.specs.Plain.{within}
use Rattle.frame.specs.declared.headers.Header.{Header}
use Rattle.frame.specs.declared.refusals.Refusal.{Refusal}
use Rattle.frame.specs.Answers.{Legal, payload, refusal}
use Rattle.frame.specs.Sizes.{live_carriers, payload_rows}
use Rattle.packing.specs.Bits.{header_bits, header_from}
use Rattle.packing.proofs.HeaderBits.{header_bits_from, header_from_legal}
use Rattle.chains.specs.Chains.{header_chain, payload_chain}
use Rattle.rows.specs.Carriers.{gathered, highest_phase, is_reference, row_at}
use Rattle.rows.specs.Rows.{Frame, HeaderCells, header_cells}
use Rattle.rows.proofs.ChainLaws.{header_bits_legal, reference_carries, row_carries}
use Rattle.chains.proofs.Callers.{coded_is_decoded, coding_is_long, coding_is_phases, decoded_is_coded, legal_is_long, legal_is_low, right_is_legal}
use Rattle.receiving.specs.Decisions.{header_decision, header_unless, header_verdict, payload_decision, payload_verdict}
use Rattle.receiving.proofs.Exactness.{Exact}

unless_ok : (e : Option Refusal) (k h : Header) → header_unless e k ≡ Ok h → (e ≡ None) × (k ≡ h)
unless_ok None k h q = (refl, (cc))
unless_ok (Some e) k h q = absurd (cc)

verdict_ok : (d : Result (List ℕ) ChainFault) (h : Header) → header_verdict d ≡ Ok h → (bits : List ℕ) × ((d ≡ Ok bits) × ((refusal (header_from bits) ≡ None) × (header_from bits ≡ h)))
verdict_ok (Ok bits) h q = (bits, (refl, unless_ok (refusal (header_from bits)) (header_from bits) h q))
verdict_ok (Err f) h q = absurd (cc)

header_told : (reference cells : List ℕ) (h : Header) → is_reference reference ≡ true → header_verdict (decoding (header_chain reference) cells) ≡ Ok h → Legal h × HeaderCells reference h cells
header_told reference cells h r q =
    let c = reference_carries reference r in
    let v = verdict_ok (decoding (header_chain reference) cells) h q in
    let bits = v.0 in
    let d = decoded_is_coded (header_chain reference) 1 28 468 468 c bits cells v.1.0 in
    let long = legal_is_long (header_chain reference) 1 28 468 468 c bits d.0 in
    let low = legal_is_low (header_chain reference) 1 28 468 468 c bits d.0 in
    let same : bits ≡ header_bits h = sym (header_bits_from bits long low) ∙ ap header_bits v.1.1.1 in
    (ap refusal (sym v.1.1.1) ∙ v.1.1.0, d.1 ∙ ap (coding (header_chain reference)) same)

header_found : (reference cells : List ℕ) (h : Header) → is_reference reference ≡ true → Legal h → HeaderCells reference h cells → header_verdict (decoding (header_chain reference) cells) ≡ Ok h
header_found reference cells h r legal e =
    let c = reference_carries reference r in
    let l = header_bits_legal h reference r in
    let f = header_from_legal h legal in
    ap header_verdict (coded_is_decoded (header_chain reference) 1 28 468 468 c (header_bits h) cells l e)
    ∙ ap (λ k. header_unless (refusal k) k) f
    ∙ ap (λ o. header_unless o h) legal

header_is_phases : (reference cells : List ℕ) (h : Header) → is_reference reference ≡ true → HeaderCells reference h cells → (length cells ≡ header_cells) × (within highest_phase cells ≡ true)
header_is_phases reference cells h r e =
    let c = reference_carries reference r in
    let l = header_bits_legal h reference r in (
      ap length e ∙ coding_is_long (header_chain reference) 1 28 468 468 c (header_bits h) l,
      ap (within 7) e ∙ coding_is_phases (header_chain reference) 1 28 468 468 c (header_bits h) l,
    )

payload_ok : (d : Result (List ℕ) ChainFault) (bytes : List ℕ) → payload_verdict d ≡ Ok bytes → d ≡ Ok bytes
payload_ok (Ok xs) bytes q = let e : xs ≡ bytes = cc in ap Ok e
payload_ok (Err f) bytes q = absurd (cc)

payload_told : (h : Header) (bytes live row : List ℕ) → Legal h → is_reference row ≡ true → payload_verdict (decoding (payload_chain h (gathered h.tm row)) live) ≡ Ok bytes
    → Frame h bytes × (live ≡ coding (payload_chain h (gathered h.tm row)) bytes)
payload_told h bytes live row legal r q =
    let m = payload_chain h (gathered h.tm row) in
    let k = live_carriers h.tm * payload_rows h.fl in
    let c = row_carries h row legal r in
    let d = decoded_is_coded m 255 (payload h) k 9072 c bytes live (payload_ok (decoding m live) bytes q) in
    let long = legal_is_long m 255 (payload h) k 9072 c bytes d.0 in
    let low = legal_is_low m 255 (payload h) k 9072 c bytes d.0 in
    (record { legal_header = legal; exactly = long; bytes_only = low }, d.1)

payload_found : (h : Header) (bytes live row : List ℕ) → Frame h bytes → is_reference row ≡ true → live ≡ coding (payload_chain h (gathered h.tm row)) bytes
    → payload_verdict (decoding (payload_chain h (gathered h.tm row)) live) ≡ Ok bytes
payload_found h bytes live row f r e =
    let m = payload_chain h (gathered h.tm row) in
    let k = live_carriers h.tm * payload_rows h.fl in
    let c = row_carries h row f.legal_header r in
    let l = right_is_legal m 255 (payload h) k 9072 c bytes f.exactly f.bytes_only in
    ap payload_verdict (coded_is_decoded m 255 (payload h) k 9072 c bytes live l e)

payload_is_phases : (h : Header) (bytes live row : List ℕ) → Frame h bytes → is_reference row ≡ true → live ≡ coding (payload_chain h (gathered h.tm row)) bytes → within 7 live ≡ true
payload_is_phases h bytes live row f r e =
    let m = payload_chain h (gathered h.tm row) in
    let k = live_carriers h.tm * payload_rows h.fl in
    let c = row_carries h row f.legal_header r in
    let l = right_is_legal m 255 (payload h) k 9072 c bytes f.exactly f.bytes_only in
    ap (within 7) e ∙ coding_is_phases m 255 (payload h) k 9072 c bytes l

-- Both decisions are exact.
pub decisions_exact : Exact
unfolding header_decision payload_decision
decisions_exact =
    record {
      header_only = header_told;
      header_if = header_found;
      header_phases = λ reference cells h r legal e. header_is_phases reference cells h r e;
      payload_only = λ h bytes cells legal r q. payload_told h bytes (gathered h.tm (drop 468 cells)) (row_at 12 cells) legal r q;
      payload_if = λ h bytes cells f r e. payload_found h bytes (gathered h.tm (drop 468 cells)) (row_at 12 cells) f r e;
      payload_phases = λ h bytes cells f r e. payload_is_phases h bytes (gathered h.tm (drop 468 cells)) (row_at 12 cells) f r e;
    }
