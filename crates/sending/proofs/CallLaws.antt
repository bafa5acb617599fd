-- What the inner calls of sending leave.
use Rattle.std.proofs.Common.{◌≡◌, ℕ, ◌+◌, ◌-◌, ◌*◌, ◌≤◌, true, List, ◌++◌, length, take, drop, Ok, Err, Result, sym, ap, ◌∙◌, subst, arith, length-drop, take-append-drop, length-take, take_all, drop-drop}
use borrow.Rule.Slice.PartMut.{put_mid}
use Rattle.stage.specs.Calls.{Coded}
use Rattle.stage.specs.Model.{coding}
use Rattle.stage.specs.Plain.{within}
use Rattle.stage.specs.declared.faults.Refusal.{Refusal as StageRefusal}
use Rattle.frame.specs.declared.headers.Header.{Header}
use Rattle.frame.specs.Answers.{Legal, payload}
use Rattle.frame.specs.Sizes.{live_carriers, payload_rows}
use Rattle.packing.specs.Bits.{header_bits}
use Rattle.chains.specs.Calls.{code_header_answer, code_payload_answer}
use Rattle.chains.specs.Chains.{header_chain}
use Rattle.chains.specs.declared.refusals.ChainRefusal.{ChainRefusal}
use Rattle.rows.specs.Carriers.{gathered, is_reference, spread}
use Rattle.chains.proofs.Callers.{code_header_answered, code_payload_answered}
use Rattle.packing.proofs.HeaderBits.{header_bits_length, header_bits_within}
use Rattle.rows.proofs.ChainLaws.{reference_parts, row_gathered}
use Rattle.sending.specs.Sendings.{frame_cells, header_part}

-- The coded header fills the buffer that was lent for it.
pub header_filled : (h : Header) (reference bits work result work' result' : List ℕ) (told : Result ℕ StageRefusal) → is_reference reference ≡ true → bits ≡ header_bits h
    → length work ≡ 468 → length result ≡ 468 → length result' ≡ 468 → told ≡ code_header_answer reference bits (length work) (length result)
    → Coded (coding (header_chain reference) bits) told work result work' result' → result' ≡ header_part h reference
header_filled h reference bits work result work' result' told r e w s l t c =
    let long = reference_parts reference r in
    let answered : told ≡ Ok 468 = t ∙ ap (λ q. code_header_answer reference q (length work) (length result)) e ∙ code_header_answered reference (header_bits h) (length work) (length result) long.0 long.1 (header_bits_length h) (header_bits_within h) (omega arith) (omega arith) in
    let done = subst (λ q. Coded (coding (header_chain reference) bits) q work result work' result') answered c in
    sym (take_all 468 result' (omega arith)) ∙ done.0 ∙ ap (coding (header_chain reference)) e

-- A payload of the right length is coded.
pub payload_never_refused : (h : Header) (row reference bytes work result : List ℕ) (told : Result ℕ ChainRefusal) (why : ChainRefusal) → Legal h → is_reference row ≡ true → reference ≡ gathered h.tm row
    → length bytes ≡ payload h → within 255 bytes ≡ true → length work ≡ 9072 → length result ≡ 9072 → told ≡ code_payload_answer h reference bytes (length work) (length result) → told ≡ Err why → ⊥
payload_never_refused h row reference bytes work result told why legal r e k b w s t o =
    let live = row_gathered h row legal r in
    let a : ◌≡◌ {A = Result ℕ ChainRefusal} (Ok (live_carriers h.tm * payload_rows h.fl)) (Err why) =
    sym (t ∙ ap (λ q. code_payload_answer h q bytes (length work) (length result)) e ∙ code_payload_answered h legal (gathered h.tm row) bytes (length work) (length result) live.0 live.1 k b (omega arith) (omega arith)) ∙ o in
    cc

-- A list whose front and rest are known.
pub front_and_rest : (n : ℕ) (xs front behind : List ℕ) → length front ≡ n → take n xs ≡ take n front → drop n xs ≡ drop n behind → xs ≡ front ++ drop n behind
front_and_rest n xs front behind l f r =
    sym (take-append-drop n xs) ∙ ap (λ q. q ++ drop n xs) (f ∙ take_all n front (omega arith)) ∙ ap (λ q. front ++ q) r

-- A part in the middle of a buffer is written: what stands before it and behind it stays.
pub middle_written : (h : Header) (given cells part : List ℕ) (rows : ℕ) → rows ≡ payload_rows h.fl → frame_cells h ≤ length cells
    → part ≡ spread h.tm (length (take (468 + 36 * rows - 468) (drop 468 cells))) given
    → put_mid 468 (468 + 36 * rows - 468) cells part ≡ take 468 cells ++ (spread h.tm (36 * payload_rows h.fl) given ++ drop (frame_cells h) cells)
middle_written h given cells part rows r room e =
    let k : 468 + 36 * rows - 468 ≡ 36 * rows = omega arith in
    let l : length (take (468 + 36 * rows - 468) (drop 468 cells)) ≡ 36 * payload_rows h.fl =
    omega (arith, length-take (468 + 36 * rows - 468) (drop 468 cells), length-drop 468 cells) in
    let f : 468 + (468 + 36 * rows - 468) ≡ frame_cells h = omega arith in
    ap (λ q. take 468 cells ++ (q ++ drop (468 + 36 * rows - 468) (drop 468 cells))) (e ∙ ap (λ q. spread h.tm q given) l)
    ∙ ap (λ q. take 468 cells ++ (spread h.tm (36 * payload_rows h.fl) given ++ q)) (drop-drop (468 + 36 * rows - 468) 468 cells ∙ ap (λ q. drop q cells) f)
