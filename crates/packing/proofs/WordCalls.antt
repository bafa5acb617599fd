-- What the calls of stages leave and answer, where the list is legal and the buffers just hold it.
use Rattle.std.proofs.Common.{◌≡◌, ℕ, ◌+◌, ◌-◌, ◌*◌, ◌/◌, ◌≤◌, true, List, length, get_or, take, drop, Ok, Result, sym, refl, ap, ◌∙◌, subst, arith}
use Rattle.std.proofs.lemmas.List.{take_all}
use Rattle.std.proofs.lemmas.Bool.{cond-true}
use Rattle.stage.specs.declared.faults.Refusal.{Refusal}
use Rattle.stage.specs.Calls.{Coded, code_answer}
use Rattle.stage.specs.Lengths.{roomy}
use Rattle.stage.specs.Model.{Model, plain, code_room, coding, fits, legal}
use Rattle.stage.specs.Plain.{within}
use Rattle.stage.proofs.Calling.{roomy_enough}
use Rattle.stage.specs.Legality.{legal_fits, legal_from_parts}
use Rattle.stage.specs.Lists.{some_is_there, within_from}
use Rattle.codings.specs.Checks.{checking}
use Rattle.codings.specs.Unpackers.{eight_bits, unpacked_length, unpacking}
use Rattle.codings.specs.GroupLaws.{length_groups}
use Rattle.codings.specs.UnpackLaws.{eight}
use Rattle.frame.specs.declared.headers.Header.{Header}
use Rattle.packing.specs.Bits.{header_bits, part, value}
use Rattle.packing.proofs.BitLaws.{part_small}
use Rattle.packing.proofs.HeaderBits.{header_bits_length, header_bits_within}
use Rattle.packing.proofs.WordLaws.{legal_for_check, length_checked}

-- a buffer that is as long as the coding of a legal list is that coding after `code`
coded_whole : (m : Model) (list : List ℕ) (r : Result ℕ Refusal) (work result work' result' : List ℕ) → legal m list ≡ true
    → code_room m (length list) ≤ length work → code_room m (length list) ≤ length result → length result' ≡ length (coding m list)
    → r ≡ code_answer m list (length work) (length result) → Coded (coding m list) r work result work' result' → result' ≡ coding m list
coded_whole m list r work result work' result' l w o long e c =
    sym (take_all (length (coding m list)) result' (omega arith))
    ∙ (subst (λ (x : Result ℕ Refusal). Coded (coding m list) x work result work' result') (e ∙ answered) c).0
  where
    answered : code_answer m list (length work) (length result) ≡ Ok (length (coding m list))
    answered =
        cond-true (fits m) _ _ (legal_fits m list l)
        ∙ cond-true (legal m list) _ _ l
        ∙ cond-true (roomy (code_room m (length list)) (length work) (length result)) _ _ (roomy_enough (code_room m (length list)) (length work) (length result) w o)

-- the check of a header's bits
pub header_checked : (h : Header) (bits : List ℕ) (r : Result ℕ Refusal) (work result work' result' : List ℕ) → bits ≡ header_bits h
    → length work ≡ 33 → length result ≡ 33 → length result' ≡ 33
    → r ≡ code_answer (plain checking) bits (length work) (length result) → Coded (coding (plain checking) bits) r work result work' result'
    → result' ≡ coding (plain checking) (header_bits h)
header_checked h bits r work result work' result' e w o long a c =
    let n : length bits ≡ 28 = ap length e ∙ header_bits_length h in
    let room : code_room (plain checking) (length bits) ≡ 33 = ap (code_room (plain checking)) n in
    let l = legal_for_check bits n (ap (within 1) e ∙ header_bits_within h) in
    coded_whole (plain checking) bits r work result work' result' l (omega arith) (omega arith) (long ∙ sym (length_checked bits l)) a c
    ∙ ap (coding (plain checking)) e

pub length_unpacked : (bytes : List ℕ) → length (coding (plain unpacking) bytes) ≡ length bytes * 8
length_unpacked bytes = length_groups eight_bits 8 eight bytes

-- the bits of five bytes
pub five_unpacked : (bytes : List ℕ) (r : Result ℕ Refusal) (work result work' result' : List ℕ) → length bytes ≡ 5 → ((i : ℕ) → get_or bytes i 0 ≤ 255)
    → length work ≡ 40 → length result ≡ 40 → length result' ≡ 40
    → r ≡ code_answer (plain unpacking) bytes (length work) (length result) → Coded (coding (plain unpacking) bytes) r work result work' result'
    → result' ≡ coding (plain unpacking) bytes
five_unpacked bytes r work result work' result' n each w o long a c =
    let room : code_room (plain unpacking) (length bytes) ≡ 40 = ap (code_room (plain unpacking)) n in
    let l : legal (plain unpacking) bytes ≡ true = legal_from_parts (plain unpacking) bytes refl (within_from 255 bytes (λ i _. each i)) (some_is_there _ 40 (ap unpacked_length n)) in
    coded_whole (plain unpacking) bytes r work result work' result' l (omega arith) (omega arith) (omega (arith, length_unpacked bytes)) a c

-- eight bits of a word write a byte
pub byte_fits : (word : List ℕ) (at r : ℕ) → length word ≡ 40 → at ≤ 32 → within 1 word ≡ true → r ≡ value (take (at + 8 - at) (drop at word)) → r ≤ 255
byte_fits word at r n l w e =
    let eight : at + 8 - at ≡ 8 = omega arith in
    let small : value (part at 8 word) / 256 ≡ 0 = part_small at 8 word (omega arith) w in
    let is : r ≡ value (part at 8 word) = e ∙ ap (λ k. value (take k (drop at word))) eight in omega arith
