-- What holds of the stage that unpacks bytes where it works in place, at the front of a buffer.
use Rattle.std.specs.Prelude.{◌≡◌, ℕ, ◌+◌, ◌-◌, ◌*◌, ◌<◌, ◌≤◌, max, true, List, length, take, drop, set, Some, Ok, Err, slice_index, slice_index_or, slice_set}
use Rattle.std.proofs.Common.{sym, ap, ◌∙◌, arith}
use Rattle.std.proofs.Math.Seq.{paste}
use Rattle.std.proofs.lemmas.List.{length-take-le, get_or-take, get_or-drop}
use Rattle.std.proofs.lemmas.List.Edits.{paste_more}
use Rattle.stage.specs.Lengths.{longest_with}
use Rattle.stage.specs.Model.{plain, legal, decoding, code_room}
use Rattle.stage.specs.Faults.{fault_at}
use Rattle.stage.specs.Lists.{same_by_places}
use Rattle.stage.specs.Agreement.{AgreesUpTo}
use Rattle.stage.specs.AgreementLaws.{agrees_wholly_accepts, agrees_partly_refuses}
use Rattle.codings.specs.NearestBits.{nearest_bit}
use Rattle.codings.specs.Unpackers.{most_bytes, bit_of, eight_bits, packed_length, byte_of, byte_at, packed, unpacking}
use Rattle.codings.specs.UnpackLaws.{bit_at, eight, same_byte, legal_few, bytes_at, length_packed, coded_at, unpacking_sound}
use Rattle.codings.specs.GroupLaws.{grouped_legal, counted_is}
use Rattle.codings.proofs.InPlace.{Leading, Gathered}

-- The eight elements from a place on are bits.
pub record EightBits (at : ℕ) (buffer : List ℕ) : Type 0 where
  pub bit_0 : slice_index_or buffer at 0 ≤ 1
  pub bit_1 : slice_index_or buffer (at + 1) 0 ≤ 1
  pub bit_2 : slice_index_or buffer (at + 2) 0 ≤ 1
  pub bit_3 : slice_index_or buffer (at + 3) 0 ≤ 1
  pub bit_4 : slice_index_or buffer (at + 4) 0 ≤ 1
  pub bit_5 : slice_index_or buffer (at + 5) 0 ≤ 1
  pub bit_6 : slice_index_or buffer (at + 6) 0 ≤ 1
  pub bit_7 : slice_index_or buffer (at + 7) 0 ≤ 1

-- the room of a legal list holds all its bits
pub bits_room : (n room : ℕ) (bytes : List ℕ) → legal (plain unpacking) (take n bytes) ≡ true → n ≤ length bytes → code_room (plain unpacking) n ≤ room → n * 8 ≤ room
bits_room n room bytes l h r =
    let few : n ≤ most_bytes = omega (arith, legal_few (take n bytes) l, length-take-le n bytes h) in
    let e : code_room (plain unpacking) n ≡ max n (n * 8) = ap (λ o. longest_with n o (λ k. k)) (grouped_legal most_bytes 8 n few) in
    omega arith

-- the next bit of a byte, written behind those before
pub bits_more : (byte at k bit : ℕ) (before buffer : List ℕ) → k < 8 → at + 8 ≤ length before → bit ≡ bit_of byte k
    → buffer ≡ paste before at (eight_bits byte) k
    → slice_set buffer (at + k) bit ≡ paste before at (eight_bits byte) (k + 1)
bits_more byte at k bit before buffer l r e inv =
    ap (λ b. set b (at + k) bit) inv
    ∙ ap (set (paste before at (eight_bits byte) k) (at + k)) (e ∙ sym (bit_at byte k l))
    ∙ paste_more before at (eight_bits byte) k 0 (omega arith) (omega (arith, eight byte))

-- the bits of the next byte still stand where they were
bit_stays : (before buffer : List ℕ) (i : ℕ) → Gathered (λ k. byte_at before (k * 8)) before buffer i → (k : ℕ) → slice_index buffer (i * 8 + k) ≡ slice_index before (i * 8 + k)
bit_stays before buffer i h k = h.rest (i * 8 + k) (omega arith)

-- so the eight elements of the next byte are bits
pub eight_bits_stay : (before buffer : List ℕ) (i count : ℕ) → i < count
    → ((k : ℕ) → k < count * 8 → slice_index before k ≤ 1) → Gathered (λ k. byte_at before (k * 8)) before buffer i
    → EightBits (i * 8) buffer
eight_bits_stay before buffer i count l bits h =
    record {
      bit_0 = omega (arith, h.rest (i * 8) (omega arith), bits (i * 8) (omega arith));
      bit_1 = omega (arith, bit_stays before buffer i h 1, bits (i * 8 + 1) (omega arith));
      bit_2 = omega (arith, bit_stays before buffer i h 2, bits (i * 8 + 2) (omega arith));
      bit_3 = omega (arith, bit_stays before buffer i h 3, bits (i * 8 + 3) (omega arith));
      bit_4 = omega (arith, bit_stays before buffer i h 4, bits (i * 8 + 4) (omega arith));
      bit_5 = omega (arith, bit_stays before buffer i h 5, bits (i * 8 + 5) (omega arith));
      bit_6 = omega (arith, bit_stays before buffer i h 6, bits (i * 8 + 6) (omega arith));
      bit_7 = omega (arith, bit_stays before buffer i h 7, bits (i * 8 + 7) (omega arith));
    }

-- and make the same byte
pub byte_stays : (before buffer : List ℕ) (i : ℕ) → Gathered (λ k. byte_at before (k * 8)) before buffer i → byte_at buffer (i * 8) ≡ byte_at before (i * 8)
byte_stays before buffer i h =
    same_byte (λ k. nearest_bit (slice_index buffer (i * 8 + k))) (λ k. nearest_bit (slice_index before (i * 8 + k))) (λ k _. ap nearest_bit (bit_stays before buffer i h k))

-- where the bits of a byte stand in a buffer: all are bits, and they make the byte
part_at : (before buffer : List ℕ) (i count : ℕ) → i < count → count * 8 ≤ length buffer → Gathered (λ k. byte_at before (k * 8)) before buffer i
    → (k : ℕ) → k < 8 → slice_index (take ((i + 1) * 8 - i * 8) (drop (i * 8) buffer)) k ≡ slice_index before (i * 8 + k)
part_at before buffer i count l r h k s =
    get_or-take ((i + 1) * 8 - i * 8) (drop (i * 8) buffer) k 0 (omega arith) ∙ get_or-drop (i * 8) buffer k 0 ∙ bit_stays before buffer i h k

pub bits_of_part : (before buffer : List ℕ) (i count : ℕ) → i < count → count * 8 ≤ length buffer
    → ((k : ℕ) → k < count * 8 → slice_index before k ≤ 1) → Gathered (λ k. byte_at before (k * 8)) before buffer i
    → (k : ℕ) → k < 8 → slice_index (take ((i + 1) * 8 - i * 8) (drop (i * 8) buffer)) k ≤ 1
bits_of_part before buffer i count l r bits h k s =
    omega (arith, part_at before buffer i count l r h k s, bits (i * 8 + k) (omega arith))

pub byte_of_part : (before buffer : List ℕ) (i count : ℕ) → i < count → count * 8 ≤ length buffer
    → ((k : ℕ) → k < count * 8 → slice_index before k ≤ 1) → Gathered (λ k. byte_at before (k * 8)) before buffer i
    → byte_of (λ k. slice_index (take ((i + 1) * 8 - i * 8) (drop (i * 8) buffer)) k) ≡ byte_at before (i * 8)
byte_of_part before buffer i count l r bits h =
    same_byte (λ k. slice_index (take ((i + 1) * 8 - i * 8) (drop (i * 8) buffer)) k) (λ k. nearest_bit (slice_index before (i * 8 + k))) (λ k s.
    omega (arith, part_at before buffer i count l r h k s, bits (i * 8 + k) (omega arith)))

-- a list of bits agrees with a coding as far as it has bits
bits_agree : (n count place : ℕ) (buffer : List ℕ) → count * 8 ≡ n → n ≤ length buffer → Leading n buffer place → AgreesUpTo unpacking count (take n buffer) place
bits_agree n count place buffer e l f =
    let long = length-take-le n buffer l in
    record {
      few = omega (arith, f.few);
      same = λ k h. omega (arith, coded_at count (take n buffer) k (omega (arith, f.few)), get_or-take n buffer k 0 (omega (arith, f.few)), f.bits k h);
      stop = λ h same. omega (arith, coded_at count (take n buffer) place (omega arith), get_or-take n buffer place 0 (omega arith), f.stop (omega arith));
    }

-- the bytes of a front are those of the buffer
pub front_bytes : (n count : ℕ) (buffer : List ℕ) → count * 8 ≡ n → packed count (take n buffer) ≡ packed count buffer
front_bytes n count buffer e =
    same_by_places (packed count (take n buffer)) (packed count buffer) (length_packed count (take n buffer) ∙ sym (length_packed count buffer)) (λ i h.
    let s : i < count = omega (arith, length_packed count (take n buffer)) in
    bytes_at count (take n buffer) i s
    ∙ same_byte (λ k. nearest_bit (slice_index (take n buffer) (i * 8 + k))) (λ k. nearest_bit (slice_index buffer (i * 8 + k))) (λ k t. ap nearest_bit (get_or-take n buffer (i * 8 + k) 0 (omega arith)))
    ∙ sym (bytes_at count buffer i s))

-- the bits of whole bytes are eight for each
pub bytes_and_bits : (n count : ℕ) → packed_length n ≡ Some count → count * 8 ≡ n
bytes_and_bits n count e = (counted_is most_bytes 8 count n (omega arith) e).1

-- a list of bits is the coding of their bytes
pub taken_back : (n count place : ℕ) (before after : List ℕ) → packed_length n ≡ Some count → n ≤ length before
    → Leading n before place → n ≤ place → take count after ≡ packed count before
    → decoding (plain unpacking) (take n before) ≡ Ok (take count after)
taken_back n count place before after e l f most front =
    let long = length-take-le n before l in
    let whole = bytes_and_bits n count e in
    agrees_wholly_accepts unpacking unpacking_sound (take n before) count place (ap packed_length long ∙ e) (bits_agree n count place before whole l f) (omega arith)
    ∙ ap Ok (front_bytes n count before whole ∙ sym front)

-- the first element that is no bit is the place of the fault
pub not_taken_back : (n count place : ℕ) (before : List ℕ) → packed_length n ≡ Some count → n ≤ length before
    → Leading n before place → place < n → decoding (plain unpacking) (take n before) ≡ Err (fault_at 4 place)
not_taken_back n count place before e l f h =
    let long = length-take-le n before l in
    let whole = bytes_and_bits n count e in
    agrees_partly_refuses unpacking unpacking_sound (take n before) count place (ap packed_length long ∙ e) (bits_agree n count place before whole l f) (omega arith)
