-- The stage that unpacks bytes is sound, and what its steps come to.
use Rattle.std.specs.Prelude.{◌≡◌, ℕ, zero, suc, ◌+◌, ◌*◌, ◌/◌, ◌%◌, ◌<◌, ◌≤◌, true, List, length, Some, None, slice_index, slice_index_or}
use Rattle.std.proofs.Common.{sym, ap, ◌∙◌, arith}
use Rattle.std.proofs.lemmas.List.FromFn.{length-map-range_with_len, get_or-map-range_with_len, fill_by_all}
use Rattle.stage.specs.Plain.{within}
use Rattle.stage.specs.Model.{plain, legal}
use Rattle.stage.specs.Agreement.{Regains}
use Rattle.stage.specs.Searches.{FirstAbove}
use Rattle.stage.specs.Sound.{Sound}
use Rattle.stage.specs.Lists.{value_of_some, within_at, within_from, same_by_places}
use Rattle.stage.specs.Legality.{legal_within, legal_length}
use Rattle.codings.specs.NearestBits.{nearest_bit}
use Rattle.codings.specs.Unpackers.{most_bytes, bit_of, eight_bits, unpacked, unpacked_length, packed_length, byte_of, byte_at, packed, unpacking}
use Rattle.codings.specs.GroupLaws.{length_groups, group_at_place, groups_within, grouped_is, grouped_legal, grouped_there, grouped_back, counted_is, Chunk}

-- a byte and its bits
pub bit_at : (byte k : ℕ) → k < 8 → slice_index (eight_bits byte) k ≡ bit_of byte k
bit_at byte k l = get_or-map-range_with_len (bit_of byte) 0 8 k k 0 l (omega arith)

pub eight : (byte : ℕ) → length (eight_bits byte) ≡ 8
eight byte = length-map-range_with_len (bit_of byte) 0 8

byte_of_its_bits : (x : ℕ) → x ≤ 255 → byte_of (bit_of x) ≡ x
byte_of_its_bits x l = omega arith

bit_of_byte : (bit : ℕ → ℕ) → ((k : ℕ) → k < 8 → bit k ≤ 1) → (k : ℕ) → k < 8 → bit_of (byte_of bit) k ≡ bit k
bit_of_byte bit s k l =
    of k l (s 0 (omega arith)) (s 1 (omega arith)) (s 2 (omega arith)) (s 3 (omega arith)) (s 4 (omega arith)) (s 5 (omega arith)) (s 6 (omega arith)) (s 7 (omega arith))
  where
    of : (k : ℕ) → k < 8 → bit 0 ≤ 1 → bit 1 ≤ 1 → bit 2 ≤ 1 → bit 3 ≤ 1 → bit 4 ≤ 1 → bit 5 ≤ 1 → bit 6 ≤ 1 → bit 7 ≤ 1 → bit_of (byte_of bit) k ≡ bit k
    of zero l a b c d e f g h = omega arith
    of (suc zero) l a b c d e f g h = omega arith
    of (suc (suc zero)) l a b c d e f g h = omega arith
    of (suc (suc (suc zero))) l a b c d e f g h = omega arith
    of (suc (suc (suc (suc zero)))) l a b c d e f g h = omega arith
    of (suc (suc (suc (suc (suc zero))))) l a b c d e f g h = omega arith
    of (suc (suc (suc (suc (suc (suc zero)))))) l a b c d e f g h = omega arith
    of (suc (suc (suc (suc (suc (suc (suc zero))))))) l a b c d e f g h = omega arith
    of (suc (suc (suc (suc (suc (suc (suc (suc k)))))))) l a b c d e f g h = absurd (omega arith)

pub same_byte : (b c : ℕ → ℕ) → ((k : ℕ) → k < 8 → b k ≡ c k) → byte_of b ≡ byte_of c
same_byte b c e =
    omega (arith, e 0 (omega arith), e 1 (omega arith), e 2 (omega arith), e 3 (omega arith), e 4 (omega arith), e 5 (omega arith), e 6 (omega arith), e 7 (omega arith))

small_byte : (b : ℕ → ℕ) → ((k : ℕ) → k < 8 → b k ≤ 1) → byte_of b ≤ 255
small_byte b s =
    omega (arith, s 0 (omega arith), s 1 (omega arith), s 2 (omega arith), s 3 (omega arith), s 4 (omega arith), s 5 (omega arith), s 6 (omega arith), s 7 (omega arith))

-- by index: at place j stands the bit j % 8 of the byte j / 8
pub unpacked_at : (xs : List ℕ) (j : ℕ) → j < length xs * 8 → slice_index (unpacked xs) j ≡ bit_of (slice_index xs (j / 8)) (j % 8)
unpacked_at xs j l = group_at_place eight_bits 8 eight xs j (omega arith) l ∙ bit_at (slice_index xs (j / 8)) (j % 8) (omega arith)

length_unpacked : (xs : List ℕ) → length (unpacked xs) ≡ length xs * 8
length_unpacked xs = length_groups eight_bits 8 eight xs

pub legal_few : (xs : List ℕ) → legal (plain unpacking) xs ≡ true → length xs ≤ most_bytes
legal_few xs l =
    let v = value_of_some (unpacked_length (length xs)) (legal_length (plain unpacking) xs l) in
    (grouped_is most_bytes 8 (length xs) v.0 v.1).0

bits_of_a_byte : (x : ℕ) → within 1 (eight_bits x) ≡ true
bits_of_a_byte x =
    within_from 1 (eight_bits x) (λ k h. omega (arith, bit_at x k (omega (arith, eight x))))

-- the guess and its coding by index
pub bytes_at : (n : ℕ) (ys : List ℕ) (i : ℕ) → i < n → slice_index (packed n ys) i ≡ byte_at ys (i * 8)
bytes_at n ys i l = get_or-map-range_with_len (λ i. byte_at ys (i * 8)) 0 n i i 0 l (omega arith)

pub length_packed : (n : ℕ) (ys : List ℕ) → length (packed n ys) ≡ n
length_packed n ys = length-map-range_with_len (λ i. byte_at ys (i * 8)) 0 n

packed_bytes : (n : ℕ) (ys : List ℕ) → within 255 (packed n ys) ≡ true
packed_bytes n ys =
    within_from 255 (packed n ys) (λ i h.
    omega (arith, bytes_at n ys i (omega (arith, length_packed n ys)), small_byte (λ k. nearest_bit (slice_index ys (i * 8 + k))) (λ k _. omega arith)))

pub coded_at : (n : ℕ) (ys : List ℕ) (j : ℕ) → j < n * 8 → slice_index (unpacked (packed n ys)) j ≡ nearest_bit (slice_index ys j)
coded_at n ys j l =
    let whole : j / 8 * 8 + j % 8 ≡ j = omega arith in
    unpacked_at (packed n ys) j (omega (arith, length_packed n ys))
    ∙ ap (λ x. bit_of x (j % 8)) (bytes_at n ys (j / 8) (omega arith))
    ∙ bit_of_byte (λ k. nearest_bit (slice_index ys (j / 8 * 8 + k))) (λ k _. omega arith) (j % 8) (omega arith)
    ∙ ap (λ m. nearest_bit (slice_index ys m)) whole

-- the bit k of the byte i
bit_in_byte : (xs : List ℕ) (i k : ℕ) → i < length xs → k < 8 → nearest_bit (slice_index (unpacked xs) (i * 8 + k)) ≡ bit_of (slice_index xs i) k
bit_in_byte xs i k l h =
    let byte : (i * 8 + k) / 8 ≡ i = omega arith in
    let place : (i * 8 + k) % 8 ≡ k = omega arith in
    let e : slice_index_or (unpacked xs) (i * 8 + k) 0 ≡ bit_of (slice_index xs i) k = unpacked_at xs (i * 8 + k) (omega arith) ∙ ap (λ m. bit_of (slice_index xs m) ((i * 8 + k) % 8)) byte ∙ ap (bit_of (slice_index xs i)) place in
    omega arith

bytes_again : (xs : List ℕ) → within 255 xs ≡ true → packed (length xs) (unpacked xs) ≡ xs
bytes_again xs w =
    same_by_places (packed (length xs) (unpacked xs)) xs (length_packed (length xs) (unpacked xs)) (λ i l.
    let h : i < length xs = omega (arith, length_packed (length xs) (unpacked xs)) in
    bytes_at (length xs) (unpacked xs) i h
    ∙ same_byte (λ k. nearest_bit (slice_index (unpacked xs) (i * 8 + k))) (bit_of (slice_index xs i)) (λ k s. bit_in_byte xs i k h s)
    ∙ byte_of_its_bits (slice_index xs i) (within_at 255 xs i w))

best : (xs ys : List ℕ) (k : ℕ) → length (unpacked xs) ≡ length ys → k < length ys → slice_index (unpacked xs) k ≡ slice_index ys k → slice_index (unpacked (packed (length xs) ys)) k ≡ slice_index ys k
best xs ys k long l same =
    let inside : k < length xs * 8 = omega (arith, length_unpacked xs) in
    omega (arith, coded_at (length xs) ys k inside, unpacked_at xs k inside)

pub unpacking_sound : Sound unpacking
unpacking_sound =
    record {
      takes_bytes = omega arith;
      puts_bytes = omega arith;
      short_lists = λ n k h.
          let u = grouped_is most_bytes 8 n k h in (omega (arith, u.0), omega (arith, u.0, u.1));
      lengths_there = λ n k h. grouped_there most_bytes 8 n k (omega arith) h;
      lengths_back = λ n k h. grouped_back most_bytes 8 n k (omega arith) h;
      stated_length = λ xs l. grouped_legal most_bytes 8 (length xs) (legal_few xs l) ∙ ap Some (sym (length_unpacked xs));
      stated_alphabet = λ xs l. groups_within 1 eight_bits xs (λ i h. bits_of_a_byte (slice_index xs i));
      guess_length = λ n ys h. length_packed n ys;
      guess_within = λ n ys h. packed_bytes n ys;
      guess_back = λ xs l. bytes_again xs (legal_within (plain unpacking) xs l);
      guess_best = λ xs ys k l long i same. best xs ys k long i (same k (omega arith));
    }

-- the byte of a chunk of bits
pub byte_of_chunk : (bits eight rest : List ℕ) (i : ℕ) → Chunk bits 8 i eight rest → ((k : ℕ) → k < length bits → slice_index bits k ≤ 1) → byte_of (λ k. slice_index eight k) ≡ byte_at bits (i * 8)
byte_of_chunk bits eight rest i c small =
    same_byte (λ k. slice_index eight k) (λ k. nearest_bit (slice_index bits (i * 8 + k))) (λ k l.
    omega (arith, c.at k l, small (i * 8 + k) (omega (arith, c.inside))))

pub packed_all : (count done : ℕ) (bits bytes : List ℕ) → count ≤ done → length bytes ≡ count → ((k : ℕ) → k < done → slice_index bytes k ≡ byte_at bits (k * 8)) → bytes ≡ packed count bits
packed_all count done bits bytes l long each =
    fill_by_all (λ i. byte_at bits (i * 8)) bytes count 0 long (λ k s. each k (omega arith))

-- the nearest coding of bits is the bits themselves, up to the first that is none
pub bits_regained : (count : ℕ) (received list : List ℕ) → length list ≡ count → length received ≡ count * 8 → ((k : ℕ) → k < length received → slice_index received k ≤ 1) → list ≡ packed count received → Regains unpacking received None list
bits_regained count received list many long small e = (
  record {
    few = omega arith;
    same = λ k h. omega (arith, coded_at (length list) received k (omega arith), small k h);
    stop = λ h _. absurd (omega arith);
  },
  e ∙ ap (λ m. packed m received) (sym many),
)

pub no_bit_found : (received list : List ℕ) (place : ℕ) → length received ≡ length list * 8 → FirstAbove 1 received (Some place) → Regains unpacking received (Some place) list
no_bit_found received list place long f = (
  record {
    few = omega (arith, f.0);
    same = λ k h. omega (arith, coded_at (length list) received k (omega (arith, f.0)), f.1 k h);
    stop = λ h same. omega (arith, coded_at (length list) received place (omega arith), f.2);
  },
  f.0,
)

pub eights : (n count : ℕ) → packed_length n ≡ Some count → n ≡ count * 8
eights n count e = sym (counted_is most_bytes 8 count n (omega arith) e).1
