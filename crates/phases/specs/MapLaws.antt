-- The stage that maps bits to increments is sound.
use Rattle.std.specs.Prelude.{◌≡◌, ℕ, ◌+◌, ◌*◌, ◌/◌, ◌%◌, ◌<◌, ◌≤◌, true, List, length, Some, slice_index, slice_index_or, refl}
use Rattle.std.proofs.Common.{sym, ap, subst, ◌∙◌, arith}
use Rattle.std.proofs.lemmas.Nat.{div-add-mod', div-mul-add, mod-mul-add, mod_below}
use Rattle.std.proofs.lemmas.List.FromFn.{length-map-range_with_len, get_or-map-range_with_len}
use Rattle.stage.specs.Plain.{within}
use Rattle.stage.specs.Model.{plain, legal}
use Rattle.stage.specs.Sound.{Sound}
use Rattle.stage.specs.Lists.{value_of_some, within_at, within_from, same_by_places}
use Rattle.stage.specs.Legality.{legal_within, legal_length}
use Rattle.phases.specs.Maps.{is_width, increment_of, number_of, written, bit_of, increments, bits, mapped_length, mapping, BitsAt}
use Rattle.phases.specs.Widths.{width_some, written_below, bit_written, bits_write}
use Rattle.phases.specs.Tables.{gray_maps, increment_small, number_below}
use Rattle.phases.specs.MapLengths.{Whole, mapped_is, lengths_there, lengths_back, fewer_increments, whole_bits, bit_inside, bits_inside}

-- a legal list of bits is whole increments
pub legal_whole : (b : ℕ) (xs : List ℕ) → legal (plain (mapping b)) xs ≡ true → Whole b (length xs) (length xs / b)
legal_whole b xs l =
    let v = value_of_some (mapped_length b (length xs)) (legal_length (plain (mapping b)) xs l) in
    let w = mapped_is b (length xs) v.0 v.1 in
    record { few = w.few; rest = w.rest; count = refl }

legal_mapped : (b : ℕ) (xs : List ℕ) → legal (plain (mapping b)) xs ≡ true → mapped_length b (length xs) ≡ Some (length xs / b)
legal_mapped b xs l =
    let v = value_of_some (mapped_length b (length xs)) (legal_length (plain (mapping b)) xs l) in
    v.1 ∙ ap Some (sym (mapped_is b (length xs) v.0 v.1).count)

pub increments_length : (b : ℕ) (xs : List ℕ) → length (increments b xs) ≡ length xs / b
increments_length b xs = length-map-range_with_len (λ i. increment_of b (written xs (i * b) b)) 0 (length xs / b)

pub increments_at : (b : ℕ) (xs : List ℕ) (i : ℕ) → i < length xs / b → slice_index (increments b xs) i ≡ increment_of b (written xs (i * b) b)
increments_at b xs i l =
    get_or-map-range_with_len (λ k. increment_of b (written xs (k * b) b)) 0 (length xs / b) i i 0 l (omega arith)

pub bits_length : (b n : ℕ) (ys : List ℕ) → length (bits b n ys) ≡ n
bits_length b n ys = length-map-range_with_len (λ i. bit_of b (number_of b (slice_index ys (i / b))) (i % b)) 0 n

pub bits_at : (b n : ℕ) (ys : List ℕ) (i : ℕ) → i < n → slice_index (bits b n ys) i ≡ bit_of b (number_of b (slice_index ys (i / b))) (i % b)
bits_at b n ys i l =
    get_or-map-range_with_len (λ k. bit_of b (number_of b (slice_index ys (k / b))) (k % b)) 0 n i i 0 l (omega arith)

-- the elements of a list of bits are bits
pub bits_anywhere : (xs : List ℕ) (place c : ℕ) → within 1 xs ≡ true → BitsAt xs place c
bits_anywhere xs place c w j l = within_at 1 xs (place + j) w

-- what is put out are increments
increments_small : (b : ℕ) (xs : List ℕ) → is_width b ≡ true → within 7 (increments b xs) ≡ true
increments_small b xs w =
    within_from 7 (increments b xs) (λ i l.
    let short : i < length xs / b = omega (arith, increments_length b xs) in
    subst (λ (y : ℕ). y ≤ 7) (sym (increments_at b xs i short)) (increment_small b w (written xs (i * b) b)))

pub guess_bits : (b n : ℕ) (ys : List ℕ) → within 1 (bits b n ys) ≡ true
guess_bits b n ys =
    within_from 1 (bits b n ys) (λ i l.
    let short : i < n = omega (arith, bits_length b n ys) in
    let small : bit_of b (number_of b (slice_index ys (i / b))) (i % b) ≤ 1 = bit_small b (number_of b (slice_index ys (i / b))) (i % b) in
    subst (λ (x : ℕ). x ≤ 1) (sym (bits_at b n ys i short)) small)
  where
    bit_small : (b w j : ℕ) → bit_of b w j ≤ 1
    bit_small b w j = omega arith

-- the bits that the increments of a list stand for are the list
bit_back : (b : ℕ) (xs : List ℕ) (i : ℕ) → is_width b ≡ true → within 1 xs ≡ true → length xs % b ≡ 0 → i < length xs
    → bit_of b (number_of b (slice_index (increments b xs) (i / b))) (i % b) ≡ slice_index xs i
bit_back b xs i w v e l =
    let p = width_some b w in
    let q = i / b in
    let digits = bits_anywhere xs (q * b) b v in
    ap (λ y. bit_of b (number_of b y) (i % b)) (increments_at b xs q (bit_inside b (length xs) i p e l))
    ∙ ap (λ x. bit_of b x (i % b)) ((gray_maps b w).back (written xs (q * b) b) (written_below b w xs (q * b) digits))
    ∙ bit_written b w xs (q * b) digits (i % b) (mod_below i b p)
    ∙ ap (λ k. slice_index xs k) (div-add-mod' i b)

taken_back : (b : ℕ) (xs : List ℕ) → is_width b ≡ true → legal (plain (mapping b)) xs ≡ true → bits b (length xs) (increments b xs) ≡ xs
taken_back b xs w l =
    same_by_places (bits b (length xs) (increments b xs)) xs (bits_length b (length xs) (increments b xs)) (λ i h.
    let short : i < length xs = omega (arith, bits_length b (length xs) (increments b xs)) in
    bits_at b (length xs) (increments b xs) i short
    ∙ bit_back b xs i w (legal_within (plain (mapping b)) xs l) (legal_whole b xs l).rest short)

-- the bits of increment k write its number
guess_writes : (b n : ℕ) (ys : List ℕ) (k : ℕ) → is_width b ≡ true → n % b ≡ 0 → k < n / b
    → written (bits b n ys) (k * b) b ≡ number_of b (slice_index ys k)
guess_writes b n ys k w e l =
    bits_write b w (bits b n ys) (k * b) (number_of b (slice_index ys k)) (number_below b w (slice_index ys k)) (λ j h.
    let inside = bits_inside b k (n / b) l in
    bits_at b n ys (k * b + j) (omega (arith, whole_bits b n e))
    ∙ ap (λ q. bit_of b (number_of b (slice_index ys q)) ((k * b + j) % b)) (div-mul-add k b j h)
    ∙ ap (bit_of b (number_of b (slice_index ys k))) (mod-mul-add k b j h))

-- an element of the guess's coding
pub guess_coded_at : (b n : ℕ) (ys : List ℕ) (k : ℕ) → is_width b ≡ true → n % b ≡ 0 → k < n / b
    → slice_index (increments b (bits b n ys)) k ≡ increment_of b (number_of b (slice_index ys k))
guess_coded_at b n ys k w e l =
    let long : length (bits b n ys) / b ≡ n / b = ap (λ m. m / b) (bits_length b n ys) in
    increments_at b (bits b n ys) k (omega arith) ∙ ap (increment_of b) (guess_writes b n ys k w e l)

best : (b : ℕ) (xs ys : List ℕ) (k : ℕ) → is_width b ≡ true → legal (plain (mapping b)) xs ≡ true
    → length (increments b xs) ≡ length ys → k < length ys → slice_index (increments b xs) k ≡ slice_index ys k
    → slice_index (increments b (bits b (length xs) ys)) k ≡ slice_index ys k
best b xs ys k w l long h same =
    let short : k < length xs / b = omega (arith, increments_length b xs) in
    let digits = bits_anywhere xs (k * b) b (legal_within (plain (mapping b)) xs l) in
    let x = written xs (k * b) b in
    let here : slice_index_or ys k 0 ≡ increment_of b x = sym same ∙ increments_at b xs k short in
    guess_coded_at b (length xs) ys k w (legal_whole b xs l).rest short
    ∙ ap (λ y. increment_of b (number_of b y)) here
    ∙ ap (increment_of b) ((gray_maps b w).back x (written_below b w xs (k * b) digits))
    ∙ sym here

pub mapping_sound : (b : ℕ) → is_width b ≡ true → Sound (mapping b)
mapping_sound b w =
    record {
      takes_bytes = omega arith;
      puts_bytes = omega arith;
      short_lists = λ n k h. (omega (arith, (mapped_is b n k h).few), omega (arith, (mapped_is b n k h).few, (mapped_is b n k h).count, fewer_increments b w n));
      lengths_there = lengths_there b w;
      lengths_back = lengths_back b w;
      stated_length = λ xs l. legal_mapped b xs l ∙ ap Some (sym (increments_length b xs));
      stated_alphabet = λ xs l. increments_small b xs w;
      guess_length = λ n ys h. bits_length b n ys;
      guess_within = λ n ys h. guess_bits b n ys;
      guess_back = λ xs l. taken_back b xs w l;
      guess_best = λ xs ys k l long i same. best b xs ys k w l long i (same k (omega arith));
    }
