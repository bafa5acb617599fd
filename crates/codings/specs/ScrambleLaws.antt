-- The stage that scrambles is sound.
use Rattle.std.specs.Prelude.{◌≡◌, ℕ, zero, suc, ◌+◌, ◌*◌, ◌<◌, ◌≤◌, min, true, List, [], ◌∷◌, ◌++◌, map, length, take, Some, None, bit_xor, nat_le, slice_index, slice_index_or, slice_set, refl}
use Rattle.std.proofs.Common.{Fits, w8, sym, ap, ◌∙◌, arith}
use Rattle.std.proofs.lemmas.Nat.{xor_lt}
use Rattle.std.specs.Int.Bits.{xor_assoc, xor_self, xor_zero_r}
use Rattle.std.proofs.lemmas.List.{length-map, get_or-map, take_all, take_more, take_more_set}
use Rattle.std.proofs.lemmas.Bool.{and_parts, and_from, leb-true, le-leb, cond-true}
use Rattle.stage.specs.Plain.{within}
use Rattle.stage.specs.Model.{plain, legal}
use Rattle.stage.specs.Sound.{Sound}
use Rattle.stage.specs.Agreement.{Regains}
use Rattle.stage.specs.AgreementLaws.{some_under_test}
use Rattle.stage.specs.Lists.{value_of_some, within_at, within_from}
use Rattle.stage.specs.Legality.{legal_within, legal_length}
use Rattle.codings.specs.Scramblers.{up_to, byte, scrambled, longest, short_length, nearest_byte, scrambling, window, four_on}
use Rattle.codings.specs.SequenceLaws.{byte_next, window_next, byte_small}

-- a length that is legal leads to itself
pub short_is : (n k : ℕ) → short_length n ≡ Some k → (n ≤ longest) × (n ≡ k)
short_is n k h =
    let u = some_under_test (nat_le n longest) n k h in (leb-true n longest u.0, u.1)

pub short_legal : (n : ℕ) → n ≤ longest → short_length n ≡ Some n
short_legal n l = cond-true (nat_le n longest) (Some n) None (le-leb n longest l)

same_back : (n k : ℕ) → short_length n ≡ Some k → short_length k ≡ Some n
same_back n k h =
    let t = short_is n k h in
    let l : k ≤ longest = omega arith in short_legal k l ∙ ap Some (sym t.1)

legal_short : (start : ℕ) (xs : List ℕ) → legal (plain (scrambling start)) xs ≡ true → short_length (length xs) ≡ Some (length xs)
legal_short start xs l =
    let v = value_of_some (short_length (length xs)) (legal_length (plain (scrambling start)) xs l) in
    short_legal (length xs) (short_is (length xs) v.0 v.1).0

-- XORed twice, a number is itself
xor_twice : (x key : ℕ) → bit_xor (bit_xor x key) key ≡ x
xor_twice x key = xor_assoc x key key ∙ ap (bit_xor x) (xor_self key) ∙ xor_zero_r x

pub scrambled_twice : (n : ℕ) (xs : List ℕ) → scrambled n (scrambled n xs) ≡ xs
scrambled_twice n [] = refl
scrambled_twice n (x ∷ xs) = let e = xor_twice x (byte n) in let t = scrambled_twice (n + 8) xs in cc

pub length_scrambled : (n : ℕ) (xs : List ℕ) → length (scrambled n xs) ≡ length xs
length_scrambled n [] = refl
length_scrambled n (x ∷ xs) = ap suc (length_scrambled (n + 8) xs)

pub scrambled_bytes : (n : ℕ) (xs : List ℕ) → within 255 xs ≡ true → within 255 (scrambled n xs) ≡ true
scrambled_bytes n [] h = refl
scrambled_bytes n (x ∷ xs) h =
    let parts = and_parts (nat_le x 255) (within 255 xs) h in
    let small = leb-true x 255 parts.0 in
    let below : bit_xor x (byte n) < 256 = xor_lt 8 x (byte n) (omega arith) (byte_small n) in
    and_from (nat_le (bit_xor x (byte n)) 255) (within 255 (scrambled (n + 8) xs)) (le-leb (bit_xor x (byte n)) 255 (omega arith)) (scrambled_bytes (n + 8) xs parts.1)

-- an element of what is scrambled
pub scrambled_at : (n : ℕ) (xs : List ℕ) (k : ℕ) → k < length xs → slice_index (scrambled n xs) k ≡ bit_xor (slice_index xs k) (byte (n + 8 * k))
scrambled_at n [] k l = absurd (omega arith)
scrambled_at n (x ∷ xs) zero l = let e : n ≡ n + 8 * 0 = omega arith in ap (λ m. bit_xor x (byte m)) e
scrambled_at n (x ∷ xs) (suc k) l =
    let e : n + 8 + 8 * k ≡ n + 8 * suc k = omega arith in
    scrambled_at (n + 8) xs k (omega arith) ∙ ap (λ m. bit_xor (slice_index xs k) (byte m)) e

nearest_bytes : (ys : List ℕ) → within 255 (map nearest_byte ys) ≡ true
nearest_bytes [] = refl
nearest_bytes (y ∷ ys) = and_from (nat_le (min y 255) 255) (within 255 (map nearest_byte ys)) (le-leb (min y 255) 255 (omega arith)) (nearest_bytes ys)

bytes_are_nearest : (xs : List ℕ) → within 255 xs ≡ true → map nearest_byte xs ≡ xs
bytes_are_nearest [] h = refl
bytes_are_nearest (x ∷ xs) h =
    let parts = and_parts (nat_le x 255) (within 255 xs) h in
    let small = leb-true x 255 parts.0 in
    let e : min x 255 ≡ x = omega arith in
    let t = bytes_are_nearest xs parts.1 in cc

best : (n : ℕ) (xs ys : List ℕ) (k : ℕ) → within 255 xs ≡ true → k < length ys → slice_index (scrambled n xs) k ≡ slice_index ys k → slice_index (scrambled n (scrambled n (map nearest_byte ys))) k ≡ slice_index ys k
best n xs ys k w l e =
    let small = within_at 255 (scrambled n xs) k (scrambled_bytes n xs w) in
    let same : min (slice_index ys k) 255 ≡ slice_index_or ys k 0 = omega arith in
    ap (λ zs. slice_index zs k) (scrambled_twice n (map nearest_byte ys)) ∙ get_or-map nearest_byte ys k 0 0 l ∙ same

pub scrambling_sound : (start : ℕ) → Sound (scrambling start)
scrambling_sound start =
    record {
      takes_bytes = omega arith;
      puts_bytes = omega arith;
      short_lists = λ n k h. (omega (arith, (short_is n k h).0), omega (arith, (short_is n k h).0, (short_is n k h).1));
      lengths_there = same_back;
      lengths_back = λ n k h. same_back k n h;
      stated_length = λ xs l. legal_short start xs l ∙ ap Some (sym (length_scrambled start xs));
      stated_alphabet = λ xs l. scrambled_bytes start xs (legal_within (plain (scrambling start)) xs l);
      guess_length = λ n ys h. length_scrambled start (map nearest_byte ys) ∙ length-map ys nearest_byte ∙ sym (short_is n (length ys) h).1;
      guess_within = λ n ys h. scrambled_bytes start (map nearest_byte ys) (nearest_bytes ys);
      guess_back = λ xs l. ap (scrambled start) (bytes_are_nearest (scrambled start xs) (scrambled_bytes start xs (legal_within (plain (scrambling start)) xs l))) ∙ scrambled_twice start xs;
      guess_best = λ xs ys k l long i same. best start xs ys k (legal_within (plain (scrambling start)) xs l) i (same k (omega arith));
    }

-- one byte more: the window moves on by eight bits, and the next element is XORed with it
pub window_moved : (i w u : ℕ) → w ≡ window (up_to (8 * i)) → u ≡ four_on (four_on w) → u ≡ byte (8 * i)
window_moved i w u ew eu = eu ∙ ap (λ x. four_on (four_on x)) ew ∙ sym (byte_next (8 * i))

pub window_again : (i u : ℕ) → u ≡ byte (8 * i) → u ≡ window (up_to (8 * (i + 1)))
window_again i u e =
    let m : 8 * i + 8 ≡ 8 * (i + 1) = omega arith in
    e ∙ sym (window_next (8 * i)) ∙ ap (λ k. window (up_to k)) m

pub mixed_more : (list mixed : List ℕ) (i u : ℕ) → i < length list → length mixed ≡ length list → u ≡ byte (8 * i) → take i mixed ≡ take i (scrambled 0 list)
    → take (i + 1) (slice_set mixed i (bit_xor (slice_index list i) u)) ≡ take (i + 1) (scrambled 0 list)
mixed_more list mixed i u l long e before =
    let z : 0 + 8 * i ≡ 8 * i = omega arith in
    let there : i < length (scrambled 0 list) = omega (arith, length_scrambled 0 list) in
    let next : slice_index_or (scrambled 0 list) i 0 ≡ bit_xor (slice_index list i) u = scrambled_at 0 list i l ∙ ap (λ m. bit_xor (slice_index list i) (byte m)) z ∙ ap (bit_xor (slice_index list i)) (sym e) in
    take_more_set mixed i (bit_xor (slice_index list i) u) (omega arith)
    ∙ ap (λ zs. zs ++ bit_xor (slice_index list i) u ∷ []) before
    ∙ ap (λ x. take i (scrambled 0 list) ++ x ∷ []) (sym next)
    ∙ sym (take_more (scrambled 0 list) i 0 there)

pub mixed_all : (list mixed : List ℕ) (i : ℕ) → length list ≤ i → length mixed ≡ length list → take i mixed ≡ take i (scrambled 0 list) → mixed ≡ scrambled 0 list
mixed_all list mixed i l long e =
    sym (take_all i mixed (omega arith)) ∙ e ∙ take_all i (scrambled 0 list) (omega (arith, length_scrambled 0 list))

-- scrambled again, bytes are the list that was scrambled
pub scrambled_again : (bytes list : List ℕ) → ((i : ℕ) → Fits w8 (slice_index bytes i)) → list ≡ scrambled 0 bytes → Regains (scrambling 0) bytes None list
scrambled_again bytes list small e =
    let nearest = bytes_are_nearest bytes (within_from 255 bytes (λ i _. omega (arith, small i))) in
    let again : scrambled 0 (scrambled 0 (map nearest_byte bytes)) ≡ bytes = scrambled_twice 0 (map nearest_byte bytes) ∙ nearest in (
      record { few = omega arith; same = λ k _. ap (λ zs. slice_index zs k) again; stop = λ h _. absurd (omega arith) },
      e ∙ ap (scrambled 0) (sym nearest),
    )
