-- Numbers and the bits that write them, and parts of lists of bits.
use Rattle.std.proofs.Common.{◌≡◌, ℕ, zero, suc, ◌+◌, ◌-◌, ◌*◌, ◌/◌, ◌%◌, ◌^◌, ◌<◌, ◌≤◌, true, leb, ◌⊎◌, List, [], ◌∷◌, ◌++◌, length, get_or, take, drop, sym, refl, ap, ◌∙◌, subst, inl, inr, add-one, arith}
use Rattle.std.proofs.lemmas.Nat.{mod_below, pow-add, pow_below, shr-shr}
use Rattle.std.proofs.lemmas.List.{at_drop_more, at_drop_all, length-take-le, length-drop, take-append-drop, drop-drop}
use Rattle.std.proofs.lemmas.Bool.{and_parts, and_from, cases_lt, leb-true, le-leb}
use denote.Param.Members.{Mut}
use Rattle.std.specs.Fn.{Called}
use Rattle.std.specs.Array.{IsFromFnResultFrom}
use Rattle.stage.specs.Plain.{within}
use Rattle.packing.specs.Bits.{bits_of, value_behind, value, part}

pub bits_are_bits : (width number : ℕ) → within 1 (bits_of width number) ≡ true
bits_are_bits zero number = refl
bits_are_bits (suc width) number =
    and_from
    (leb (number / 2 ^ width % 2) 1)
    (within 1 (bits_of width number))
    (le-leb (number / 2 ^ width % 2) 1 (omega (arith, mod_below (number / 2 ^ width) 2 (omega arith))))
    (bits_are_bits width number)

-- a list of bits is known by its places
pub bits_by_places : (width number : ℕ) (xs : List ℕ) → length xs ≡ width → ((k : ℕ) → k < width → get_or xs k 0 ≡ number / 2 ^ (width - 1 - k) % 2) → xs ≡ bits_of width number
bits_by_places zero number [] l each = refl
bits_by_places zero number (x ∷ xs) l each = absurd (omega arith)
bits_by_places (suc width) number [] l each = absurd (omega arith)
bits_by_places (suc width) number (x ∷ xs) l each =
    let first : suc width - 1 - 0 ≡ width = omega arith in
    let here : x ≡ number / 2 ^ width % 2 = each 0 (omega arith) ∙ ap (λ k. number / 2 ^ k % 2) first in
    let rest = bits_by_places width number xs (omega arith) (λ k s. each (suc k) (omega arith) ∙ ap (λ j. number / 2 ^ j % 2) (omega arith)) in cc

-- what a closure that stays as it is tells of each place of the array that it made
pub made_by_places : {F : Type 0} (g : Mut F (ℕ × Unit {0}) ℕ) (f : F) (made : ℕ → ℕ) → ((k y : ℕ) (q : F) → Called g f (k, tt) y q → (q ≡ f) × (y ≡ made k))
    → (ys : List ℕ) (i n : ℕ) → IsFromFnResultFrom g f ys i n → (k : ℕ) → i ≤ k → k < i + n → get_or ys k 0 ≡ made k
made_by_places g f made says ys i zero h k low high = absurd (omega arith)
made_by_places g f made says ys i (suc n) h k low high =
    let here = says i h.1 h.0 h.3 in
    elim (cases_lt i k) [
      | inl s ↦ made_by_places g f made says ys (i + 1) n (subst (λ q. IsFromFnResultFrom g q ys (i + 1) n) here.0 h.4) k (omega arith) (omega arith)
      | inr s ↦ (let e : i ≡ k = omega arith in subst (λ j. get_or ys j 0 ≡ made j) e (h.2.1 0 ∙ here.1))
    ]

-- the bits behind a number are divided off again
number_before : (number : ℕ) (bits : List ℕ) → within 1 bits ≡ true → value_behind number bits / 2 ^ length bits ≡ number
number_before number [] w = omega arith
number_before number (bit ∷ bits) w =
    let parts = and_parts (leb bit 1) (within 1 bits) w in
    let small = leb-true bit 1 parts.0 in
    let v = value_behind (2 * number + bit) bits in
    let before : v / 2 ^ length bits ≡ 2 * number + bit = number_before (2 * number + bit) bits parts.1 in
    ap (λ k. v / 2 ^ k) (sym (add-one (length bits)))
    ∙ sym (shr-shr v (length bits) 1)
    ∙ ap (λ x. x / 2 ^ 1) before
    ∙ omega arith

bits_behind : (number : ℕ) (bits : List ℕ) → within 1 bits ≡ true → bits_of (length bits) (value_behind number bits) ≡ bits
bits_behind number [] w = refl
bits_behind number (bit ∷ bits) w =
    let parts = and_parts (leb bit 1) (within 1 bits) w in
    let small = leb-true bit 1 parts.0 in
    let v = value_behind (2 * number + bit) bits in
    let before : v / 2 ^ length bits ≡ 2 * number + bit = number_before (2 * number + bit) bits parts.1 in
    let odd : (2 * number + bit) % 2 ≡ bit = omega arith in
    let first : v / 2 ^ length bits % 2 ≡ bit = ap (λ x. x % 2) before ∙ odd in
    let rest = bits_behind (2 * number + bit) bits parts.1 in cc

-- so many bits write a number that is below that power of two, and are its bits
pub value_divided : (width : ℕ) (bits : List ℕ) → length bits ≡ width → within 1 bits ≡ true → value bits / 2 ^ width ≡ 0
value_divided width bits e w = ap (λ k. value bits / 2 ^ k) (sym e) ∙ number_before 0 bits w

pub bits_of_value : (width : ℕ) (bits : List ℕ) → length bits ≡ width → within 1 bits ≡ true → bits_of width (value bits) ≡ bits
bits_of_value width bits e w = ap (λ k. bits_of k (value bits)) (sym e) ∙ bits_behind 0 bits w

-- a number's bits behind what is above them write the number again
bits_read : (width number : ℕ) → value_behind (number / 2 ^ width) (bits_of width number) ≡ number
bits_read zero number = omega arith
bits_read (suc width) number =
    let half : number / 2 ^ suc width ≡ number / 2 ^ width / 2 = ap (λ k. number / 2 ^ k) (sym (add-one width)) ∙ sym (shr-shr number width 1) in
    let next : 2 * (number / 2 ^ suc width) + number / 2 ^ width % 2 ≡ number / 2 ^ width = omega arith in
    ap (λ x. value_behind x (bits_of width number)) next ∙ bits_read width number

pub value_of_bits : (width number : ℕ) → number / 2 ^ width ≡ 0 → value (bits_of width number) ≡ number
value_of_bits width number small = ap (λ x. value_behind x (bits_of width number)) (sym small) ∙ bits_read width number

-- reading one bit more, and how large the number read has become then
power_of_few : (i : ℕ) → i ≤ 8 → 2 ^ i ≤ 256
power_of_few i l = of (cases_lt i 8)
  where
    of : (i < 8) ⊎ (8 ≤ i) → 2 ^ i ≤ 256
    of (inl s) = omega (arith, pow_below i 8 s)
    of (inr s) = let e : i ≡ 8 = omega arith in omega (arith, ap (λ k. 2 ^ k) e)

pub one_bit_more : (bits : List ℕ) (i number : ℕ) → i < length bits → get_or bits i 0 ≤ 255
    → (value_behind number (drop i bits) ≡ value bits) × (number + 255 ≤ 255 * 2 ^ i)
    → (value_behind (2 * number + get_or bits i 0) (drop (i + 1) bits) ≡ value bits) × (2 * number + get_or bits i 0 + 255 ≤ 255 * 2 ^ (i + 1))
one_bit_more bits i number l byte inv =
    let double : 2 ^ (i + 1) ≡ 2 ^ i * 2 = pow-add 2 i 1 in
    (sym (at_drop_more (value_behind number) bits i 0 l) ∙ inv.0, omega (arith, inv.1))

pub all_bits_read : (bits : List ℕ) (i number : ℕ) → length bits ≤ i → value_behind number (drop i bits) ≡ value bits → number ≡ value bits
all_bits_read bits i number l inv = sym (at_drop_all (value_behind number) bits i l) ∙ inv

pub few_bits_read : (i number : ℕ) → i ≤ 8 → number + 255 ≤ 255 * 2 ^ i → number < 65536
few_bits_read i number l inv = omega (arith, power_of_few i l)

pub within_take : (high n : ℕ) (xs : List ℕ) → within high xs ≡ true → within high (take n xs) ≡ true
within_take high zero xs w = refl
within_take high (suc n) [] w = refl
within_take high (suc n) (x ∷ xs) w =
    let parts = and_parts (leb x high) (within high xs) w in
    and_from (leb x high) (within high (take n xs)) parts.0 (within_take high n xs parts.1)

pub within_drop : (high n : ℕ) (xs : List ℕ) → within high xs ≡ true → within high (drop n xs) ≡ true
within_drop high zero xs w = w
within_drop high (suc n) [] w = refl
within_drop high (suc n) (x ∷ xs) w = within_drop high n xs (and_parts (leb x high) (within high xs) w).1

pub within_part : (place count : ℕ) (bits : List ℕ) → within 1 bits ≡ true → within 1 (part place count bits) ≡ true
within_part place count bits w = within_take 1 count (drop place bits) (within_drop 1 place bits w)

pub length_part : (place count : ℕ) (bits : List ℕ) → place + count ≤ length bits → length (part place count bits) ≡ count
length_part place count bits l = length-take-le count (drop place bits) (omega (arith, length-drop place bits))

-- a part of the bits, and all behind it
pub part_and_rest : (bits : List ℕ) (place count next : ℕ) (rest : List ℕ) → place + count ≡ next → rest ≡ drop next bits → part place count bits ++ rest ≡ drop place bits
part_and_rest bits place count next rest e r =
    ap (λ zs. part place count bits ++ zs) (r ∙ ap (λ k. drop k bits) (sym e) ∙ sym (drop-drop count place bits))
    ∙ take-append-drop count (drop place bits)

-- the bits of a part are those of the number that it writes
pub part_again : (place count : ℕ) (bits : List ℕ) → place + count ≤ length bits → within 1 bits ≡ true → bits_of count (value (part place count bits)) ≡ part place count bits
part_again place count bits l w = bits_of_value count (part place count bits) (length_part place count bits l) (within_part place count bits w)

pub part_small : (place count : ℕ) (bits : List ℕ) → place + count ≤ length bits → within 1 bits ≡ true → value (part place count bits) / 2 ^ count ≡ 0
part_small place count bits l w = value_divided count (part place count bits) (length_part place count bits l) (within_part place count bits w)
