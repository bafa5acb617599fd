-- Laws of polynomials over two elements: sums, products and their lengths, and that bits stay bits.
use Rattle.std.specs.Prelude.{◌≡◌, ℕ, zero, suc, ◌+◌, ◌*◌, ◌≤◌, true, List, [], ◌∷◌, ◌++◌, length, bit_xor, nat_le, refl}
use Rattle.std.proofs.Common.{sym, ap, ◌∙◌, arith, mul-one}
use Rattle.std.proofs.lemmas.Nat.{xor_comm, xor_lt}
use Rattle.std.specs.Int.Bits.{xor_assoc, xor_self, xor_zero_l, xor_zero_r}
use Rattle.std.proofs.lemmas.List.{length-append, length-map, length-replicate, length_push}
use Rattle.std.proofs.lemmas.Bool.{and_parts, and_from, leb-true, le-leb}
use Rattle.stage.specs.Plain.{within}
use Rattle.codings.specs.Polynomials.{sum, scaled, zeros, monic, product, fed, fed_all, remainder}

pub sum_comm : (p q : List ℕ) → sum p q ≡ sum q p
sum_comm [] [] = refl
sum_comm [] (b ∷ q) = refl
sum_comm (a ∷ p) [] = refl
sum_comm (a ∷ p) (b ∷ q) = let e = xor_comm a b in let t = sum_comm p q in cc

pub sum_assoc : (p q r : List ℕ) → sum (sum p q) r ≡ sum p (sum q r)
sum_assoc [] q r = refl
sum_assoc (a ∷ p) [] r = refl
sum_assoc (a ∷ p) (b ∷ q) [] = refl
sum_assoc (a ∷ p) (b ∷ q) (c ∷ r) = let e = xor_assoc a b c in let t = sum_assoc p q r in cc

pub zeros_sum : (p : List ℕ) → sum (zeros (length p)) p ≡ p
zeros_sum [] = refl
zeros_sum (a ∷ p) = let e = xor_zero_l a in let t = zeros_sum p in cc

pub sum_self : (p : List ℕ) → sum p p ≡ zeros (length p)
sum_self [] = refl
sum_self (a ∷ p) = let e = xor_self a in let t = sum_self p in cc

pub length_sum : (p q : List ℕ) → length p ≡ length q → length (sum p q) ≡ length q
length_sum [] q e = e
length_sum (a ∷ p) [] e = absurd (omega arith)
length_sum (a ∷ p) (b ∷ q) e = ap suc (length_sum p q (omega arith))

-- what was added twice is gone
pub added_twice : (s p : List ℕ) → length s ≡ length p → sum s (sum s p) ≡ p
added_twice s p e =
    sym (sum_assoc s s p) ∙ ap (λ z. sum z p) (sum_self s ∙ ap zeros e) ∙ zeros_sum p

pub sum_append : (p q r s : List ℕ) → length p ≡ length q → sum (p ++ r) (q ++ s) ≡ sum p q ++ sum r s
sum_append [] [] r s e = refl
sum_append [] (b ∷ q) r s e = absurd (omega arith)
sum_append (a ∷ p) [] r s e = absurd (omega arith)
sum_append (a ∷ p) (b ∷ q) r s e = let t = sum_append p q r s (omega arith) in cc

pub length_scaled : (c : ℕ) (p : List ℕ) → length (scaled c p) ≡ length p
length_scaled c p = length-map p (λ a. c * a)

pub length_zeros : (n : ℕ) → length (zeros n) ≡ n
length_zeros n = length-replicate n 0

-- the product's first coefficient, and the others
pub product_more : (c : ℕ) (q lower : List ℕ) → product (c ∷ q) (monic lower) ≡ c ∷ sum (scaled c lower ++ zeros (length q)) (product q (monic lower))
product_more c q lower = ap (λ x. x ∷ sum (scaled c lower ++ zeros (length q)) (product q (monic lower))) (xor_zero_r (c * 1) ∙ mul-one c)

pub length_product : (q lower : List ℕ) → length (product q (monic lower)) ≡ length q + length lower
length_product [] lower = omega (arith, length_zeros (length lower))
length_product (c ∷ q) lower =
    let t = length_product q lower in
    let a = length-append (scaled c lower) (zeros (length q)) in
    let s = length_scaled c lower in
    let z = length_zeros (length q) in
    ap suc (length_sum (scaled c lower ++ zeros (length q)) (product q (monic lower)) (omega arith)) ∙ omega arith

pub length_fed : (lower register : List ℕ) (bit : ℕ) → length register ≡ length lower → length (fed lower register bit) ≡ length lower
length_fed lower [] bit e = e
length_fed lower (h ∷ t) bit e =
    let p = length_push t 0 in
    let s = length_scaled (bit_xor h bit) lower in
    length_sum (t ++ 0 ∷ []) (scaled (bit_xor h bit) lower) (omega arith) ∙ s

pub length_fed_all : (lower register bits : List ℕ) → length register ≡ length lower → length (fed_all lower register bits) ≡ length lower
length_fed_all lower register [] e = e
length_fed_all lower register (bit ∷ bits) e = length_fed_all lower (fed lower register bit) bits (length_fed lower register bit e)

pub length_remainder : (lower message : List ℕ) → length (remainder lower message) ≡ length lower
length_remainder lower message = length_fed_all lower (zeros (length lower)) message (length_zeros (length lower))

-- a register of bits stays one
pub bit_of_bits : (a b : ℕ) → a ≤ 1 → b ≤ 1 → bit_xor a b ≤ 1
bit_of_bits a b h k = omega (arith, xor_lt 1 a b (omega arith) (omega arith))

sum_bits : (p q : List ℕ) → within 1 p ≡ true → within 1 q ≡ true → within 1 (sum p q) ≡ true
sum_bits [] q hp hq = refl
sum_bits (a ∷ p) [] hp hq = refl
sum_bits (a ∷ p) (b ∷ q) hp hq =
    let l = and_parts (nat_le a 1) (within 1 p) hp in
    let r = and_parts (nat_le b 1) (within 1 q) hq in
    and_from (nat_le (bit_xor a b) 1) (within 1 (sum p q)) (le-leb (bit_xor a b) 1 (bit_of_bits a b (leb-true a 1 l.0) (leb-true b 1 r.0))) (sum_bits p q l.1 r.1)

product_of_bits : (a b : ℕ) → a ≤ 1 → b ≤ 1 → a * b ≤ 1
product_of_bits zero b h k = omega arith
product_of_bits (suc zero) b h k = omega arith
product_of_bits (suc (suc a)) b h k = absurd (omega arith)

scaled_bits : (c : ℕ) (p : List ℕ) → c ≤ 1 → within 1 p ≡ true → within 1 (scaled c p) ≡ true
scaled_bits c [] l h = refl
scaled_bits c (a ∷ p) l h =
    let t = and_parts (nat_le a 1) (within 1 p) h in
    and_from (nat_le (c * a) 1) (within 1 (scaled c p)) (le-leb (c * a) 1 (product_of_bits c a l (leb-true a 1 t.0))) (scaled_bits c p l t.1)

moved_bits : (p : List ℕ) → within 1 p ≡ true → within 1 (p ++ 0 ∷ []) ≡ true
moved_bits [] h = refl
moved_bits (a ∷ p) h =
    let t = and_parts (nat_le a 1) (within 1 p) h in and_from (nat_le a 1) (within 1 (p ++ 0 ∷ [])) t.0 (moved_bits p t.1)

pub fed_bits : (lower register : List ℕ) (bit : ℕ) → within 1 lower ≡ true → within 1 register ≡ true → bit ≤ 1 → within 1 (fed lower register bit) ≡ true
fed_bits lower [] bit hl hr b = refl
fed_bits lower (h ∷ t) bit hl hr b =
    let parts = and_parts (nat_le h 1) (within 1 t) hr in
    sum_bits (t ++ 0 ∷ []) (scaled (bit_xor h bit) lower) (moved_bits t parts.1) (scaled_bits (bit_xor h bit) lower (bit_of_bits h bit (leb-true h 1 parts.0) b) hl)

fed_all_bits : (lower register bits : List ℕ) → within 1 lower ≡ true → within 1 register ≡ true → within 1 bits ≡ true → within 1 (fed_all lower register bits) ≡ true
fed_all_bits lower register [] hl hr hb = hr
fed_all_bits lower register (bit ∷ bits) hl hr hb =
    let parts = and_parts (nat_le bit 1) (within 1 bits) hb in
    fed_all_bits lower (fed lower register bit) bits hl (fed_bits lower register bit hl hr (leb-true bit 1 parts.0)) parts.1

pub zero_bits : (n : ℕ) → within 1 (zeros n) ≡ true
zero_bits zero = refl
zero_bits (suc n) = zero_bits n

pub remainder_bits : (lower message : List ℕ) → within 1 lower ≡ true → within 1 message ≡ true → within 1 (remainder lower message) ≡ true
remainder_bits lower message hl hm = fed_all_bits lower (zeros (length lower)) message hl (zero_bits (length lower)) hm
