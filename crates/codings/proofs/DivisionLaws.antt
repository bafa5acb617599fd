-- The law of the remainder: what the register holds is the remainder of division.
use Rattle.std.proofs.Common.{◌≡◌, ℕ, suc, ◌+◌, ◌≤◌, true, leb, List, [], ◌∷◌, ◌++◌, length, sym, refl, ap, ◌∙◌, append_assoc, arith}
use lib.Bits.{bit_xor, xor_zero_r}
use Rattle.std.proofs.lemmas.List.{append-nil, length-append, length_push, replicate-append-replicate}
use Rattle.std.proofs.lemmas.Bool.{and_parts, and_from, leb-true, le-leb}
use Rattle.stage.specs.Plain.{within}
use Rattle.codings.specs.Polynomials.{sum, scaled, zeros, moved_up, widened, monic, product, fed, fed_all, remainder, Divides}
use Rattle.codings.specs.PolynomialLaws.{sum_comm, sum_assoc, zeros_sum, sum_self, length_sum, added_twice, sum_append, length_scaled, length_zeros, length_fed, product_more, length_product, bit_of_bits, fed_bits, zero_bits, remainder_bits, length_remainder}

-- the coefficients of the quotient, as the division finds them
abbrev quotients : List ℕ → List ℕ → List ℕ → List ℕ
quotients lower register [] = []
quotients lower [] (bit ∷ bits) = bit ∷ quotients lower [] bits
quotients lower (h ∷ t) (bit ∷ bits) = bit_xor h bit ∷ quotients lower (fed lower (h ∷ t) bit) bits

length_quotients : (lower register bits : List ℕ) → length (quotients lower register bits) ≡ length bits
length_quotients lower register [] = refl
length_quotients lower [] (bit ∷ bits) = ap suc (length_quotients lower [] bits)
length_quotients lower (h ∷ t) (bit ∷ bits) = ap suc (length_quotients lower (fed lower (h ∷ t) bit) bits)

quotients_bits : (lower register bits : List ℕ) → within 1 lower ≡ true → within 1 register ≡ true → within 1 bits ≡ true → within 1 (quotients lower register bits) ≡ true
quotients_bits lower register [] hl hr hb = refl
quotients_bits lower [] (bit ∷ bits) hl hr hb =
    let b = and_parts (leb bit 1) (within 1 bits) hb in and_from (leb bit 1) (within 1 (quotients lower [] bits)) b.0 (quotients_bits lower [] bits hl refl b.1)
quotients_bits lower (h ∷ t) (bit ∷ bits) hl hr hb =
    let b = and_parts (leb bit 1) (within 1 bits) hb in
    let small = leb-true bit 1 b.0 in
    let r = and_parts (leb h 1) (within 1 t) hr in
    let q = quotients lower (fed lower (h ∷ t) bit) bits in
    let c : bit_xor h bit ≤ 1 = bit_of_bits h bit (leb-true h 1 r.0) small in
    and_from (leb (bit_xor h bit) 1) (within 1 q) (le-leb (bit_xor h bit) 1 c) (quotients_bits lower (fed lower (h ∷ t) bit) bits hl (fed_bits lower (h ∷ t) bit hl hr small) b.1)

-- what was added on both sides is gone
cancelled : (t s p : List ℕ) → length s ≡ length t → length s ≡ length p → sum s (sum (sum t s) p) ≡ sum t p
cancelled t s p e f =
    ap (λ z. sum s z) (ap (λ z. sum z p) (sum_comm t s) ∙ sum_assoc s t p)
    ∙ added_twice s (sum t p) (f ∙ sym (length_sum t p (sym e ∙ f)))

sum_of_zeros : (n : ℕ) → sum (zeros n) (zeros n) ≡ zeros n
sum_of_zeros n = sum_self (zeros n) ∙ ap zeros (length_zeros n)

-- the register after a coefficient, with n more behind it
fed_moved_up : (t lower : List ℕ) (c n : ℕ) → suc (length t) ≡ length lower → sum (t ++ 0 ∷ []) (scaled c lower) ++ zeros n ≡ sum (t ++ 0 ∷ zeros n) (scaled c lower ++ zeros n)
fed_moved_up t lower c n e =
    let p = length_push t 0 in
    let s = length_scaled c lower in
    ap (λ z. sum (t ++ 0 ∷ []) (scaled c lower) ++ z) (sym (sum_of_zeros n))
    ∙ sym (sum_append (t ++ 0 ∷ []) (scaled c lower) (zeros n) (zeros n) (omega arith))
    ∙ ap (λ z. sum z (scaled c lower ++ zeros n)) (append_assoc t (0 ∷ []) (zeros n))

-- one step of the division, below the highest power
step : (t lower b p z : List ℕ) (c n m : ℕ) → suc (length t) ≡ length lower → m ≡ n → length b ≡ n + length lower → sum (sum (t ++ 0 ∷ []) (scaled c lower) ++ zeros n) b ≡ sum p z → sum (t ++ 0 ∷ zeros n) b ≡ sum (sum (scaled c lower ++ zeros m) p) z
step t lower b p z c n m e em eb ih =
    let s = scaled c lower ++ zeros n in
    let ls : length s ≡ length lower + n = omega (arith, length-append (scaled c lower) (zeros n), length_scaled c lower, length_zeros n) in
    let lt : length (t ++ 0 ∷ zeros n) ≡ length lower + n = omega (arith, length-append t (0 ∷ zeros n), length_zeros n) in
    sym (cancelled (t ++ 0 ∷ zeros n) s b (omega arith) (omega arith))
    ∙ ap (λ x. sum s (sum x b)) (sym (fed_moved_up t lower c n e))
    ∙ ap (λ x. sum s x) ih
    ∙ sym (sum_assoc s p z)
    ∙ ap (λ k. sum (sum (scaled c lower ++ zeros k) p) z) (sym em)

-- the same where the generator is 1, which leaves nothing
step_by_one : (b p z : List ℕ) (n m : ℕ) → m ≡ n → length b ≡ n → sum (zeros n) b ≡ sum p z → sum (zeros n) b ≡ sum (sum (zeros m) p) z
step_by_one b p z n m em eb ih =
    ap (λ k. sum (zeros k) b) (sym eb)
    ∙ zeros_sum b
    ∙ sym (added_twice (zeros n) b (length_zeros n ∙ sym eb))
    ∙ ap (λ x. sum (zeros n) x) ih
    ∙ sym (sum_assoc (zeros n) p z)
    ∙ ap (λ k. sum (sum (zeros k) p) z) (sym em)

-- the division: the register and the message together are a product and what the register holds then
divides : (lower register bits : List ℕ) → length register ≡ length lower → sum (moved_up (length bits) register) (moved_up (length lower) bits) ≡ sum (product (quotients lower register bits) (monic lower)) (widened (length bits) (fed_all lower register bits))
divides lower register [] e = ap (λ z. sum z (zeros (length lower))) (append-nil register) ∙ sum_comm register (zeros (length lower))
divides (l ∷ lower) [] (bit ∷ bits) e = absurd (omega arith)
divides [] [] (bit ∷ bits) e =
    let q = quotients [] [] bits in
    let z = zeros (length bits) ++ fed_all [] [] bits in
    let lb : length (bits ++ []) ≡ length bits = ap length (append-nil bits) in
    let rest = step_by_one (bits ++ []) (product q (monic [])) z (length bits) (length q) (length_quotients [] [] bits) lb (divides [] [] bits refl) in
    ap (λ x. bit ∷ x) rest
    ∙ ap (λ x. x ∷ sum (sum (zeros (length q)) (product q (monic []))) z) (sym (xor_zero_r bit))
    ∙ ap (λ x. sum x (0 ∷ z)) (sym (product_more bit q []))
divides lower (h ∷ t) (bit ∷ bits) e =
    let c = bit_xor h bit in
    let n = length bits in
    let q = quotients lower (fed lower (h ∷ t) bit) bits in
    let ih = divides lower (fed lower (h ∷ t) bit) bits (length_fed lower (h ∷ t) bit e) in
    let lb : length (bits ++ zeros (length lower)) ≡ n + length lower = omega (arith, length-append bits (zeros (length lower)), length_zeros (length lower)) in
    let rest = step t lower (bits ++ zeros (length lower)) (product q (monic lower)) (zeros n ++ fed_all lower (fed lower (h ∷ t) bit) bits) c n (length q) e (length_quotients lower (fed lower (h ∷ t) bit) bits) lb ih in
    ap (λ z. c ∷ z) rest
    ∙ ap (λ x. x ∷ sum (sum (scaled c lower ++ zeros (length q)) (product q (monic lower))) (zeros n ++ fed_all lower (fed lower (h ∷ t) bit) bits)) (sym (xor_zero_r c))
    ∙ ap (λ z. sum z (0 ∷ (zeros n ++ fed_all lower (fed lower (h ∷ t) bit) bits))) (sym (product_more c q lower))

-- what was added in front on both sides is gone
less : (s p z p' z' : List ℕ) → length s ≡ length (sum p z) → length s ≡ length (sum p' z') → sum (sum s p) z ≡ sum (sum s p') z' → sum p z ≡ sum p' z'
less s p z p' z' l l' e =
    sym (added_twice s (sum p z) l)
    ∙ ap (λ x. sum s x) (sym (sum_assoc s p z) ∙ e ∙ sum_assoc s p' z')
    ∙ added_twice s (sum p' z') l'

-- lists that are equal have equal heads and equal tails
heads : (a b : ℕ) (p q : List ℕ) → a ∷ p ≡ b ∷ q → (a ≡ b) × (p ≡ q)
heads a b p q e = ((cc), (cc))

length_whole : (q lower r : List ℕ) → length r ≡ length lower → length (sum (product q (monic lower)) (zeros (length q) ++ r)) ≡ length q + length lower
length_whole q lower r e =
    let w : length (zeros (length q) ++ r) ≡ length q + length lower = omega (arith, length-append (zeros (length q)) r, length_zeros (length q)) in
    length_sum (product q (monic lower)) (zeros (length q) ++ r) (length_product q lower ∙ sym w) ∙ w

-- a quotient and a remainder are known from what they make together
same_remainder : (lower q q' r r' : List ℕ) → length q ≡ length q' → length r ≡ length lower → length r' ≡ length lower → sum (product q (monic lower)) (widened (length q) r) ≡ sum (product q' (monic lower)) (widened (length q') r') → r ≡ r'
same_remainder lower [] [] r r' lq lr lr' e =
    sym (zeros_sum r)
    ∙ ap (λ k. sum (zeros k) r) lr
    ∙ e
    ∙ ap (λ k. sum (zeros k) r') (sym lr')
    ∙ zeros_sum r'
same_remainder lower [] (c ∷ q') r r' lq lr lr' e = absurd (omega arith)
same_remainder lower (c ∷ q) [] r r' lq lr lr' e = absurd (omega arith)
same_remainder lower (c ∷ q) (c' ∷ q') r r' lq lr lr' e =
    let lz : length q ≡ length q' = omega arith in
    let z = zeros (length q) ++ r in
    let z' = zeros (length q') ++ r' in
    let both = heads _ _ _ _ (ap (λ x. sum x (0 ∷ z)) (sym (product_more c q lower)) ∙ e ∙ ap (λ x. sum x (0 ∷ z')) (product_more c' q' lower)) in
    let same : c ≡ c' = sym (xor_zero_r c) ∙ both.0 ∙ xor_zero_r c' in
    let s = scaled c lower ++ zeros (length q) in
    let front : scaled c' lower ++ zeros (length q') ≡ s = ap (λ x. scaled x lower ++ zeros (length q')) (sym same) ∙ ap (λ k. scaled c lower ++ zeros k) (sym lz) in
    let ls : length s ≡ length q + length lower = omega (arith, length-append (scaled c lower) (zeros (length q)), length_scaled c lower, length_zeros (length q)) in
    let l = length_whole q lower r lr in
    let l' = length_whole q' lower r' lr' in
    let below = less s (product q (monic lower)) z (product q' (monic lower)) z' (omega arith) (omega arith) (both.1 ∙ ap (λ x. sum (sum x (product q' (monic lower))) z') front) in
    same_remainder lower q q' r r' lz lr lr' below

-- a register that starts empty adds nothing to the message
whole : (lower message : List ℕ) → moved_up (length lower) message ≡ sum (product (quotients lower (zeros (length lower)) message) (monic lower)) (widened (length message) (remainder lower message))
whole lower message =
    let k = length lower in
    let n = length message in
    let m = message ++ zeros k in
    let lm : length m ≡ n + k = omega (arith, length-append message (zeros k), length_zeros k) in
    let empty : zeros k ++ zeros n ≡ zeros (length m) = replicate-append-replicate k n 0 ∙ ap zeros (omega arith) in
    sym (zeros_sum m) ∙ ap (λ z. sum z m) (sym empty) ∙ divides lower (zeros k) message (length_zeros k)

-- the message and its remainder are the product
multiple : (q lower message r : List ℕ) → length q ≡ length message → length r ≡ length lower → moved_up (length lower) message ≡ sum (product q (monic lower)) (widened (length message) r) → message ++ r ≡ product q (monic lower)
multiple q lower message r lq lr e =
    let k = length lower in
    let n = length message in
    let w = zeros n ++ r in
    let p = product q (monic lower) in
    let lw : length w ≡ n + k = omega (arith, length-append (zeros n) r, length_zeros n) in
    let apart : sum (message ++ zeros k) w ≡ message ++ r =
    sum_append message (zeros n) (zeros k) r (sym (length_zeros n))
    ∙ ap (λ z. z ++ sum (zeros k) r) (sum_comm message (zeros n) ∙ zeros_sum message)
    ∙ ap (λ z. message ++ z) (ap (λ j. sum (zeros j) r) (sym lr) ∙ zeros_sum r) in
    sym apart
    ∙ ap (λ z. sum z w) (e ∙ sum_comm p w)
    ∙ sum_comm (sum w p) w
    ∙ added_twice w p (omega (arith, length_product q lower))

-- no other polynomial of degree below the generator's makes up the moved message
only : (lower message q r : List ℕ) → length q ≡ length message → length r ≡ length lower → moved_up (length lower) message ≡ sum (product q (monic lower)) (widened (length message) r) → r ≡ remainder lower message
only lower message q r lq lr e =
    let p = quotients lower (zeros (length lower)) message in
    let lp = length_quotients lower (zeros (length lower)) message in
    let given : sum (product q (monic lower)) (widened (length q) r) ≡ moved_up (length lower) message = ap (λ n. sum (product q (monic lower)) (widened n r)) lq ∙ sym e in
    let found : moved_up (length lower) message ≡ sum (product p (monic lower)) (widened (length p) (remainder lower message)) =
    whole lower message ∙ ap (λ n. sum (product p (monic lower)) (widened n (remainder lower message))) (sym lp) in
    same_remainder lower q p r (remainder lower message) (lq ∙ sym lp) lr (length_remainder lower message) (given ∙ found)

pub remainder_divides : (lower message : List ℕ) → Divides lower message
remainder_divides lower message =
    record {
      below_degree = length_remainder lower message;
      coefficients = remainder_bits lower message;
      quotient = quotients lower (zeros (length lower)) message;
      quotient_degree = length_quotients lower (zeros (length lower)) message;
      quotient_coefficients = λ hl hm. quotients_bits lower (zeros (length lower)) message hl (zero_bits (length lower)) hm;
      whole = whole lower message;
      multiple = multiple (quotients lower (zeros (length lower)) message) lower message (remainder lower message) (length_quotients lower (zeros (length lower)) message) (length_remainder lower message) (whole lower message);
      only = only lower message;
    }
