-- The law of the remainder over the field of bytes: what the register holds is the remainder of division.
use Rattle.std.specs.Prelude.{◌≡◌, ℕ, zero, suc, ◌+◌, ◌≤◌, true, List, [], ◌∷◌, ◌++◌, length, bit_xor, nat_le, refl}
use Rattle.std.proofs.Common.{sym, ap, ◌∙◌, append_assoc, arith}
use Rattle.std.specs.Int.Bits.{xor_zero_r}
use Rattle.std.proofs.lemmas.Nat.{xor_lt}
use Rattle.std.proofs.lemmas.List.{append-nil, length-append, length-map, length_push, replicate-append-replicate}
use Rattle.std.proofs.lemmas.Bool.{and_parts, and_from, leb-true, le-leb}
use Rattle.stage.specs.Plain.{within}
use Rattle.codings.specs.Polynomials.{sum, zeros, moved_up, widened, monic}
use Rattle.codings.specs.PolynomialLaws.{sum_comm, sum_assoc, zeros_sum, sum_self, length_sum, added_twice, sum_append, length_zeros}
use Rattle.reedsolomon.specs.Fields.{product}
use Rattle.reedsolomon.specs.Codes.{scaled, times, fed, fed_all, remainder, Divides}
use Rattle.reedsolomon.specs.FieldFacts.{product_one, product_byte}

pub length_scaled : (c : ℕ) (p : List ℕ) → length (scaled c p) ≡ length p
length_scaled c p = length-map p (product c)

-- the product's first coefficient, and the others
pub times_more : (c : ℕ) (q lower : List ℕ) → c ≤ 255 → times (c ∷ q) (monic lower) ≡ c ∷ sum (scaled c lower ++ zeros (length q)) (times q (monic lower))
times_more c q lower l = ap (λ x. x ∷ sum (scaled c lower ++ zeros (length q)) (times q (monic lower))) (xor_zero_r (product c 1) ∙ product_one c (omega arith))

pub length_times : (q lower : List ℕ) → length (times q (monic lower)) ≡ length q + length lower
length_times [] lower = omega (arith, length_zeros (length lower))
length_times (c ∷ q) lower =
    let t = length_times q lower in
    let a = length-append (scaled c lower) (zeros (length q)) in
    let s = length_scaled c lower in
    let z = length_zeros (length q) in
    ap suc (length_sum (scaled c lower ++ zeros (length q)) (times q (monic lower)) (omega arith)) ∙ omega arith

pub length_fed : (lower register : List ℕ) (byte : ℕ) → length register ≡ length lower → length (fed lower register byte) ≡ length lower
length_fed lower [] byte e = e
length_fed lower (h ∷ t) byte e =
    let p = length_push t 0 in
    let s = length_scaled (bit_xor h byte) lower in
    length_sum (t ++ 0 ∷ []) (scaled (bit_xor h byte) lower) (omega arith) ∙ s

pub length_fed_all : (lower register bytes : List ℕ) → length register ≡ length lower → length (fed_all lower register bytes) ≡ length lower
length_fed_all lower register [] e = e
length_fed_all lower register (byte ∷ bytes) e = length_fed_all lower (fed lower register byte) bytes (length_fed lower register byte e)

pub length_remainder : (lower message : List ℕ) → length (remainder lower message) ≡ length lower
length_remainder lower message = length_fed_all lower (zeros (length lower)) message (length_zeros (length lower))

-- a register of bytes stays one
pub byte_of_bytes : (a b : ℕ) → a ≤ 255 → b ≤ 255 → bit_xor a b ≤ 255
byte_of_bytes a b h k = omega (arith, xor_lt 8 a b (omega arith) (omega arith))

sum_bytes : (p q : List ℕ) → within 255 p ≡ true → within 255 q ≡ true → within 255 (sum p q) ≡ true
sum_bytes [] q hp hq = refl
sum_bytes (a ∷ p) [] hp hq = refl
sum_bytes (a ∷ p) (b ∷ q) hp hq =
    let l = and_parts (nat_le a 255) (within 255 p) hp in
    let r = and_parts (nat_le b 255) (within 255 q) hq in
    and_from (nat_le (bit_xor a b) 255) (within 255 (sum p q)) (le-leb (bit_xor a b) 255 (byte_of_bytes a b (leb-true a 255 l.0) (leb-true b 255 r.0))) (sum_bytes p q l.1 r.1)

scaled_bytes : (c : ℕ) (p : List ℕ) → c ≤ 255 → within 255 p ≡ true → within 255 (scaled c p) ≡ true
scaled_bytes c [] l h = refl
scaled_bytes c (a ∷ p) l h =
    let t = and_parts (nat_le a 255) (within 255 p) h in
    let small = leb-true a 255 t.0 in
    let b : product c a ≤ 255 = omega (arith, product_byte c a (omega arith) (omega arith)) in
    and_from (nat_le (product c a) 255) (within 255 (scaled c p)) (le-leb (product c a) 255 b) (scaled_bytes c p l t.1)

moved_bytes : (p : List ℕ) → within 255 p ≡ true → within 255 (p ++ 0 ∷ []) ≡ true
moved_bytes [] h = refl
moved_bytes (a ∷ p) h =
    let t = and_parts (nat_le a 255) (within 255 p) h in and_from (nat_le a 255) (within 255 (p ++ 0 ∷ [])) t.0 (moved_bytes p t.1)

pub fed_bytes : (lower register : List ℕ) (byte : ℕ) → within 255 lower ≡ true → within 255 register ≡ true → byte ≤ 255 → within 255 (fed lower register byte) ≡ true
fed_bytes lower [] byte hl hr b = refl
fed_bytes lower (h ∷ t) byte hl hr b =
    let parts = and_parts (nat_le h 255) (within 255 t) hr in
    sum_bytes (t ++ 0 ∷ []) (scaled (bit_xor h byte) lower) (moved_bytes t parts.1) (scaled_bytes (bit_xor h byte) lower (byte_of_bytes h byte (leb-true h 255 parts.0) b) hl)

fed_all_bytes : (lower register bytes : List ℕ) → within 255 lower ≡ true → within 255 register ≡ true → within 255 bytes ≡ true → within 255 (fed_all lower register bytes) ≡ true
fed_all_bytes lower register [] hl hr hb = hr
fed_all_bytes lower register (byte ∷ bytes) hl hr hb =
    let parts = and_parts (nat_le byte 255) (within 255 bytes) hb in
    fed_all_bytes lower (fed lower register byte) bytes hl (fed_bytes lower register byte hl hr (leb-true byte 255 parts.0)) parts.1

pub zero_bytes : (n : ℕ) → within 255 (zeros n) ≡ true
zero_bytes zero = refl
zero_bytes (suc n) = zero_bytes n

pub remainder_bytes : (lower message : List ℕ) → within 255 lower ≡ true → within 255 message ≡ true → within 255 (remainder lower message) ≡ true
remainder_bytes lower message hl hm = fed_all_bytes lower (zeros (length lower)) message hl (zero_bytes (length lower)) hm

-- the coefficients of the quotient, as the division finds them
abbrev quotients : List ℕ → List ℕ → List ℕ → List ℕ
quotients lower register [] = []
quotients lower [] (byte ∷ bytes) = byte ∷ quotients lower [] bytes
quotients lower (h ∷ t) (byte ∷ bytes) = bit_xor h byte ∷ quotients lower (fed lower (h ∷ t) byte) bytes

length_quotients : (lower register bytes : List ℕ) → length (quotients lower register bytes) ≡ length bytes
length_quotients lower register [] = refl
length_quotients lower [] (byte ∷ bytes) = ap suc (length_quotients lower [] bytes)
length_quotients lower (h ∷ t) (byte ∷ bytes) = ap suc (length_quotients lower (fed lower (h ∷ t) byte) bytes)

quotients_bytes : (lower register bytes : List ℕ) → within 255 lower ≡ true → within 255 register ≡ true → within 255 bytes ≡ true → within 255 (quotients lower register bytes) ≡ true
quotients_bytes lower register [] hl hr hb = refl
quotients_bytes lower [] (byte ∷ bytes) hl hr hb =
    let b = and_parts (nat_le byte 255) (within 255 bytes) hb in and_from (nat_le byte 255) (within 255 (quotients lower [] bytes)) b.0 (quotients_bytes lower [] bytes hl refl b.1)
quotients_bytes lower (h ∷ t) (byte ∷ bytes) hl hr hb =
    let b = and_parts (nat_le byte 255) (within 255 bytes) hb in
    let small = leb-true byte 255 b.0 in
    let r = and_parts (nat_le h 255) (within 255 t) hr in
    let q = quotients lower (fed lower (h ∷ t) byte) bytes in
    let c : bit_xor h byte ≤ 255 = byte_of_bytes h byte (leb-true h 255 r.0) small in
    and_from (nat_le (bit_xor h byte) 255) (within 255 q) (le-leb (bit_xor h byte) 255 c) (quotients_bytes lower (fed lower (h ∷ t) byte) bytes hl (fed_bytes lower (h ∷ t) byte hl hr small) b.1)

-- what was added on both sides is gone
cancelled : (t s p : List ℕ) → length s ≡ length t → length s ≡ length p → sum s (sum (sum t s) p) ≡ sum t p
cancelled t s p e f =
    ap (λ z. sum s z) (ap (λ z. sum z p) (sum_comm t s) ∙ sum_assoc s t p)
    ∙ added_twice s (sum t p) (f ∙ sym (length_sum t p (sym e ∙ f)))

sum_of_zeros : (n : ℕ) → sum (zeros n) (zeros n) ≡ zeros n
sum_of_zeros n = sum_self (zeros n) ∙ ap zeros (length_zeros n)

-- the register after a coefficient, with n more behind it
fed_moved_up : (t lower : List ℕ) (c n : ℕ) → suc (length t) ≡ length lower → sum (t ++ 0 ∷ []) (scaled c lower) ++ zeros n ≡ sum (t ++ 0 ∷ zeros n) (scaled c lower ++ zeros n)
fed_moved_up t lower c n e =
    let p = length_push t 0 in
    let s = length_scaled c lower in
    ap (λ z. sum (t ++ 0 ∷ []) (scaled c lower) ++ z) (sym (sum_of_zeros n))
    ∙ sym (sum_append (t ++ 0 ∷ []) (scaled c lower) (zeros n) (zeros n) (omega arith))
    ∙ ap (λ z. sum z (scaled c lower ++ zeros n)) (append_assoc t (0 ∷ []) (zeros n))

-- one step of the division, below the highest power
step : (t lower b p z : List ℕ) (c n m : ℕ) → suc (length t) ≡ length lower → m ≡ n → length b ≡ n + length lower → sum (sum (t ++ 0 ∷ []) (scaled c lower) ++ zeros n) b ≡ sum p z → sum (t ++ 0 ∷ zeros n) b ≡ sum (sum (scaled c lower ++ zeros m) p) z
step t lower b p z c n m e em eb ih =
    let s = scaled c lower ++ zeros n in
    let ls : length s ≡ length lower + n = omega (arith, length-append (scaled c lower) (zeros n), length_scaled c lower, length_zeros n) in
    let lt : length (t ++ 0 ∷ zeros n) ≡ length lower + n = omega (arith, length-append t (0 ∷ zeros n), length_zeros n) in
    sym (cancelled (t ++ 0 ∷ zeros n) s b (omega arith) (omega arith))
    ∙ ap (λ x. sum s (sum x b)) (sym (fed_moved_up t lower c n e))
    ∙ ap (λ x. sum s x) ih
    ∙ sym (sum_assoc s p z)
    ∙ ap (λ k. sum (sum (scaled c lower ++ zeros k) p) z) (sym em)

-- the same where the generator is 1, which leaves nothing
step_by_one : (b p z : List ℕ) (n m : ℕ) → m ≡ n → length b ≡ n → sum (zeros n) b ≡ sum p z → sum (zeros n) b ≡ sum (sum (zeros m) p) z
step_by_one b p z n m em eb ih =
    ap (λ k. sum (zeros k) b) (sym eb)
    ∙ zeros_sum b
    ∙ sym (added_twice (zeros n) b (length_zeros n ∙ sym eb))
    ∙ ap (λ x. sum (zeros n) x) ih
    ∙ sym (sum_assoc (zeros n) p z)
    ∙ ap (λ k. sum (sum (zeros k) p) z) (sym em)

-- the division: the register and the message together are a times and what the register holds then
divides : (lower register bytes : List ℕ) → within 255 lower ≡ true → within 255 register ≡ true → within 255 bytes ≡ true → length register ≡ length lower → sum (moved_up (length bytes) register) (moved_up (length lower) bytes) ≡ sum (times (quotients lower register bytes) (monic lower)) (widened (length bytes) (fed_all lower register bytes))
divides lower register [] hl hr hb e = ap (λ z. sum z (zeros (length lower))) (append-nil register) ∙ sum_comm register (zeros (length lower))
divides (l ∷ lower) [] (byte ∷ bytes) hl hr hb e = absurd (omega arith)
divides [] [] (byte ∷ bytes) hl hr hb e =
    let parts = and_parts (nat_le byte 255) (within 255 bytes) hb in
    let q = quotients [] [] bytes in
    let z = zeros (length bytes) ++ fed_all [] [] bytes in
    let lb : length (bytes ++ []) ≡ length bytes = ap length (append-nil bytes) in
    let rest = step_by_one (bytes ++ []) (times q (monic [])) z (length bytes) (length q) (length_quotients [] [] bytes) lb (divides [] [] bytes refl refl parts.1 refl) in
    ap (λ x. byte ∷ x) rest
    ∙ ap (λ x. x ∷ sum (sum (zeros (length q)) (times q (monic []))) z) (sym (xor_zero_r byte))
    ∙ ap (λ x. sum x (0 ∷ z)) (sym (times_more byte q [] (leb-true byte 255 parts.0)))
divides lower (h ∷ t) (byte ∷ bytes) hl hr hb e =
    let parts = and_parts (nat_le byte 255) (within 255 bytes) hb in
    let small = leb-true byte 255 parts.0 in
    let r = and_parts (nat_le h 255) (within 255 t) hr in
    let c = bit_xor h byte in
    let n = length bytes in
    let q = quotients lower (fed lower (h ∷ t) byte) bytes in
    let ih = divides lower (fed lower (h ∷ t) byte) bytes hl (fed_bytes lower (h ∷ t) byte hl hr small) parts.1 (length_fed lower (h ∷ t) byte e) in
    let lb : length (bytes ++ zeros (length lower)) ≡ n + length lower = omega (arith, length-append bytes (zeros (length lower)), length_zeros (length lower)) in
    let rest = step t lower (bytes ++ zeros (length lower)) (times q (monic lower)) (zeros n ++ fed_all lower (fed lower (h ∷ t) byte) bytes) c n (length q) e (length_quotients lower (fed lower (h ∷ t) byte) bytes) lb ih in
    ap (λ z. c ∷ z) rest
    ∙ ap (λ x. x ∷ sum (sum (scaled c lower ++ zeros (length q)) (times q (monic lower))) (zeros n ++ fed_all lower (fed lower (h ∷ t) byte) bytes)) (sym (xor_zero_r c))
    ∙ ap (λ z. sum z (0 ∷ (zeros n ++ fed_all lower (fed lower (h ∷ t) byte) bytes))) (sym (times_more c q lower (byte_of_bytes h byte (leb-true h 255 r.0) small)))

-- what was added in front on both sides is gone
less : (s p z p' z' : List ℕ) → length s ≡ length (sum p z) → length s ≡ length (sum p' z') → sum (sum s p) z ≡ sum (sum s p') z' → sum p z ≡ sum p' z'
less s p z p' z' l l' e =
    sym (added_twice s (sum p z) l)
    ∙ ap (λ x. sum s x) (sym (sum_assoc s p z) ∙ e ∙ sum_assoc s p' z')
    ∙ added_twice s (sum p' z') l'

-- lists that are equal have equal heads and equal tails
heads : (a b : ℕ) (p q : List ℕ) → a ∷ p ≡ b ∷ q → (a ≡ b) × (p ≡ q)
heads a b p q e = ((cc), (cc))

length_whole : (q lower r : List ℕ) → length r ≡ length lower → length (sum (times q (monic lower)) (zeros (length q) ++ r)) ≡ length q + length lower
length_whole q lower r e =
    let w : length (zeros (length q) ++ r) ≡ length q + length lower = omega (arith, length-append (zeros (length q)) r, length_zeros (length q)) in
    length_sum (times q (monic lower)) (zeros (length q) ++ r) (length_times q lower ∙ sym w) ∙ w

-- a quotient and a remainder are known from what they make together
same_remainder : (lower q q' r r' : List ℕ) → within 255 q ≡ true → within 255 q' ≡ true → length q ≡ length q' → length r ≡ length lower → length r' ≡ length lower → sum (times q (monic lower)) (widened (length q) r) ≡ sum (times q' (monic lower)) (widened (length q') r') → r ≡ r'
same_remainder lower [] [] r r' hq hq' lq lr lr' e =
    sym (zeros_sum r)
    ∙ ap (λ k. sum (zeros k) r) lr
    ∙ e
    ∙ ap (λ k. sum (zeros k) r') (sym lr')
    ∙ zeros_sum r'
same_remainder lower [] (c ∷ q') r r' hq hq' lq lr lr' e = absurd (omega arith)
same_remainder lower (c ∷ q) [] r r' hq hq' lq lr lr' e = absurd (omega arith)
same_remainder lower (c ∷ q) (c' ∷ q') r r' hq hq' lq lr lr' e =
    let lz : length q ≡ length q' = omega arith in
    let t = and_parts (nat_le c 255) (within 255 q) hq in
    let t' = and_parts (nat_le c' 255) (within 255 q') hq' in
    let z = zeros (length q) ++ r in
    let z' = zeros (length q') ++ r' in
    let both = heads _ _ _ _ (ap (λ x. sum x (0 ∷ z)) (sym (times_more c q lower (leb-true c 255 t.0))) ∙ e ∙ ap (λ x. sum x (0 ∷ z')) (times_more c' q' lower (leb-true c' 255 t'.0))) in
    let same : c ≡ c' = sym (xor_zero_r c) ∙ both.0 ∙ xor_zero_r c' in
    let s = scaled c lower ++ zeros (length q) in
    let front : scaled c' lower ++ zeros (length q') ≡ s = ap (λ x. scaled x lower ++ zeros (length q')) (sym same) ∙ ap (λ k. scaled c lower ++ zeros k) (sym lz) in
    let ls : length s ≡ length q + length lower = omega (arith, length-append (scaled c lower) (zeros (length q)), length_scaled c lower, length_zeros (length q)) in
    let l = length_whole q lower r lr in
    let l' = length_whole q' lower r' lr' in
    let below = less s (times q (monic lower)) z (times q' (monic lower)) z' (omega arith) (omega arith) (both.1 ∙ ap (λ x. sum (sum x (times q' (monic lower))) z') front) in
    same_remainder lower q q' r r' t.1 t'.1 lz lr lr' below

-- a register that starts empty adds nothing to the message
whole : (lower message : List ℕ) → within 255 lower ≡ true → within 255 message ≡ true → moved_up (length lower) message ≡ sum (times (quotients lower (zeros (length lower)) message) (monic lower)) (widened (length message) (remainder lower message))
whole lower message hl hm =
    let k = length lower in
    let n = length message in
    let m = message ++ zeros k in
    let lm : length m ≡ n + k = omega (arith, length-append message (zeros k), length_zeros k) in
    let empty : zeros k ++ zeros n ≡ zeros (length m) = replicate-append-replicate k n 0 ∙ ap zeros (omega arith) in
    sym (zeros_sum m) ∙ ap (λ z. sum z m) (sym empty) ∙ divides lower (zeros k) message hl (zero_bytes k) hm (length_zeros k)

-- the message and its remainder are the product
multiple : (q lower message r : List ℕ) → length q ≡ length message → length r ≡ length lower → moved_up (length lower) message ≡ sum (times q (monic lower)) (widened (length message) r) → message ++ r ≡ times q (monic lower)
multiple q lower message r lq lr e =
    let k = length lower in
    let n = length message in
    let w = zeros n ++ r in
    let p = times q (monic lower) in
    let lw : length w ≡ n + k = omega (arith, length-append (zeros n) r, length_zeros n) in
    let apart : sum (message ++ zeros k) w ≡ message ++ r =
    sum_append message (zeros n) (zeros k) r (sym (length_zeros n))
    ∙ ap (λ z. z ++ sum (zeros k) r) (sum_comm message (zeros n) ∙ zeros_sum message)
    ∙ ap (λ z. message ++ z) (ap (λ j. sum (zeros j) r) (sym lr) ∙ zeros_sum r) in
    sym apart
    ∙ ap (λ z. sum z w) (e ∙ sum_comm p w)
    ∙ sum_comm (sum w p) w
    ∙ added_twice w p (omega (arith, length_times q lower))

-- no other polynomial of degree below the generator's makes up the moved message
only : (lower message q r : List ℕ) → within 255 lower ≡ true → within 255 message ≡ true → within 255 q ≡ true → length q ≡ length message → length r ≡ length lower → moved_up (length lower) message ≡ sum (times q (monic lower)) (widened (length message) r) → r ≡ remainder lower message
only lower message q r hl hm hq lq lr e =
    let p = quotients lower (zeros (length lower)) message in
    let lp = length_quotients lower (zeros (length lower)) message in
    let given : sum (times q (monic lower)) (widened (length q) r) ≡ moved_up (length lower) message = ap (λ n. sum (times q (monic lower)) (widened n r)) lq ∙ sym e in
    let found : moved_up (length lower) message ≡ sum (times p (monic lower)) (widened (length p) (remainder lower message)) =
    whole lower message hl hm ∙ ap (λ n. sum (times p (monic lower)) (widened n (remainder lower message))) (sym lp) in
    same_remainder lower q p r (remainder lower message) hq (quotients_bytes lower (zeros (length lower)) message hl (zero_bytes (length lower)) hm) (lq ∙ sym lp) lr (length_remainder lower message) (given ∙ found)

pub remainder_divides : (lower message : List ℕ) → within 255 lower ≡ true → within 255 message ≡ true → Divides lower message
remainder_divides lower message hl hm =
    record {
      below_degree = length_remainder lower message;
      bytes = remainder_bytes lower message hl hm;
      quotient = quotients lower (zeros (length lower)) message;
      quotient_degree = length_quotients lower (zeros (length lower)) message;
      quotient_bytes = quotients_bytes lower (zeros (length lower)) message hl (zero_bytes (length lower)) hm;
      whole = whole lower message hl hm;
      multiple = multiple (quotients lower (zeros (length lower)) message) lower message (remainder lower message) (length_quotients lower (zeros (length lower)) message) (length_remainder lower message) (whole lower message hl hm);
      only = λ q r hq. only lower message q r hl hm hq;
    }
