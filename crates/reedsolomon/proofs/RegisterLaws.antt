-- The shift register leaves the parity of the message.
use Rattle.std.proofs.Common.{◌≡◌, ℕ, zero, suc, ◌+◌, ◌*◌, ◌<◌, ◌≤◌, true, ◌⊎◌, List, [], ◌∷◌, ◌++◌, length, get_or, take, drop, replicate, sym, refl, ap, ◌∙◌, ap₂, inl, inr, arith}
use lib.Bits.{bit_xor}
use Rattle.std.proofs.lemmas.List.{length_push, length-take-le, get_or-take, get_or-map, get_or_past, get_or-replicate, take-replicate, at_drop_more, at_drop_all}
use Rattle.std.proofs.lemmas.Bool.{cases_lt}
use Rattle.stage.specs.Lists.{same_by_places}
use Rattle.codings.specs.Polynomials.{sum}
use Rattle.reedsolomon.specs.Fields.{product}
use Rattle.reedsolomon.specs.Codes.{scaled, fed, fed_all, remainder, known_strength, lower}
use Rattle.reedsolomon.specs.Words.{generator_table, Shifted}
use Rattle.reedsolomon.specs.ParityLaws.{length_scaled, length_fed}
use Rattle.reedsolomon.specs.GeneratorLaws.{generating}

-- a 0 behind a list is what stands there anyway
getD_push_zero : (xs : List ℕ) (k : ℕ) → get_or (xs ++ 0 ∷ []) k 0 ≡ get_or xs k 0
getD_push_zero [] zero = refl
getD_push_zero [] (suc k) = refl
getD_push_zero (x ∷ xs) zero = refl
getD_push_zero (x ∷ xs) (suc k) = getD_push_zero xs k

getD_sum : (p q : List ℕ) (k : ℕ) → k < length p → k < length q → get_or (sum p q) k 0 ≡ bit_xor (get_or p k 0) (get_or q k 0)
getD_sum [] q k l h = absurd (omega arith)
getD_sum (a ∷ p) [] k l h = absurd (omega arith)
getD_sum (a ∷ p) (b ∷ q) zero l h = refl
getD_sum (a ∷ p) (b ∷ q) (suc k) l h = getD_sum p q k (omega arith) (omega arith)

-- a step of the division by places
fed_at : (g register : List ℕ) (byte k : ℕ) → length register ≡ length g → k < length g → get_or (fed g register byte) k 0 ≡ bit_xor (get_or register (suc k) 0) (product (bit_xor (get_or register 0 0) byte) (get_or g k 0))
fed_at g [] byte k e l = absurd (omega arith)
fed_at g (h ∷ t) byte k e l =
    let f = bit_xor h byte in
    getD_sum (t ++ 0 ∷ []) (scaled f g) k (omega (arith, length_push t 0)) (omega (arith, length_scaled f g))
    ∙ ap₂ bit_xor (getD_push_zero t k) (get_or-map (product f) g k 0 0 l)

-- behind the register's front stands 0, as behind the front taken alone
front_next : (count : ℕ) (register : List ℕ) (k : ℕ) → count < length register → get_or register count 0 ≡ 0 → k < count → get_or (take count register) (suc k) 0 ≡ get_or register (k + 1) 0
front_next count register k l next h = of (cases_lt (suc k) count)
  where
    one_more : suc k ≡ k + 1
    one_more = omega arith

    of : (suc k < count) ⊎ (count ≤ suc k) → get_or (take count register) (suc k) 0 ≡ get_or register (k + 1) 0
    of (inl s) = get_or-take count register (suc k) 0 s ∙ ap (λ j. get_or register j 0) one_more
    of (inr s) =
        let here : k + 1 ≡ count = omega arith in
        get_or_past (take count register) (suc k) 0 (omega (arith, length-take-le count register (omega arith)))
        ∙ sym (ap (λ j. get_or register j 0) here ∙ next)

pub shifted_is_fed : (g before after : List ℕ) (byte : ℕ) → 0 < length g → length g < length before → length after ≡ length before
    → get_or before (length g) 0 ≡ 0 → Shifted (bit_xor (get_or before 0 0) byte) g before after (length g)
    → take (length g) after ≡ fed g (take (length g) before) byte
shifted_is_fed g before after byte p l la next s =
    same_by_places (take (length g) after) (fed g (take (length g) before) byte) (long ∙ sym (length_fed g (take (length g) before) byte register_long)) at
  where
    long : length (take (length g) after) ≡ length g
    long = length-take-le (length g) after (omega arith)

    register_long : length (take (length g) before) ≡ length g
    register_long = length-take-le (length g) before (omega arith)

    at : (i : ℕ) → i < length (take (length g) after) → get_or (take (length g) after) i 0 ≡ get_or (fed g (take (length g) before) byte) i 0
    at i h =
        let small : i < length g = omega (arith, long) in
        let first : get_or (take (length g) before) 0 0 ≡ get_or before 0 0 = get_or-take (length g) before 0 0 p in
        get_or-take (length g) after i 0 small
        ∙ s.moved i small
        ∙ sym (fed_at g (take (length g) before) byte i register_long small
        ∙ ap₂ bit_xor (front_next (length g) before i l next small) (ap (λ z. product (bit_xor z byte) (get_or g i 0)) first))

-- what is left of the message makes the remainder of the whole
pub record Dividing (g : List ℕ) (message : List ℕ) (i : ℕ) (register : List ℕ) : Type 0 where
  pub next : get_or register (length g) 0 ≡ 0
  pub onward : fed_all g (take (length g) register) (drop i message) ≡ remainder g message

pub dividing_start : (g message : List ℕ) (cells : ℕ) → length g < cells → Dividing g message 0 (replicate cells 0)
dividing_start g message cells l =
    record {
      next = get_or-replicate cells (length g) 0 0 l;
      onward = ap (λ r. fed_all g r message) (take-replicate (length g) cells 0 (omega arith));
    }

pub dividing_more : (g : List ℕ) (i : ℕ) (message before after : List ℕ) → 0 < length g → i < length message → length g < length before → length after ≡ length before
    → Shifted (bit_xor (get_or before 0 0) (get_or message i 0)) g before after (length g) → Dividing g message i before → Dividing g message (i + 1) after
dividing_more g i message before after p l lb la s d =
    record {
      next = s.rest (length g) (omega arith) ∙ d.next;
      onward = ap (λ r. fed_all g r (drop (i + 1) message)) (shifted_is_fed g before after (get_or message i 0) p lb la d.next s)
          ∙ sym (at_drop_more (fed_all g (take (length g) before)) message i 0 l)
          ∙ d.onward;
    }

pub dividing_all : (g : List ℕ) (i : ℕ) (message register : List ℕ) → length message ≤ i → Dividing g message i register → take (length g) register ≡ remainder g message
dividing_all g i message register l d = sym (at_drop_all (fed_all g (take (length g) register)) message i l) ∙ d.onward

-- the table has the generator's coefficients below its highest, and a register has more cells
pub tabled_generator : (t : ℕ) (g : List ℕ) → known_strength t ≡ true → g ≡ take (2 * t) (generator_table t)
    → (g ≡ lower t) × (length g ≡ 2 * t) × (0 < length g) × (length g < 17)
tabled_generator t g known e =
    let is = generating t known in
    let low : g ≡ lower t = e ∙ is.tabled in
    let long : length g ≡ 2 * t = ap length low ∙ is.long in
    (low, long, omega (arith, is.small.0), omega (arith, is.small.1))
