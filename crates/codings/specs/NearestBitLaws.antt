-- Lists of bits, and the bits nearest to received elements.
use Rattle.std.specs.Prelude.{◌≡◌, ℕ, min, true, List, [], ◌∷◌, ◌++◌, map, nat_le, refl}
use Rattle.std.proofs.Common.{arith}
use Rattle.std.proofs.lemmas.Bool.{and_parts, and_from, leb-true, le-leb}
use Rattle.stage.specs.Plain.{within}
use Rattle.codings.specs.NearestBits.{nearest_bit}

pub nearest_are_bits : (ys : List ℕ) → within 1 (map nearest_bit ys) ≡ true
nearest_are_bits [] = refl
nearest_are_bits (y ∷ ys) = and_from (nat_le (min y 1) 1) (within 1 (map nearest_bit ys)) (le-leb (min y 1) 1 (omega arith)) (nearest_are_bits ys)

pub bits_are_nearest : (xs : List ℕ) → within 1 xs ≡ true → map nearest_bit xs ≡ xs
bits_are_nearest [] h = refl
bits_are_nearest (x ∷ xs) h =
    let parts = and_parts (nat_le x 1) (within 1 xs) h in
    let small = leb-true x 1 parts.0 in
    let e : min x 1 ≡ x = omega arith in
    let t = bits_are_nearest xs parts.1 in cc

pub within_append : (high : ℕ) (xs ys : List ℕ) → within high xs ≡ true → within high ys ≡ true → within high (xs ++ ys) ≡ true
within_append high [] ys h w = w
within_append high (x ∷ xs) ys h w =
    let parts = and_parts (nat_le x high) (within high xs) h in
    and_from (nat_le x high) (within high (xs ++ ys)) parts.0 (within_append high xs ys parts.1 w)
