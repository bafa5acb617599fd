-- Alphabets, fronts of buffers, and answers that may be missing.
use Rattle.std.specs.Prelude.{◌≡◌, ℕ, zero, suc, ◌+◌, ◌<◌, ◌≤◌, true, false, ◌&&◌, List, [], ◌∷◌, length, drop, Bool, not, is_some, Some, None, Option, nat_le, slice_index, refl}
use Rattle.std.proofs.Common.{sym, ap, ◌∙◌, arith}
use Rattle.std.proofs.lemmas.List.{at_drop_more, at_drop_all, ext_get_or}
use Rattle.std.proofs.lemmas.Bool.{and_parts, and_from, leb-true, le-leb, lt-leb}
use Rattle.stage.specs.Plain.{within}
use Rattle.stage.specs.Searches.{FirstAbove}

-- an answer that is there has a value
pub value_of_some : (o : Option ℕ) → is_some o ≡ true → (k : ℕ) × (o ≡ Some k)
value_of_some (Some k) h = (k, refl)
value_of_some None h = let z : true ≡ false = sym h in let w : ◌≡◌ {A = ℕ} 0 1 = cc in absurd (omega arith)

pub some_is_there : (o : Option ℕ) (k : ℕ) → o ≡ Some k → is_some o ≡ true
some_is_there o k h = ap is_some h

-- a list within an alphabet is within a larger one
pub within_larger : (low high : ℕ) (xs : List ℕ) → low ≤ high → within low xs ≡ true → within high xs ≡ true
within_larger low high [] l h = refl
within_larger low high (x ∷ xs) l h =
    let parts = and_parts (nat_le x low) (within low xs) h in
    let small = leb-true x low parts.0 in
    let fits : x ≤ high = omega arith in
    and_from (nat_le x high) (within high xs) (le-leb x high fits) (within_larger low high xs l parts.1)

-- every element of a list within an alphabet is at most its highest; past the end stands 0
pub within_at : (high : ℕ) (xs : List ℕ) (i : ℕ) → within high xs ≡ true → slice_index xs i ≤ high
within_at high [] i h = omega arith
within_at high (x ∷ xs) zero h = leb-true x high (and_parts (nat_le x high) (within high xs) h).0
within_at high (x ∷ xs) (suc i) h = within_at high xs i (and_parts (nat_le x high) (within high xs) h).1

-- and a list whose elements all are, is within the alphabet
pub within_from : (high : ℕ) (xs : List ℕ) → ((i : ℕ) → i < length xs → slice_index xs i ≤ high) → within high xs ≡ true
within_from high [] h = refl
within_from high (x ∷ xs) h =
    and_from
    (nat_le x high)
    (within high xs)
    (le-leb x high (h 0 (omega arith)))
    (within_from high xs (λ i l. h (suc i) (omega arith)))

-- one element more of a list that is tested from the front
pub within_step : (high : ℕ) (xs : List ℕ) (i : ℕ) → i < length xs → within high (drop i xs) ≡ (nat_le (slice_index xs i) high && within high (drop (i + 1) xs))
within_step high xs i l = at_drop_more (within high) xs i 0 l

pub within_passes : (high : ℕ) (xs : List ℕ) (i : ℕ) → i < length xs → slice_index xs i ≤ high → within high (drop i xs) ≡ within high xs → within high (drop (i + 1) xs) ≡ within high xs
within_passes high xs i l small inv =
    sym (within_step high xs i l ∙ ap (λ b. b && within high (drop (i + 1) xs)) (le-leb (slice_index xs i) high small)) ∙ inv

pub within_fails : (high : ℕ) (xs : List ℕ) (i : ℕ) → i < length xs → high < slice_index xs i → within high (drop i xs) ≡ within high xs → false ≡ within high xs
within_fails high xs i l large inv =
    sym (within_step high xs i l ∙ ap (λ b. b && within high (drop (i + 1) xs)) (lt-leb (slice_index xs i) high large)) ∙ inv

pub within_ends : (high : ℕ) (xs : List ℕ) (i : ℕ) → length xs ≤ i → within high (drop i xs) ≡ within high xs → true ≡ within high xs
within_ends high xs i l inv = sym (at_drop_all (within high) xs i l) ∙ inv

-- two lists of one length are equal if they agree at each place
pub same_by_places : (xs ys : List ℕ) → length xs ≡ length ys → ((i : ℕ) → i < length xs → slice_index xs i ≡ slice_index ys i) → xs ≡ ys
same_by_places xs ys l h = ext_get_or 0 xs ys l h

-- a list is within an alphabet exactly if no element is above its highest
pub none_above : (high : ℕ) (xs : List ℕ) (place : Option ℕ) (none : Bool) → FirstAbove high xs place → is_some place ≡ not none → none ≡ within high xs
none_above high xs None true h e = sym (within_from high xs h)
none_above high xs None false h e = let z : ◌≡◌ {A = ℕ} 0 1 = cc in absurd (omega arith)
none_above high xs (Some k) true h e = let z : ◌≡◌ {A = ℕ} 0 1 = cc in absurd (omega arith)
none_above high xs (Some k) false h e = of (within high xs) refl
  where
    of : (b : Bool) → within high xs ≡ b → false ≡ b
    of false s = refl
    of true s = absurd (omega (arith, h.0, h.2, within_at high xs k s))
