-- The stage that complements bits is sound.
use Rattle.std.specs.Prelude.{◌≡◌, ℕ, zero, suc, ◌-◌, ◌<◌, ◌≤◌, Bool, true, false, cond, List, [], ◌∷◌, map, length, is_some, Some, None, nat_le, slice_index, refl}
use Rattle.std.proofs.Common.{sym, ap, ◌∙◌, arith}
use Rattle.std.proofs.lemmas.List.{length-map}
use Rattle.std.proofs.lemmas.Bool.{and_parts, and_from, leb-true, le-leb, cond-true}
use Rattle.stage.specs.Plain.{within}
use Rattle.stage.specs.Model.{plain, legal, longest_list}
use Rattle.stage.specs.Sound.{Sound}
use Rattle.stage.specs.Legality.{legal_within, legal_length}
use Rattle.stage.specs.Agreement.{AgreesUpTo}
use Rattle.stage.specs.Searches.{FirstAbove}
use Rattle.inverter.specs.Complement.{flip, any_length, complement}

-- a length that is legal leads to itself
pub any_length_is : (n k : ℕ) → any_length n ≡ Some k → (n ≤ longest_list) × (n ≡ k)
any_length_is n k h = of (nat_le n longest_list) refl h
  where
    of : (b : Bool) → nat_le n longest_list ≡ b → cond b (Some n) None ≡ Some k → (n ≤ longest_list) × (n ≡ k)
    of true e j = (leb-true n longest_list e, (cc))
    of false e j = let z : ◌≡◌ {A = ℕ} 0 1 = cc in absurd (omega arith)

pub any_length_legal : (n : ℕ) → n ≤ longest_list → any_length n ≡ Some n
any_length_legal n l = cond-true (nat_le n longest_list) (Some n) None (le-leb n longest_list l)

same_back : (n k : ℕ) → any_length n ≡ Some k → any_length k ≡ Some n
same_back n k h =
    let t = any_length_is n k h in
    let l : k ≤ longest_list = omega arith in any_length_legal k l ∙ ap Some (sym t.1)

legal_short : (xs : List ℕ) → legal (plain complement) xs ≡ true → any_length (length xs) ≡ Some (length xs)
legal_short xs l = of (nat_le (length xs) longest_list) (legal_length (plain complement) xs l)
  where
    of : (b : Bool) → is_some (cond b (Some (length xs)) None) ≡ true → cond b (Some (length xs)) None ≡ Some (length xs)
    of true h = refl
    of false h = let z : true ≡ false = sym h in let w : ◌≡◌ {A = ℕ} 0 1 = cc in absurd (omega arith)

-- what is put out are bits
pub flipped_bits : (xs : List ℕ) → within 1 (map flip xs) ≡ true
flipped_bits [] = refl
flipped_bits (x ∷ xs) = and_from (nat_le (1 - x) 1) (within 1 (map flip xs)) (le-leb (1 - x) 1 (omega arith)) (flipped_bits xs)

-- twice complemented, a bit is itself
pub flip_twice : (xs : List ℕ) → within 1 xs ≡ true → map flip (map flip xs) ≡ xs
flip_twice [] h = refl
flip_twice (x ∷ xs) h =
    let parts = and_parts (nat_le x 1) (within 1 xs) h in
    let small = leb-true x 1 parts.0 in
    let e : 1 - (1 - x) ≡ x = omega arith in
    let t = flip_twice xs parts.1 in cc

-- an element of the complement
pub flipped_at : (xs : List ℕ) (k : ℕ) → k < length xs → slice_index (map flip xs) k ≡ 1 - slice_index xs k
flipped_at [] k l = absurd (omega arith)
flipped_at (x ∷ xs) zero l = refl
flipped_at (x ∷ xs) (suc k) l = flipped_at xs k (omega arith)

-- where a received element is a bit, the complement of its complement is right
pub twice_at : (ys : List ℕ) (k : ℕ) → k < length ys → slice_index ys k ≤ 1 → slice_index (map flip (map flip ys)) k ≡ slice_index ys k
twice_at ys k l small =
    let long = length-map ys flip in
    omega (arith, flipped_at (map flip ys) k (omega arith), flipped_at ys k l)

best_guess : (xs ys : List ℕ) (k : ℕ) → length (map flip xs) ≡ length ys → k < length ys → slice_index (map flip xs) k ≡ slice_index ys k → slice_index (map flip (map flip ys)) k ≡ slice_index ys k
best_guess xs ys k long l e =
    twice_at ys k l (omega (arith, flipped_at xs k (omega (arith, length-map xs flip))))

pub complement_sound : Sound complement
complement_sound =
    record {
      takes_bytes = omega arith;
      puts_bytes = omega arith;
      short_lists = λ n k h. ((any_length_is n k h).0, omega (arith, (any_length_is n k h).0, (any_length_is n k h).1));
      lengths_there = same_back;
      lengths_back = λ n k h. same_back k n h;
      stated_length = λ xs l. legal_short xs l ∙ ap Some (sym (length-map xs flip));
      stated_alphabet = λ xs l. flipped_bits xs;
      guess_length = λ n ys h. length-map ys flip ∙ sym (any_length_is n (length ys) h).1;
      guess_within = λ n ys h. flipped_bits ys;
      guess_back = λ xs l. flip_twice xs (legal_within (plain complement) xs l);
      guess_best = λ xs ys k l long i same. best_guess xs ys k long i (same k (omega arith));
    }

-- no complement is above 1
twice_small : (ys : List ℕ) (k : ℕ) → k < length ys → slice_index (map flip (map flip ys)) k ≤ 1
twice_small ys k h = omega (arith, flipped_at (map flip ys) k (omega (arith, length-map ys flip)))

-- bits are the coding of their complement
pub bits_agree : (n : ℕ) (ys : List ℕ) → FirstAbove 1 ys None → AgreesUpTo complement n ys (length ys)
bits_agree n ys h = record { few = omega arith; same = λ k l. twice_at ys k l (h k l); stop = λ l. absurd (omega arith) }

-- the nearest coding differs first from a received list where an element is no bit
pub bits_agree_up_to : (n : ℕ) (ys : List ℕ) (place : ℕ) → FirstAbove 1 ys (Some place) → AgreesUpTo complement n ys place
bits_agree_up_to n ys place h =
    record {
      few = omega (arith, h.0);
      same = λ k l. twice_at ys k (omega (arith, h.0)) (h.1 k l);
      stop = λ l e. omega (arith, h.2, twice_small ys place l);
    }
