-- How far the coding of a received list's front agrees with the list.
use Rattle.std.proofs.Common.{◌≡◌, ℕ, ◌+◌, ◌-◌, ◌*◌, ◌<◌, ◌≤◌, ◌⊎◌, List, ◌++◌, map, length, get_or, take, drop, Some, None, sym, ap, ◌∙◌, subst, inl, inr, arith}
use Rattle.std.proofs.lemmas.List.{length-drop, length-take-le, get_or-take, get_or-drop, get_or_append_left, get_or-append_right}
use Rattle.std.proofs.lemmas.Bool.{cases_lt}
use Rattle.stage.specs.Lists.{within_from}
use Rattle.stage.specs.Agreement.{AgreesUpTo, Regains}
use Rattle.stage.specs.Searches.{FirstDifference}
use Rattle.reedsolomon.specs.Codes.{parity, with_parity}
use Rattle.reedsolomon.specs.Words.{message_length, nearest_byte, words}
use Rattle.reedsolomon.specs.WordLaws.{message_length_is, bytes_are_nearest}

-- a received list of bytes that has the length of a code word, and its two parts
pub record Received (t n : ℕ) (ys message check : List ℕ) : Type 0 where
  pub lengths : message_length t (length ys) ≡ Some n
  pub bytes : (i : ℕ) → get_or ys i 0 ≤ 255
  pub front : message ≡ take n ys
  pub back : check ≡ drop n ys

module _ (t n : ℕ) (ys message check : List ℕ) (c : Received t n ys message check) where
  check_long : (length check ≡ 2 * t) × (n + length check ≡ length ys)
  check_long =
      let w = message_length_is t n (length ys) c.lengths in
      let long = ap length c.back ∙ length-drop n ys in (omega (arith, w.0, w.2), omega (arith, w.0, w.2))

  front_long : length (take n ys) ≡ n
  front_long = length-take-le n ys (omega (arith, check_long.1))

  guessed : map nearest_byte (take n ys) ≡ take n ys
  guessed =
      bytes_are_nearest (take n ys) (within_from 255 (take n ys) (λ i h.
      omega (arith, get_or-take n ys i 0 (omega (arith, front_long)), c.bytes i)))

  coding_is : with_parity t (map nearest_byte (take n ys)) ≡ take n ys ++ parity t message
  coding_is = ap (with_parity t) guessed ∙ ap (λ m. take n ys ++ parity t m) (sym c.front)

  parity_at : (k : ℕ) → get_or (with_parity t (map nearest_byte (take n ys))) (n + k) 0 ≡ get_or (parity t message) k 0
  parity_at k =
      let e : n + k - n ≡ k = omega arith in
      ap (λ z. get_or z (n + k) 0) coding_is
      ∙ get_or-append_right (take n ys) (parity t message) n (n + k) 0 front_long (omega arith)
      ∙ ap (λ i. get_or (parity t message) i 0) e

  check_at : (k : ℕ) → get_or check k 0 ≡ get_or ys (n + k) 0
  check_at k = ap (λ z. get_or z k 0) c.back ∙ get_or-drop n ys k 0

  same_up_to : (place : ℕ) → ((k : ℕ) → k < place → get_or check k 0 ≡ get_or (parity t message) k 0)
      → (j : ℕ) → j < n + place → get_or (with_parity t (map nearest_byte (take n ys))) j 0 ≡ get_or ys j 0
  same_up_to place same j h = of (cases_lt j n)
    where
      of : (j < n) ⊎ (n ≤ j) → get_or (with_parity t (map nearest_byte (take n ys))) j 0 ≡ get_or ys j 0
      of (inl l) =
          ap (λ z. get_or z j 0) coding_is
          ∙ get_or_append_left (take n ys) (parity t message) 0 j (omega (arith, front_long))
          ∙ get_or-take n ys j 0 l
      of (inr l) =
          let e : n + (j - n) ≡ j = omega arith in
          subst (λ (i : ℕ). get_or (with_parity t (map nearest_byte (take n ys))) i 0 ≡ get_or ys i 0) e
          (parity_at (j - n) ∙ sym (same (j - n) (omega arith)) ∙ check_at (j - n))

  -- bytes with their parity behind them are the coding of those bytes
  pub right_parity : (list : List ℕ) → length list ≡ n → list ≡ message → FirstDifference check (parity t message) None → Regains (words t) ys None list
  right_parity list long e same =
      let agrees : AgreesUpTo (words t) n ys (length ys) =
      record {
        few = omega arith;
        same = λ j h. same_up_to (length check) same j (omega (arith, check_long.1));
        stop = λ h. absurd (omega arith);
      } in
      (subst (λ (m : ℕ). AgreesUpTo (words t) m ys (length ys)) (sym long) agrees, e ∙ c.front ∙ sym (ap (λ m. map nearest_byte (take m ys)) long ∙ guessed))

  -- a wrong byte of parity is where the list differs from the coding of its front
  pub wrong_parity : (list : List ℕ) (place : ℕ) → length list ≡ n → FirstDifference check (parity t message) (Some place)
      → Regains (words t) ys (Some (length message + place)) list
  wrong_parity list place long d =
      let agrees : AgreesUpTo (words t) n ys (n + place) =
      record {
        few = omega (arith, check_long.1, d.0);
        same = same_up_to place d.1;
        stop = λ h e. d.2 (check_at place ∙ sym e ∙ parity_at place);
      } in
      let at : n ≡ length message = sym (ap length c.front ∙ front_long) in
      subst (λ (m : ℕ). Regains (words t) ys (Some (m + place)) list) at
      (subst (λ (m : ℕ). AgreesUpTo (words t) m ys (n + place)) (sym long) agrees, omega (arith, check_long.1, d.0))
