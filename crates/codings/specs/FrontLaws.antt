-- Codings that put bits in front, and what is made of them behind: the guess, and how far it agrees.
use Rattle.std.specs.Prelude.{◌≡◌, ℕ, ◌+◌, ◌-◌, ◌<◌, ◌≤◌, true, ◌⊎◌, List, ◌++◌, map, length, take, drop, Some, None, Option, ◌==◌, slice_index}
use Rattle.std.proofs.Common.{sym, ap, subst, ◌∙◌, inl, inr, arith}
use Rattle.std.proofs.lemmas.List.{length-map, length-append, length-take-le, get_or-take, get_or-drop, get_or_append_left, get_or-append_right, get_or-map}
use Rattle.std.proofs.lemmas.Bool.{eqb-true, eq-eqb, cond-true, cases_lt}
use Rattle.std.specs.Option.{option_map}
use Rattle.stage.specs.Plain.{Plain, within}
use Rattle.stage.specs.Lists.{within_at, within_from, same_by_places}
use Rattle.stage.specs.Agreement.{Agrees, AgreesUpTo, Regains}
use Rattle.stage.specs.AgreementLaws.{some_under_test}
use Rattle.stage.specs.Searches.{FirstAbove, FirstDifference}
use Rattle.codings.specs.NearestBits.{nearest_bit}
use Rattle.codings.specs.Fronts.{only_length, with_tail, nearest_front}
use Rattle.codings.specs.NearestBitLaws.{bits_are_nearest}

-- the one legal length, there and back
pub length_is : (from to n k : ℕ) → only_length from to n ≡ Some k → (n ≡ from) × (to ≡ k)
length_is from to n k h = let u = some_under_test (n == from) to k h in (eqb-true n from u.0, u.1)

pub length_legal : (from to n : ℕ) → n ≡ from → only_length from to n ≡ Some to
length_legal from to n e = cond-true (n == from) (Some to) None (eq-eqb n from e)

pub length_back : (from to n k : ℕ) → only_length from to n ≡ Some k → only_length to from k ≡ Some n
length_back from to n k h =
    let t = length_is from to n k h in length_legal to from k (sym t.1) ∙ ap Some (sym t.0)

-- the guess's length, and its elements
pub front_long : (n : ℕ) (received : List ℕ) → n ≤ length received → length (nearest_front n received) ≡ n
front_long n received l = length-map (take n received) nearest_bit ∙ length-take-le n received l

pub front_at : (tail : List ℕ → List ℕ) (n : ℕ) (received : List ℕ) (k : ℕ) → n ≤ length received → k < n → slice_index (with_tail tail (nearest_front n received)) k ≡ nearest_bit (slice_index received k)
front_at tail n received k l h =
    let long = front_long n received l in
    let lt = length-take-le n received l in
    get_or_append_left (nearest_front n received) (tail (nearest_front n received)) 0 k (omega arith)
    ∙ get_or-map nearest_bit (take n received) k 0 0 (omega arith)
    ∙ ap nearest_bit (get_or-take n received k 0 h)

-- a received list whose first elements are a message's is guessed to be that message
front_right : (xs received : List ℕ) → within 1 xs ≡ true → length xs ≤ length received → ((j : ℕ) → j < length xs → slice_index xs j ≡ slice_index received j) → nearest_front (length xs) received ≡ xs
front_right xs received w l same =
    let lt : length (take (length xs) received) ≡ length xs = length-take-le (length xs) received l in
    let front : take (length xs) received ≡ xs = same_by_places (take (length xs) received) xs lt (λ i h. get_or-take (length xs) received i 0 (omega arith) ∙ sym (same i (omega arith))) in
    ap (map nearest_bit) front ∙ bits_are_nearest xs w

pub front_best : (tail : List ℕ → List ℕ) (xs received : List ℕ) (k : ℕ) → within 1 xs ≡ true → length (with_tail tail xs) ≡ length received → k < length received
    → ((j : ℕ) → j < k + 1 → slice_index (with_tail tail xs) j ≡ slice_index received j)
    → slice_index (with_tail tail (nearest_front (length xs) received)) k ≡ slice_index received k
front_best tail xs received k w long l same = of (cases_lt k (length xs))
  where
    short : length xs ≤ length received
    short = omega (arith, length-append xs (tail xs))

    front : (j : ℕ) → j < length xs → j < k + 1 → slice_index xs j ≡ slice_index received j
    front j h i = sym (get_or_append_left xs (tail xs) 0 j h) ∙ same j i

    of : (k < length xs) ⊎ (length xs ≤ k) → slice_index (with_tail tail (nearest_front (length xs) received)) k ≡ slice_index received k
    of (inl h) = omega (arith, front_at tail (length xs) received k short h, front k h (omega arith), within_at 1 xs k w)
    of (inr h) = ap (λ zs. slice_index (with_tail tail zs) k) (front_right xs received w short (λ j i. front j i (omega arith))) ∙ same k (omega arith)

-- bits in front are the message
front_bits : (n : ℕ) (received : List ℕ) → FirstAbove 1 (take n received) None → nearest_front n received ≡ take n received
front_bits n received small = bits_are_nearest (take n received) (within_from 1 (take n received) small)

module _ (tail : List ℕ → List ℕ) (n : ℕ) (received : List ℕ) (l : n ≤ length received) (small : FirstAbove 1 (take n received) None) where
  coded_is : with_tail tail (nearest_front n received) ≡ take n received ++ tail (take n received)
  coded_is = ap (with_tail tail) (front_bits n received small)

  behind_at : (k : ℕ) → slice_index (with_tail tail (nearest_front n received)) (n + k) ≡ slice_index (tail (take n received)) k
  behind_at k =
      let at : (n + k) - n ≡ k = omega arith in
      ap (λ zs. slice_index zs (n + k)) coded_is
      ∙ get_or-append_right (take n received) (tail (take n received)) n (n + k) 0 (length-take-le n received l) (omega arith)
      ∙ ap (λ j. slice_index (tail (take n received)) j) at

  -- where what stands behind is what is made of the front, the received list is the coding of the front
  pub agrees_behind : (many : ℕ) → many ≤ length received - n → ((k : ℕ) → k < many → slice_index (tail (take n received)) k ≡ slice_index (drop n received) k)
      → (j : ℕ) → j < n + many → slice_index (with_tail tail (nearest_front n received)) j ≡ slice_index received j
  agrees_behind many few same j h = of (cases_lt j n)
    where
      of : (j < n) ⊎ (n ≤ j) → slice_index (with_tail tail (nearest_front n received)) j ≡ slice_index received j
      of (inl i) =
          omega (arith, front_at tail n received j l i, small j (omega (arith, length-take-le n received l)), get_or-take n received j 0 i)
      of (inr i) =
          let at : n + (j - n) ≡ j = omega arith in
          ap (λ m. slice_index (with_tail tail (nearest_front n received)) m) (sym at)
          ∙ behind_at (j - n)
          ∙ same (j - n) (omega arith)
          ∙ get_or-drop n received (j - n) 0
          ∙ ap (λ m. slice_index received m) at

  pub agrees_wholly : length (tail (take n received)) ≡ length received - n → FirstDifference (tail (take n received)) (drop n received) None → Agrees (with_tail tail (nearest_front n received)) received (length received)
  agrees_wholly long same =
      record {
        few = omega arith;
        same = λ j h. agrees_behind (length received - n) (omega arith) (λ k i. same k (omega arith)) j (omega arith);
        stop = λ h _. absurd (omega arith);
      }

  pub ends_behind : (place : ℕ) → length (tail (take n received)) ≡ length received - n → FirstDifference (tail (take n received)) (drop n received) (Some place)
      → Agrees (with_tail tail (nearest_front n received)) received (n + place) × (n + place < length received)
  ends_behind place long f = (
    record {
      few = omega (arith, f.0);
      same = λ j h. agrees_behind place (omega (arith, f.0)) f.1 j h;
      stop = λ _ e. f.2 (sym (behind_at place) ∙ e ∙ sym (get_or-drop n received place 0));
    },
    omega (arith, f.0),
  )

-- a stage that codes so and guesses so regains a message where it finds its bits and their tail
module _ (p : Plain) (tail : List ℕ → List ℕ) (coding_is : (xs : List ℕ) → p.coding xs ≡ with_tail tail xs) (guess_is : (m : ℕ) (ys : List ℕ) → p.guess m ys ≡ nearest_front m ys) where
  nearest_coding : (n place : ℕ) (received list : List ℕ) → length list ≡ n → Agrees (with_tail tail (nearest_front n received)) received place → AgreesUpTo p (length list) received place
  nearest_coding n place received list e a =
      let same : with_tail tail (nearest_front n received) ≡ p.coding (p.guess (length list) received) =
      ap (λ m. with_tail tail (nearest_front m received)) (sym e) ∙ sym (ap p.coding (guess_is (length list) received) ∙ coding_is (nearest_front (length list) received)) in
      subst (λ (zs : List ℕ). Agrees zs received place) same a

  front_found : (n : ℕ) (received list : List ℕ) (r : Option ℕ) → length list ≡ n → n ≤ length received → list ≡ take n received → FirstAbove 1 (take n received) None
      → length (tail (take n received)) ≡ length received - n → FirstDifference (tail (take n received)) (drop n received) r
      → Regains p received (option_map (λ place. n + place) r) list
  front_found n received list None e l front small long same = (
    nearest_coding n (length received) received list e (agrees_wholly tail n received l small long same),
    front ∙ sym (front_bits n received small) ∙ ap (λ m. nearest_front m received) (sym e) ∙ sym (guess_is (length list) received),
  )
  front_found n received list (Some place) e l front small long f =
      let a = ends_behind tail n received l small place long f in (nearest_coding n (n + place) received list e a.0, a.1)

  -- the message in front, what is made of it, and what is received behind it
  pub front_regained : (n : ℕ) (received list message behind made : List ℕ) (r found : Option ℕ) → length list ≡ n → n ≤ length received
      → message ≡ take n received → behind ≡ drop n received → made ≡ tail message → list ≡ message
      → FirstAbove 1 message None → FirstDifference made behind r → length made ≡ length received - n → found ≡ option_map (λ place. n + place) r
      → Regains p received found list
  front_regained n received list message behind made r found e l front rest of copied small f long at =
      let from : made ≡ tail (take n received) = of ∙ ap tail front in
      let bits : FirstAbove 1 (take n received) None = subst (λ (zs : List ℕ). FirstAbove 1 zs None) front small in
      let differ : FirstDifference (tail (take n received)) behind r = subst (λ (zs : List ℕ). FirstDifference zs behind r) from f in
      let there : FirstDifference (tail (take n received)) (drop n received) r = subst (λ (zs : List ℕ). FirstDifference (tail (take n received)) zs r) rest differ in
      subst (λ (o : Option ℕ). Regains p received o list) (sym at) (front_found n received list r e l (copied ∙ front) bits (sym (ap length from) ∙ long) there)
