-- A plain stage keeps the promise if what its author wrote down is sound.
use Rattle.std.proofs.Common.{◌≡◌, ℕ, ◌+◌, ◌<◌, true, List, [], ◌∷◌, length, get_or, take, Some, None, Ok, Err, Option, sym, refl, ap, ◌∙◌, subst, inl, inr, arith}
use Rattle.std.proofs.lemmas.List.{get_or-take}
use Rattle.stage.specs.declared.faults.ChainFault.{ChainFault}
use Rattle.stage.specs.Faults.{fault_at}
use Rattle.stage.specs.Plain.{Plain, first_difference, settled, judged}
use Rattle.stage.specs.Model.{plain, legal, decoding}
use Rattle.stage.specs.Promise.{Promise, Codes, SharesFront, NoSuchLength, Place, Refuses, Stops}
use Rattle.stage.specs.Sound.{Sound}
use Rattle.stage.specs.Lists.{some_is_there}
use Rattle.stage.specs.Legality.{legal_from_parts}
use Rattle.stage.specs.Differences.{no_difference_from_itself, no_difference_means_same, difference_tells, difference_found}

-- a received list that has the length of some coding is judged by the guess
judged_by_guess : (p : Plain) (ys : List ℕ) (n : ℕ) → p.message_length (length ys) ≡ Some n → decoding (plain p) ys ≡ settled p.number (p.guess n ys) (first_difference (p.coding (p.guess n ys)) ys)
judged_by_guess p ys n e = ap (judged p ys) e

guess_legal : (p : Plain) → Sound p → (ys : List ℕ) (n : ℕ) → p.coded_length n ≡ Some (length ys) → legal (plain p) (p.guess n ys) ≡ true
guess_legal p s ys n e =
    legal_from_parts (plain p) (p.guess n ys) refl (s.guess_within n ys e) (some_is_there _ (length ys) (ap p.coded_length (s.guess_length n ys e) ∙ e))

same_some : (m n : ℕ) → ◌≡◌ {A = Option ℕ} (Some m) (Some n) → m ≡ n
same_some m n e = cc

-- the guess's coding has the length of the received list
guess_coding_length : (p : Plain) → Sound p → (ys : List ℕ) (n : ℕ) → p.coded_length n ≡ Some (length ys) → length (p.coding (p.guess n ys)) ≡ length ys
guess_coding_length p s ys n e =
    same_some _ _ (sym (s.stated_length (p.guess n ys) (guess_legal p s ys n e)) ∙ ap p.coded_length (s.guess_length n ys e) ∙ e)

plain_taken_back : (p : Plain) → Sound p → (xs : List ℕ) → legal (plain p) xs ≡ true → decoding (plain p) (p.coding xs) ≡ Ok xs
plain_taken_back p s xs l =
    judged_by_guess p (p.coding xs) (length xs) (s.lengths_there (length xs) (length (p.coding xs)) (s.stated_length xs l))
    ∙ ap (λ zs. settled p.number zs (first_difference (p.coding zs) (p.coding xs))) (s.guess_back xs l)
    ∙ ap (settled p.number xs) (no_difference_from_itself (p.coding xs))

-- an accepted guess is the answer, and its coding does not differ from the received list
settled_ok : (number : ℕ) (message xs : List ℕ) (d : Option ℕ) → settled number message d ≡ Ok xs → (message ≡ xs) × (d ≡ None)
settled_ok number message xs None h = ((cc), refl)
settled_ok number message xs (Some k) h = let z : ◌≡◌ {A = ℕ} 0 1 = cc in absurd (omega arith)

settled_err : (number : ℕ) (message : List ℕ) (d : Option ℕ) (f : ChainFault) → settled number message d ≡ Err f → (k : ℕ) × ((d ≡ Some k) × (f ≡ fault_at number k))
settled_err number message None f h = let z : ◌≡◌ {A = ℕ} 0 1 = cc in absurd (omega arith)
settled_err number message (Some k) f h = (k, (refl, (cc)))

plain_nothing_else : (p : Plain) → Sound p → (ys xs : List ℕ) → decoding (plain p) ys ≡ Ok xs → Codes (plain p) xs ys
plain_nothing_else p s ys xs h = of (p.message_length (length ys)) refl h
  where
    of : (o : Option ℕ) → p.message_length (length ys) ≡ o → judged p ys o ≡ Ok xs → Codes (plain p) xs ys
    of None e j = let z : ◌≡◌ {A = ℕ} 0 1 = cc in absurd (omega arith)
    of (Some n) e j =
        let t = settled_ok p.number (p.guess n ys) xs (first_difference (p.coding (p.guess n ys)) ys) j in
        let l = guess_legal p s ys n (s.lengths_back n (length ys) e) in
        record {
          is_legal = subst (λ (zs : List ℕ). legal (plain p) zs ≡ true) t.0 l;
          is_coding = ap p.coding (sym t.0) ∙ no_difference_means_same (p.coding (p.guess n ys)) ys t.1;
        }

-- fronts that are equal have equal elements
front_elements : (xs ys : List ℕ) (k : ℕ) → take k xs ≡ take k ys → (j : ℕ) → j < k → get_or xs j 0 ≡ get_or ys j 0
front_elements xs ys k e j l = sym (get_or-take k xs j 0 l) ∙ ap (λ (zs : List ℕ). get_or zs j 0) e ∙ get_or-take k ys j 0 l

-- where the guess's coding first differs is the length of the longest shared front part
guess_shares_front : (p : Plain) → Sound p → (ys : List ℕ) (n k : ℕ) → p.message_length (length ys) ≡ Some n → first_difference (p.coding (p.guess n ys)) ys ≡ Some k → SharesFront p ys k
guess_shares_front p s ys n k e h =
    let there = s.lengths_back n (length ys) e in
    let d = difference_tells (p.coding (p.guess n ys)) ys k (guess_coding_length p s ys n there) h in
    record {
      nearest = p.guess n ys;
      is_legal = guess_legal p s ys n there;
      same_length = guess_coding_length p s ys n there;
      shared = d.shared;
      inside = d.inside;
      longest = λ xs l long same.
          let back = s.lengths_there (length xs) (length (p.coding xs)) (s.stated_length xs l) in
          let count : length xs ≡ n = same_some (length xs) n (sym back ∙ ap p.message_length long ∙ e) in
          let best = s.guess_best xs ys k l long d.inside (front_elements (p.coding xs) ys (k + 1) same) in
          d.here (ap (λ m. get_or (p.coding (p.guess m ys)) k 0) (sym count) ∙ best);
    }

no_such_length : (p : Plain) → Sound p → (ys : List ℕ) → p.message_length (length ys) ≡ None → NoSuchLength p ys
no_such_length p s ys e xs l long =
    let back = s.lengths_there (length xs) (length (p.coding xs)) (s.stated_length xs l) in
    let known : p.message_length (length ys) ≡ Some (length xs) = ap p.message_length (sym long) ∙ back in
    let z : ◌≡◌ {A = ℕ} 0 1 = cc in omega arith

-- a fault of a plain stage has its own number, depth 0 and the right place
plain_place : (p : Plain) → Sound p → (ys : List ℕ) (f : ChainFault) → decoding (plain p) ys ≡ Err f → (k : ℕ) × ((f ≡ fault_at p.number k) × Place p ys k)
plain_place p s ys f h = of (p.message_length (length ys)) refl h
  where
    of : (o : Option ℕ) → p.message_length (length ys) ≡ o → judged p ys o ≡ Err f → (k : ℕ) × ((f ≡ fault_at p.number k) × Place p ys k)
    of None e j = (0, ((cc), inr (no_such_length p s ys e, refl)))
    of (Some n) e j =
        let t = settled_err p.number (p.guess n ys) (first_difference (p.coding (p.guess n ys)) ys) f j in
        (t.0, (t.1.1, inl (guess_shares_front p s ys n t.0 e t.1.0)))

plain_stops : (p : Plain) → Sound p → (ys : List ℕ) (f : ChainFault) → decoding (plain p) ys ≡ Err f → Stops (p ∷ []) ys f.fault f.depth
plain_stops p s ys f h =
    let t = plain_place p s ys f h in
    let refuses : Refuses p ys (fault_at p.number t.0).fault = record { no_coding = none; own_number = refl; right_place = t.1.1 } in
    subst (λ (x : ChainFault). Stops (p ∷ []) ys x.fault x.depth) (sym t.1.0) refuses
  where
    none : (xs : List ℕ) → Codes (plain p) xs ys → ⊥
    none xs c =
        let back : decoding (plain p) ys ≡ Ok xs = ap (decoding (plain p)) (sym c.is_coding) ∙ plain_taken_back p s xs c.is_legal in
        let z : ◌≡◌ {A = ℕ} 0 1 = cc in omega arith

pub plain_keeps : (p : Plain) → Sound p → Promise (plain p)
plain_keeps p s =
    record {
      takes_bytes = s.takes_bytes;
      puts_bytes = s.puts_bytes;
      short_lists = s.short_lists;
      lengths_there = s.lengths_there;
      lengths_back = s.lengths_back;
      stated_length = s.stated_length;
      stated_alphabet = s.stated_alphabet;
      taken_back = λ xs l. plain_taken_back p s xs l;
      nothing_else = λ ys xs h. plain_nothing_else p s ys xs h;
      passes = λ ys xs h. (xs, (plain_nothing_else p s ys xs h, refl));
      stops = λ ys f h. plain_stops p s ys f h;
    }

-- for an in-place decoder: the coding of the list that it leaves is the received list
pub plain_accepts : (p : Plain) → Sound p → (ys xs : List ℕ) → legal (plain p) xs ≡ true → p.coding xs ≡ ys → decoding (plain p) ys ≡ Ok xs
plain_accepts p s ys xs l e = ap (decoding (plain p)) (sym e) ∙ plain_taken_back p s xs l

-- for an in-place decoder: the guess's coding agrees with the received list before k, not at k
pub plain_refuses : (p : Plain) → Sound p → (ys : List ℕ) (n k : ℕ) → p.message_length (length ys) ≡ Some n → k < length ys → ((j : ℕ) → j < k → get_or (p.coding (p.guess n ys)) j 0 ≡ get_or ys j 0) → (get_or (p.coding (p.guess n ys)) k 0 ≡ get_or ys k 0 → ⊥) → decoding (plain p) ys ≡ Err (fault_at p.number k)
plain_refuses p s ys n k e i before here =
    let long = guess_coding_length p s ys n (s.lengths_back n (length ys) e) in
    judged_by_guess p ys n e ∙ ap (settled p.number (p.guess n ys)) (difference_found (p.coding (p.guess n ys)) ys k long i before here)

-- for an in-place decoder: no coding has the length
pub plain_refuses_length : (p : Plain) (ys : List ℕ) → p.message_length (length ys) ≡ None → decoding (plain p) ys ≡ Err (fault_at p.number 0)
plain_refuses_length p ys e = ap (judged p ys) e
