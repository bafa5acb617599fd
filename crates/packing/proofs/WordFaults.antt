-- A word's fault is that of its check, or else that of the zeros behind it.
use Rattle.std.proofs.Common.{◌≡◌, ℕ, suc, ◌+◌, Bool, true, false, cond, eqb, List, [], ◌∷◌, ◌++◌, length, take, drop, Some, None, Option, sym, refl, ap, ◌∙◌, arith}
use Rattle.std.specs.Option.{option_map}
use Rattle.std.proofs.lemmas.List.{length-drop, length-take-le, take_all, take-append-drop}
use Rattle.stage.specs.Faults.{fault_at}
use Rattle.stage.specs.Model.{plain, coding, decoding}
use Rattle.stage.specs.Plain.{first_difference, judged, settled}
use Rattle.stage.specs.Differences.{difference_found, no_difference_from_itself}
use Rattle.stage.specs.Lists.{same_by_places}
use Rattle.stage.specs.Searches.{FirstDifference}
use Rattle.codings.specs.Checks.{checking}
use Rattle.codings.specs.CheckLaws.{length_legal}
use Rattle.packing.specs.Faults.{first_fault, parts_fault, zeros_fault}
use Rattle.packing.specs.Packings.{fault_in, header_word, padding}
use Rattle.packing.proofs.WordLaws.{guess_legal, guess_of_front, length_checked}

-- the first difference, or else one that lies behind n elements
abbrev or_behind : Option ℕ → ℕ → Option ℕ → Option ℕ
or_behind (Some k) n later = Some k
or_behind None n later = option_map (λ k. n + k) later

behind_none : (later : Option ℕ) → later ≡ option_map (λ k. 0 + k) later
behind_none None = refl
behind_none (Some k) = ap Some (omega arith)

behind_one_more : (n : ℕ) (later : Option ℕ) → option_map suc (option_map (λ k. n + k) later) ≡ option_map (λ k. suc n + k) later
behind_one_more n None = refl
behind_one_more n (Some k) = ap Some (omega arith)

one_more : (here : Option ℕ) (n : ℕ) (later : Option ℕ) → option_map suc (or_behind here n later) ≡ or_behind (option_map suc here) (suc n) later
one_more (Some k) n later = refl
one_more None n later = behind_one_more n later

-- lists that are joined of parts of one length differ first in the first part, or else behind it
difference_of_joined : (xs zs ys ws : List ℕ) → length xs ≡ length ys → first_difference (xs ++ zs) (ys ++ ws) ≡ or_behind (first_difference xs ys) (length xs) (first_difference zs ws)
difference_of_joined [] zs [] ws l = behind_none (first_difference zs ws)
difference_of_joined [] zs (y ∷ ys) ws l = absurd (omega arith)
difference_of_joined (x ∷ xs) zs [] ws l = absurd (omega arith)
difference_of_joined (x ∷ xs) zs (y ∷ ys) ws l = of (eqb x y) (difference_of_joined xs zs ys ws (omega arith))
  where
    of : (b : Bool) → first_difference (xs ++ zs) (ys ++ ws) ≡ or_behind (first_difference xs ys) (length xs) (first_difference zs ws)
        → cond b (option_map suc (first_difference (xs ++ zs) (ys ++ ws))) (Some 0) ≡ or_behind (cond b (option_map suc (first_difference xs ys)) (Some 0)) (suc (length xs)) (first_difference zs ws)
    of true h = ap (option_map suc) h ∙ one_more (first_difference xs ys) (length xs) (first_difference zs ws)
    of false h = refl

-- the fault of a difference is that of the part where it lies
fault_of_parts : (message : List ℕ) (here later : Option ℕ) → fault_in (settled 1 message (or_behind here 33 later)) ≡ first_fault (fault_in (settled 1 message here)) (option_map (λ k. fault_at 1 (33 + k)) later)
fault_of_parts message (Some k) later = refl
fault_of_parts message None None = refl
fault_of_parts message None (Some k) = refl

pub word_fault_by_parts : (ys : List ℕ) → length ys ≡ 40 → fault_in (decoding (plain header_word) ys) ≡ parts_fault ys
word_fault_by_parts ys e =
    ap (λ o. fault_in (judged header_word ys o)) (length_legal 40 28 (length ys) e)
    ∙ ap (λ zs. fault_in (settled 1 zs (first_difference (coding (plain header_word) zs) ys))) (guess_of_front 28 ys (omega arith))
    ∙ ap (λ zs. fault_in (settled 1 guess (first_difference (coded ++ padding) zs))) (sym (take-append-drop 33 ys))
    ∙ ap (λ o. fault_in (settled 1 guess o)) (difference_of_joined coded padding (take 33 ys) (drop 33 ys) (long ∙ sym front))
    ∙ ap (λ n. fault_in (settled 1 guess (or_behind (first_difference coded (take 33 ys)) n (first_difference padding (drop 33 ys))))) long
    ∙ fault_of_parts guess (first_difference coded (take 33 ys)) (first_difference padding (drop 33 ys))
    ∙ ap (λ o. first_fault (fault_in (judged checking (take 33 ys) o)) (zeros_fault (drop 33 ys))) (sym (length_legal 33 28 (length (take 33 ys)) front))
    ∙ ap (λ zs. first_fault (fault_in (decoding (plain checking) (take 33 ys))) (zeros_fault zs)) (sym (take_all 7 (drop 33 ys) (omega (arith, length-drop 33 ys))))
  where
    guess : List ℕ
    guess = checking.guess 28 (take 33 ys)

    coded : List ℕ
    coded = coding (plain checking) guess

    long : length coded ≡ 33
    long = length_checked guess (guess_legal ys (omega (arith, e)))

    front : length (take 33 ys) ≡ 33
    front = length-take-le 33 ys (omega (arith, e))

-- where two lists of one length first differ, as a search of their places says it
pub difference_is : (xs ys : List ℕ) (found : Option ℕ) → length xs ≡ length ys → FirstDifference xs ys found → found ≡ first_difference xs ys
difference_is xs ys None l same =
    sym (ap (first_difference xs) (sym (same_by_places xs ys l same)) ∙ no_difference_from_itself xs)
difference_is xs ys (Some k) l found = sym (difference_found xs ys k l (omega (arith, found.0)) found.1 found.2)
