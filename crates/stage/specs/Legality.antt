-- Legal lists: of a stage, and of a pile by those of its members.
use Rattle.std.specs.Prelude.{◌≡◌, ℕ, ◌+◌, ◌≤◌, true, ◌&&◌, List, length, is_some, Some, None, Option, nat_le, refl}
use Rattle.std.proofs.Common.{sym, ap, ◌∙◌}
use Rattle.std.proofs.lemmas.Bool.{and_parts, and_from, leb-true}
use Rattle.stage.specs.Lengths.{through}
use Rattle.stage.specs.Plain.{within}
use Rattle.stage.specs.Model.{Model, pile, takes, puts, members, fits, most_members, coded_length, coding, legal}
use Rattle.stage.specs.Promise.{Promise}
use Rattle.stage.specs.Lists.{within_larger}

-- what the test of two members that fit tells
pub record Fitting (a : Model) (b : Model) : Type 0 where
  pub first : fits a ≡ true
  pub second : fits b ≡ true
  pub alphabets : puts a ≤ takes b
  pub few : members a + members b ≤ most_members

pub fitting : (a b : Model) → fits (pile a b) ≡ true → Fitting a b
fitting a b h =
    let both = and_parts (fits a && fits b) (nat_le (puts a) (takes b) && nat_le (members a + members b) most_members) h in
    let each = and_parts (fits a) (fits b) both.0 in
    let joint = and_parts (nat_le (puts a) (takes b)) (nat_le (members a + members b) most_members) both.1 in
    record {
      first = each.0;
      second = each.1;
      alphabets = leb-true (puts a) (takes b) joint.0;
      few = leb-true (members a + members b) most_members joint.1;
    }

pub legal_fits : (m : Model) (xs : List ℕ) → legal m xs ≡ true → fits m ≡ true
legal_fits m xs h = (and_parts (fits m) (within (takes m) xs && is_some (coded_length m (length xs))) h).0

pub legal_within : (m : Model) (xs : List ℕ) → legal m xs ≡ true → within (takes m) xs ≡ true
legal_within m xs h =
    (and_parts (within (takes m) xs) (is_some (coded_length m (length xs))) (and_parts (fits m) (within (takes m) xs && is_some (coded_length m (length xs))) h).1).0

pub legal_length : (m : Model) (xs : List ℕ) → legal m xs ≡ true → is_some (coded_length m (length xs)) ≡ true
legal_length m xs h =
    (and_parts (within (takes m) xs) (is_some (coded_length m (length xs))) (and_parts (fits m) (within (takes m) xs && is_some (coded_length m (length xs))) h).1).1

pub legal_from_parts : (m : Model) (xs : List ℕ) → fits m ≡ true → within (takes m) xs ≡ true → is_some (coded_length m (length xs)) ≡ true → legal m xs ≡ true
legal_from_parts m xs f w l =
    and_from (fits m) (within (takes m) xs && is_some (coded_length m (length xs))) f (and_from (within (takes m) xs) (is_some (coded_length m (length xs))) w l)

-- a length behind two stages is one behind the first
pub through_there : (o : Option ℕ) (next : ℕ → Option ℕ) → is_some (through o next) ≡ true → is_some o ≡ true
through_there (Some k) next h = refl
through_there None next h = h

-- a list that is legal for a pile is legal for its first member
pub legal_first : (a b : Model) (xs : List ℕ) → Fitting a b → legal (pile a b) xs ≡ true → legal a xs ≡ true
legal_first a b xs f h =
    legal_from_parts a xs f.first (legal_within (pile a b) xs h) (through_there (coded_length a (length xs)) (coded_length b) (legal_length (pile a b) xs h))

-- behind the first member, the pile's lengths are the second's
pub length_behind_first : (a b : Model) (xs : List ℕ) → Promise a → legal a xs ≡ true → coded_length (pile a b) (length xs) ≡ coded_length b (length (coding a xs))
length_behind_first a b xs pa la = ap (λ o. through o (coded_length b)) (pa.stated_length xs la)

-- and the first's coding of it is legal for the second
pub legal_second : (a b : Model) (xs : List ℕ) → Fitting a b → Promise a → legal (pile a b) xs ≡ true → legal b (coding a xs) ≡ true
legal_second a b xs f pa h =
    let la = legal_first a b xs f h in
    legal_from_parts
    b
    (coding a xs)
    f.second
    (within_larger (puts a) (takes b) (coding a xs) f.alphabets (pa.stated_alphabet xs la))
    (ap is_some (sym (length_behind_first a b xs pa la)) ∙ legal_length (pile a b) xs h)

-- a list that the first takes, and whose coding the second takes, is legal for the pile
pub legal_pile : (a b : Model) (xs : List ℕ) → fits (pile a b) ≡ true → Promise a → legal a xs ≡ true → legal b (coding a xs) ≡ true → legal (pile a b) xs ≡ true
legal_pile a b xs f pa la lb =
    legal_from_parts (pile a b) xs f (legal_within a xs la) (ap is_some (length_behind_first a b xs pa la) ∙ legal_length b (coding a xs) lb)
