-- A stage on lists of one length: what it takes, puts out and needs, and how two of them pile up.
use Rattle.std.proofs.Common.{◌≡◌, ℕ, ◌+◌, ◌≤◌, Bool, true, false, cond, ◌&&◌, eqb, leb, Some, None, Option, sym, refl, ap, ◌∙◌, arith}
use Rattle.chains.specs.Carries.{Carries}
use Rattle.stage.specs.PilePromise.{pile_keeps}
use Rattle.stage.specs.Lengths.{longest_with, through}
use Rattle.stage.specs.Model.{Model, plain, pile, fits, takes, puts, members, most_members, coded_length, message_length, code_room, decode_room}
use Rattle.stage.specs.Plain.{Plain}
use Rattle.stage.specs.Promise.{Promise}
use Rattle.std.proofs.lemmas.Bool.{and_from, eqb-true, le-leb}

-- a stage of `count` plain ones that takes n elements up to `highest`, puts out k up to `out`, and
-- needs no more than `room` for it
pub record Step (m : Model) (highest out n k room count : ℕ) : Type 0 where
  pub fit : fits m ≡ true
  pub keeps : Promise m
  pub takes_to : takes m ≡ highest
  pub puts_to : puts m ≡ out
  pub counts : members m ≡ count
  pub there : coded_length m n ≡ Some k
  pub coding_room : code_room m n ≤ room
  pub decoding_room : decode_room m k ≤ room

-- a longest list that is reached is no longer than what bounds all before it and all behind
longest_within : (r : ℕ) (o : Option ℕ) (k room : ℕ) (onward : ℕ → ℕ) → o ≡ Some k → r ≤ room → onward k ≤ room → longest_with r o onward ≤ room
longest_within r o k room onward e before behind = rw e (omega arith)

pub step_plain : (p : Plain) (n k room : ℕ) → Promise (plain p) → p.coded_length n ≡ Some k → n ≤ room → k ≤ room → Step (plain p) p.takes p.puts n k room 1
step_plain p n k room keeps there given reached =
    record {
      fit = refl;
      keeps = keeps;
      takes_to = refl;
      puts_to = refl;
      counts = refl;
      there = there;
      coding_room = longest_within n (p.coded_length n) k room (λ j. j) there given reached;
      decoding_room = longest_within k (p.message_length k) n room (λ j. j) (keeps.lengths_there n k there) reached given;
    }

fits_piled : (a b : Model) → fits a ≡ true → fits b ≡ true → puts a ≤ takes b → members a + members b ≤ most_members → fits (pile a b) ≡ true
fits_piled a b fa fb into few =
    and_from (fits a && fits b) (leb (puts a) (takes b) && leb (members a + members b) most_members) (and_from (fits a) (fits b) fa fb) (and_from (leb (puts a) (takes b)) (leb (members a + members b) most_members) (le-leb (puts a) (takes b) into) (le-leb (members a + members b) most_members few))

-- two stages of which the second takes what the first puts out
pub step_pile : (a b : Model) (highest mid into out n j k room first second : ℕ) → Step a highest mid n j room first → Step b into out j k room second → mid ≤ into → first + second ≤ most_members → Step (pile a b) highest out n k room (first + second)
step_pile a b highest mid into out n j k room first second sa sb low few =
    let fit = fits_piled a b sa.fit sb.fit (omega (arith, sa.puts_to, sb.takes_to)) (omega (arith, sa.counts, sb.counts)) in
    let back = sb.keeps.lengths_there j k sb.there in
    record {
      fit = fit;
      keeps = pile_keeps a b sa.keeps sb.keeps fit;
      takes_to = sa.takes_to;
      puts_to = sb.puts_to;
      counts = omega (arith, sa.counts, sb.counts);
      there = ap (λ o. through o (coded_length b)) sa.there ∙ sb.there;
      coding_room = longest_within (code_room a n) (coded_length a n) j room (code_room b) sa.there sa.coding_room sb.coding_room;
      decoding_room = longest_within (decode_room b k) (message_length b k) j room (decode_room a) back sb.decoding_room sa.decoding_room;
    }

-- a stage that takes lists of one length and no other
abbrev pub Only : Model → ℕ → Type 0
Only m n = (j l : ℕ) → coded_length m j ≡ Some l → j ≡ n

-- one length leads to one other
pub one_length : (j from to l : ℕ) → cond (eqb j from) (Some to) None ≡ Some l → j ≡ from
one_length j from to l e = of (eqb j from) refl e
  where
    of : (t : Bool) → eqb j from ≡ t → cond t (Some to) None ≡ Some l → j ≡ from
    of true q h = eqb-true j from q
    of false q h = absurd (cc)

same_some : (m n : ℕ) → ◌≡◌ {A = Option ℕ} (Some m) (Some n) → m ≡ n
same_some m n e = cc

-- a length behind two stages goes through one between them
between : (o : Option ℕ) (next : ℕ → Option ℕ) (l : ℕ) → through o next ≡ Some l → (i : ℕ) × ((o ≡ Some i) × (next i ≡ Some l))
between (Some i) next l e = (i, (refl, e))
between None next l e = absurd (cc)

pub only_by_first : (a b : Model) (n : ℕ) → Only a n → Only (pile a b) n
only_by_first a b n only j l e =
    let t = between (coded_length a j) (coded_length b) l e in only j t.0 t.1.0

pub only_by_second : (a b : Model) (n mid : ℕ) → Promise a → coded_length a n ≡ Some mid → Only b mid → Only (pile a b) n
only_by_second a b n mid keeps there only j l e =
    let t = between (coded_length a j) (coded_length b) l e in
    let same : t.0 ≡ mid = only t.0 l t.1.1 in
    let from_j : message_length a mid ≡ Some j = ap (message_length a) (sym same) ∙ keeps.lengths_there j t.0 t.1.0 in
    same_some j n (sym from_j ∙ keeps.lengths_there n mid there)

-- a step that takes one length alone is what a chain carries
pub carried : (m : Model) (highest n k room count : ℕ) → Step m highest 7 n k room count → Only m n → Carries m highest n k room
carried m highest n k room count s only =
    record {
      fit = s.fit;
      keeps = s.keeps;
      takes_to = s.takes_to;
      puts_cells = s.puts_to;
      there = s.there;
      back = s.keeps.lengths_there n k s.there;
      only = only;
      coding_room = s.coding_room;
      decoding_room = s.decoding_room;
    }
