-- The law of piles: what a pile of two stages that fit promises, and how it follows from theirs.
use Rattle.std.specs.Prelude.{◌≡◌, ℕ, true, false, List, [], ◌∷◌, ◌++◌, length, Ok, Err, Option}
use Rattle.stage.specs.declared.faults.ChainFault.{ChainFault}
use Rattle.stage.specs.Lengths.{longest_with, through}
use Rattle.stage.specs.Model.{Model, plain, pile, members, fits, legal, coding, decoding, coded_length, code_room, decode_room}
use Rattle.stage.specs.declared.faults.Refusal.TheVariants.{Misfit}
use Rattle.stage.specs.Calls.{code_answer, decode_answer}
use Rattle.stage.specs.Promise.{Promise, Codes, Stops, from_the_line}

-- The longest list of a call that is given n elements and goes through the stages with these
-- lengths; it ends with the first list that has no length to go on with.
abbrev pub longest_through : List (ℕ → Option ℕ) → ℕ → ℕ
longest_through [] n = n
longest_through (next ∷ rest) n = longest_with n (next n) (longest_through rest)

-- The lengths of the plain stages of a stage as a coding meets them, toward the line.
abbrev pub lengths_outward : Model → List (ℕ → Option ℕ)
lengths_outward (plain p) = p.coded_length ∷ []
lengths_outward (pile a b) = lengths_outward a ++ lengths_outward b

-- The lengths of the plain stages of a stage as a decoding meets them, from the line inward.
abbrev pub lengths_inward : Model → List (ℕ → Option ℕ)
lengths_inward (plain p) = p.message_length ∷ []
lengths_inward (pile a b) = lengths_inward b ++ lengths_inward a

-- The law of the pile of a and b: it keeps the promise; its lengths and codings are theirs
-- composed; a list is legal for it exactly if the first takes it and the second takes the
-- first's coding; it takes back exactly the lists that it can put out and refuses exactly the
-- others, by the fault of the first plain stage from the line that refuses, the depth being the
-- count of plain stages nearer the line; its rooms are the longest lists on the way.
pub record PileLaw (a : Model) (b : Model) : Type 0 where
  pub promise : Promise (pile a b)
  pub lengths : (n : ℕ) → coded_length (pile a b) n ≡ through (coded_length a n) (coded_length b)
  pub codings : (xs : List ℕ) → coding (pile a b) xs ≡ coding b (coding a xs)
  pub legal_both : (xs : List ℕ) → legal (pile a b) xs ≡ true → (legal a xs ≡ true) × (legal b (coding a xs) ≡ true)
  pub legal_from : (xs : List ℕ) → legal a xs ≡ true → legal b (coding a xs) ≡ true → legal (pile a b) xs ≡ true
  pub accepts : (ys xs : List ℕ) → decoding (pile a b) ys ≡ Ok xs → Codes (pile a b) xs ys
  pub accepted : (ys xs : List ℕ) → Codes (pile a b) xs ys → decoding (pile a b) ys ≡ Ok xs
  pub refuses : (ys : List ℕ) (f : ChainFault) → decoding (pile a b) ys ≡ Err f → (xs : List ℕ) → Codes (pile a b) xs ys → ⊥
  pub refused : (ys : List ℕ) → ((xs : List ℕ) → Codes (pile a b) xs ys → ⊥) → (f : ChainFault) × (decoding (pile a b) ys ≡ Err f)
  pub stops : (ys : List ℕ) (f : ChainFault) → decoding (pile a b) ys ≡ Err f → Stops (from_the_line (pile a b)) ys f.fault f.depth
  pub count : members (pile a b) ≡ length (from_the_line (pile a b))
  pub code_rooms : (n : ℕ) → code_room (pile a b) n ≡ longest_through (lengths_outward (pile a b)) n
  pub decode_rooms : (n : ℕ) → decode_room (pile a b) n ≡ longest_through (lengths_inward (pile a b)) n

-- The law of two members that do not fit: nothing is legal for their pile, both calls refuse with
-- 14 whatever else is wrong, and no pile around it fits.
pub record MisfitLaw (a : Model) (b : Model) : Type 0 where
  pub nothing_legal : (xs : List ℕ) → legal (pile a b) xs ≡ false
  pub coding_refused : (xs : List ℕ) (work result : ℕ) → code_answer (pile a b) xs work result ≡ Err Misfit
  pub decoding_refused : (ys : List ℕ) (work result : ℕ) → decode_answer (pile a b) ys work result ≡ Err Misfit
  pub around_as_first : (m : Model) → fits (pile (pile a b) m) ≡ false
  pub around_as_second : (m : Model) → fits (pile m (pile a b)) ≡ false
