-- A plain stage: one coding, not made of other stages.
use Rattle.std.specs.Prelude.{ℕ, suc, Bool, true, cond, ◌&&◌, List, [], ◌∷◌, Some, None, Ok, Err, Option, Result, ◌==◌, nat_le}
use Rattle.std.specs.Option.{option_map}
use Rattle.stage.specs.declared.faults.ChainFault.{ChainFault}
use Rattle.stage.specs.Faults.{fault_at}

-- What the author of a plain stage writes down: its number, the highest element it takes and
-- the highest it puts out, its lengths both ways, the coding of a list, and the guess, that
-- is the message of n elements whose coding comes nearest to a received list.
pub record Plain : Type 0 where
  pub number : ℕ
  pub takes : ℕ
  pub puts : ℕ
  pub coded_length : ℕ → Option ℕ
  pub message_length : ℕ → Option ℕ
  pub coding : List ℕ → List ℕ
  pub guess : ℕ → List ℕ → List ℕ

-- Whether every element lies in the alphabet of the numbers from 0 to `highest`.
abbrev pub within : ℕ → List ℕ → Bool
within highest [] = true
within highest (x ∷ xs) = nat_le x highest && within highest xs

-- Where two lists first differ, if they do; a list that ends first differs there.
abbrev pub first_difference : List ℕ → List ℕ → Option ℕ
first_difference [] [] = None
first_difference [] (y ∷ ys) = Some 0
first_difference (x ∷ xs) [] = Some 0
first_difference (x ∷ xs) (y ∷ ys) = cond (x == y) (option_map suc (first_difference xs ys)) (Some 0)

-- The verdict on a guess whose coding differs from the received list at some place, or nowhere.
abbrev pub settled : ℕ → List ℕ → Option ℕ → Result (List ℕ) ChainFault
settled number message None = Ok message
settled number message (Some place) = Err (fault_at number place)

-- The verdict on a received list whose length belongs to messages of some length, or to none.
abbrev pub judged : Plain → List ℕ → Option ℕ → Result (List ℕ) ChainFault
judged p ys None = Err (fault_at p.number 0)
judged p ys (Some n) = settled p.number (p.guess n ys) (first_difference (p.coding (p.guess n ys)) ys)
