-- The promise that every stage keeps, plain or pile.
use Rattle.std.specs.Prelude.{◌≡◌, ℕ, zero, suc, ◌+◌, ◌<◌, ◌≤◌, true, ◌⊎◌, List, [], ◌∷◌, ◌++◌, length, take, Some, Ok, Err, ◌≢◌}
use Rattle.stage.specs.declared.faults.StageFault.{StageFault}
use Rattle.stage.specs.declared.faults.ChainFault.{ChainFault}
use Rattle.stage.specs.Plain.{Plain, within}
use Rattle.stage.specs.Model.{Model, plain, pile, takes, puts, legal, coding, decoding, coded_length, message_length, longest_list, highest_element}

-- `xs` is a legal list and `ys` is its coding.
pub record Codes (m : Model) (xs : List ℕ) (ys : List ℕ) : Type 0 where
  pub is_legal : legal m xs ≡ true
  pub is_coding : coding m xs ≡ ys

-- The first k elements of `ys` are those of some coding of that length, and of no such coding are
-- the first k + 1: the longest front part that `ys` shares with a coding is k long.
pub record SharesFront (p : Plain) (ys : List ℕ) (k : ℕ) : Type 0 where
  pub nearest : List ℕ
  pub is_legal : legal (plain p) nearest ≡ true
  pub same_length : length (p.coding nearest) ≡ length ys
  pub shared : take k (p.coding nearest) ≡ take k ys
  pub inside : k < length ys
  pub longest : (xs : List ℕ) → legal (plain p) xs ≡ true → length (p.coding xs) ≡ length ys → take (k + 1) (p.coding xs) ≢ take (k + 1) ys

-- No coding of the plain stage has the length of `ys`.
abbrev pub NoSuchLength : Plain → List ℕ → Type 0
NoSuchLength p ys = (xs : List ℕ) → legal (plain p) xs ≡ true → length (p.coding xs) ≢ length ys

-- The place of a plain stage's fault: the length of the longest front part of the received list
-- that some coding of its length shares, or 0 if no coding has its length.
abbrev pub Place : Plain → List ℕ → ℕ → Type 0
Place p ys k = SharesFront p ys k ⊎ (NoSuchLength p ys × (k ≡ 0))

-- A plain stage refuses `ys` by the fault f: `ys` is no coding of it, the number is the stage's
-- own, and the place is as above.
pub record Refuses (p : Plain) (ys : List ℕ) (f : StageFault) : Type 0 where
  pub no_coding : (xs : List ℕ) → Codes (plain p) xs ys → ⊥
  pub own_number : f.number ≡ p.number
  pub right_place : Place p ys f.place

-- The plain stages of a stage, from the line inward.
abbrev pub from_the_line : Model → List Plain
from_the_line (plain p) = p ∷ []
from_the_line (pile a b) = from_the_line b ++ from_the_line a

-- Decoding goes through all the plain stages, from the line inward, and ends with `xs`.
abbrev pub Passes : List Plain → List ℕ → List ℕ → Type 0
Passes [] ys xs = ys ≡ xs
Passes (p ∷ ps) ys xs = (ms : List ℕ) × (Codes (plain p) ms ys × Passes ps ms xs)

-- Decoding stops at the plain stage with `depth` others nearer the line, which refuses the list
-- that it received by the fault f.
abbrev pub Stops : List Plain → List ℕ → StageFault → ℕ → Type 0
Stops [] ys f depth = ⊥
Stops (p ∷ ps) ys f zero = Refuses p ys f
Stops (p ∷ ps) ys f (suc depth) = (ms : List ℕ) × (Codes (plain p) ms ys × Stops ps ms f depth)

-- The promise. Alphabets end at 255 at the latest and no list is longer than 65,535; lengths
-- and codings go with each other; decoding takes every coding back and accepts nothing else;
-- a fault is that of the first plain stage, from the line inward, that refuses.
pub record Promise (m : Model) : Type 0 where
  pub takes_bytes : takes m ≤ highest_element
  pub puts_bytes : puts m ≤ highest_element
  pub short_lists : (n k : ℕ) → coded_length m n ≡ Some k → (n ≤ longest_list) × (k ≤ longest_list)
  pub lengths_there : (n k : ℕ) → coded_length m n ≡ Some k → message_length m k ≡ Some n
  pub lengths_back : (n k : ℕ) → message_length m k ≡ Some n → coded_length m n ≡ Some k
  pub stated_length : (xs : List ℕ) → legal m xs ≡ true → coded_length m (length xs) ≡ Some (length (coding m xs))
  pub stated_alphabet : (xs : List ℕ) → legal m xs ≡ true → within (puts m) (coding m xs) ≡ true
  pub taken_back : (xs : List ℕ) → legal m xs ≡ true → decoding m (coding m xs) ≡ Ok xs
  pub nothing_else : (ys xs : List ℕ) → decoding m ys ≡ Ok xs → Codes m xs ys
  pub passes : (ys xs : List ℕ) → decoding m ys ≡ Ok xs → Passes (from_the_line m) ys xs
  pub stops : (ys : List ℕ) (f : ChainFault) → decoding m ys ≡ Err f → Stops (from_the_line m) ys f.fault f.depth
