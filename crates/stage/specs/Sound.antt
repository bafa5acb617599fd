-- What the author of a plain stage shows of the definitions written down for it.
use Rattle.std.specs.Prelude.{◌≡◌, ℕ, ◌+◌, ◌<◌, ◌≤◌, true, List, length, Some, slice_index}
use Rattle.stage.specs.Plain.{Plain, within}
use Rattle.stage.specs.Model.{plain, legal, longest_list, highest_element}

-- The facts from which a plain stage's whole promise follows: bounds, lengths that go with each
-- other, codings of the stated length and alphabet, and a guess that is a message, gives a
-- coding's own message back, and is right wherever any message is: where some coding agrees
-- with the received list up to and with place k, the guess's coding agrees with it at k.
pub record Sound (p : Plain) : Type 0 where
  pub takes_bytes : p.takes ≤ highest_element
  pub puts_bytes : p.puts ≤ highest_element
  pub short_lists : (n k : ℕ) → p.coded_length n ≡ Some k → (n ≤ longest_list) × (k ≤ longest_list)
  pub lengths_there : (n k : ℕ) → p.coded_length n ≡ Some k → p.message_length k ≡ Some n
  pub lengths_back : (n k : ℕ) → p.message_length k ≡ Some n → p.coded_length n ≡ Some k
  pub stated_length : (xs : List ℕ) → legal (plain p) xs ≡ true → p.coded_length (length xs) ≡ Some (length (p.coding xs))
  pub stated_alphabet : (xs : List ℕ) → legal (plain p) xs ≡ true → within p.puts (p.coding xs) ≡ true
  pub guess_length : (n : ℕ) (ys : List ℕ) → p.coded_length n ≡ Some (length ys) → length (p.guess n ys) ≡ n
  pub guess_within : (n : ℕ) (ys : List ℕ) → p.coded_length n ≡ Some (length ys) → within p.takes (p.guess n ys) ≡ true
  pub guess_back : (xs : List ℕ) → legal (plain p) xs ≡ true → p.guess (length xs) (p.coding xs) ≡ xs
  pub guess_best : (xs ys : List ℕ) (k : ℕ) → legal (plain p) xs ≡ true → length (p.coding xs) ≡ length ys → k < length ys → ((j : ℕ) → j < k + 1 → slice_index (p.coding xs) j ≡ slice_index ys j) → slice_index (p.coding (p.guess (length xs) ys)) k ≡ slice_index ys k
