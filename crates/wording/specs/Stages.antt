-- Calls on the stages that all programs know: the words of their settings, and what they are answered.
use Rattle.std.specs.Prelude.{◌≡◌, ℕ, cond, List, length, Ok, Err, Option, Result, ◌==◌}
use Rattle.codings.specs.Fills.{made_fill}
use Rattle.phases.specs.Differences.{made_difference}
use Rattle.wording.specs.Calls.{read_list, read_number, then_read}
use Rattle.wording.specs.declared.requests.Direction.{Direction}
use Rattle.wording.specs.Requests.{answer_to, read_request}
use Rattle.stage.specs.declared.faults.Refusal.{Refusal}
use Rattle.stage.specs.declared.faults.Refusal.TheVariants.{Setting}
use Rattle.stage.specs.Model.{Model}
use Rattle.std.specs.Result.{result_map_both as mapped_both}

-- A stage without settings.
abbrev pub plain_reply : Model → Direction → List (List ℕ) → Option (List ℕ)
plain_reply m d ws = answer_to d (Ok m) (read_request ws)

-- What gives a stage for a number, or refuses, is told by `made`.
abbrev pub Makes : {S : Type 0} → (S → Model) → (ℕ → Result S Refusal → Type 0) → (ℕ → Result Model Refusal) → Type 0
Makes {S} model gives made = (n : ℕ) (r : Result S Refusal) → gives n r → mapped_both model (λ e. e) r ≡ made n

-- A stage that one number sets.
abbrev pub number_reply : (ℕ → Result Model Refusal) → Direction → List (List ℕ) → Option (List ℕ)
number_reply made d ws = then_read (read_number ws) (λ n ws1. answer_to d (made n) (read_request ws1))

-- `fill K P`
abbrev pub fill_reply : Direction → List (List ℕ) → Option (List ℕ)
fill_reply d ws = then_read (read_number ws) (λ k ws1. number_reply (made_fill k) d ws1)

-- The stage over a reference of m cells, or the refusal of a reference of another length or a bad one.
abbrev pub difference_of : ℕ → List ℕ → Result Model Refusal
difference_of m reference = cond (length reference == m) (made_difference reference) (Err Setting)

-- `difference M HEX`
abbrev pub difference_reply : Direction → List (List ℕ) → Option (List ℕ)
difference_reply d ws =
    then_read (read_number ws)
    (λ m ws1. then_read (read_list ws1)
    (λ xs ws2. answer_to d (difference_of m xs) (read_request ws2)))
