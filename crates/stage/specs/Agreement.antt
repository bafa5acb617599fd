-- How far a received list agrees with the coding that comes nearest to it.
use Rattle.std.specs.Prelude.{◌≡◌, ℕ, ◌<◌, ◌≤◌, List, length, Some, None, Option, ◌≢◌, slice_index}
use Rattle.stage.specs.Plain.{Plain}

-- Of two lists the first `place` elements are the same; the next of them, if there is one, is not.
pub record Agrees (coded : List ℕ) (received : List ℕ) (place : ℕ) : Type 0 where
  pub few : place ≤ length received
  pub same : (k : ℕ) → k < place → slice_index coded k ≡ slice_index received k
  pub stop : place < length received → slice_index coded place ≢ slice_index received place

-- A received list agrees up to a place with the coding that comes nearest to it, that of a message
-- of n elements.
abbrev pub AgreesUpTo : Plain → ℕ → List ℕ → ℕ → Type 0
AgreesUpTo p n received place = Agrees (p.coding (p.guess n received)) received place

-- The received list is the coding of the message that comes nearest, which `list` now is; or it
-- agrees with that coding up to a place inside it.
abbrev pub Regains : Plain → List ℕ → Option ℕ → List ℕ → Type 0
Regains p received None list = AgreesUpTo p (length list) received (length received) × (list ≡ p.guess (length list) received)
Regains p received (Some place) list = AgreesUpTo p (length list) received place × (place < length received)
