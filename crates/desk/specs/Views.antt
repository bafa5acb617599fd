-- What the desk holds, and what a turn at it is.
use Rattle.std.specs.Prelude.{◌≡◌, ℕ, List, Some, None, Option}
use Rattle.frame.specs.declared.headers.Header.{Header}
use Rattle.receiving.specs.Steps.{View}

-- What a desk holds: what its receiver holds, the cells of the transmit buffer, and the header of the
-- begun frame, if there is one.
pub record DeskView : Type 0 where
  pub receiver : View
  pub cells : List ℕ
  pub begun : Option Header

-- A text, and what the desk holds then.
abbrev pub Turn : Type 0
Turn = DeskView × List ℕ

-- The text of a turn, if there is one, and what the desk holds then.
abbrev pub MaybeTurn : Type 0
MaybeTurn = DeskView × Option (List ℕ)

-- A call did what the turn says: it gave the text and left the desk so.
abbrev pub Took : {A : Type 0} → DeskView × A → A → DeskView → Type 0
Took turn text after = (after ≡ turn.0) × (text ≡ turn.1)

-- The turn of a call that was read; what cannot be read changes nothing.
abbrev pub turn_if : {A : Type 0} → DeskView → Option A → (A → Turn) → MaybeTurn
turn_if v None f = (v, None)
turn_if v (Some a) f = ((f a).0, Some (f a).1)
