-- What the functions that decide on a part answer, and what they leave in the receiver.
use Rattle.std.specs.Prelude.{◌≡◌, ℕ, ◌≤◌, List, take, Ok, Err, Result}
use Rattle.stage.specs.declared.faults.ChainFault.{ChainFault}
use Rattle.frame.specs.declared.headers.Header.{Header}
use Rattle.receiving.specs.declared.refusals.FeedRefusal.{FeedRefusal}
use Rattle.receiving.specs.declared.refusals.HeaderFault.{HeaderFault}
use Rattle.receiving.specs.declared.refusals.PayloadFault.{PayloadFault}
use Rattle.receiving.specs.declared.states.LegalHeader.{LegalHeader}
use Rattle.receiving.specs.Phases.{most_bytes}

-- A chain's fault by the part of the frame that it was for.
abbrev pub of_header : ChainFault → HeaderFault
of_header f = record { 0 = f }

abbrev pub of_payload : ChainFault → PayloadFault
of_payload f = record { 0 = f }

-- A decoding with its fault turned into something else.
abbrev pub turned : {E : Type 0} → (ChainFault → E) → Result (List ℕ) ChainFault → Result (List ℕ) E
turned name (Ok xs) = Ok xs
turned name (Err f) = Err (name f)

-- The answer is the header wanted; or there is none, and the answer says why.
abbrev pub Decided : Result Header FeedRefusal → Result LegalHeader FeedRefusal → Type 0
Decided wanted (Ok l) = wanted ≡ Ok l.header
Decided wanted (Err e) = wanted ≡ Err e

-- The bytes wanted stand at the front of a buffer, as many as the answer says; or there are none,
-- and the answer says why.
abbrev pub Delivered : {E : Type 0} → Result (List ℕ) E → Result ℕ E → List ℕ → Type 0
Delivered wanted (Ok n) bytes = (wanted ≡ Ok (take n bytes)) × (n ≤ most_bytes)
Delivered wanted (Err e) bytes = wanted ≡ Err e
