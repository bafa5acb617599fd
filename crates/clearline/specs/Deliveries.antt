-- What can be sent arrives as it was sent.
use Rattle.std.specs.Prelude.{◌≡◌, ℕ, ◌≤◌, List, ◌++◌, length, drop, Some, Ok, Option}
use Rattle.frame.specs.declared.headers.Header.{Header}
use Rattle.sending.specs.Sendings.{send_answer}

-- A frame that can be sent, and for which there is room, is handed over: its header, its length, and
-- its payload in front of what stood in the buffer.
abbrev pub Delivers : Header → List ℕ → List ℕ → ℕ → List ℕ → Option (Header × ℕ) → List ℕ → Type 0
Delivers h reference bytes cells before told after =
    (rows : ℕ) → send_answer h reference bytes cells ≡ Ok rows → length bytes ≤ length before
    → (told ≡ Some (h, length bytes)) × (after ≡ bytes ++ drop (length bytes) before)
