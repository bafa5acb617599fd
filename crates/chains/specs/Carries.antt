-- What the layers above know of a chain: lengths, alphabets, rooms and the promise, and nothing of
-- the codings inside.
use Rattle.std.specs.Prelude.{◌≡◌, ℕ, ◌*◌, ◌≤◌, true, List, length, Some}
use Rattle.chains.specs.Chains.{header_chain, payload_chain}
use Rattle.frame.specs.declared.headers.Header.{Header}
use Rattle.frame.specs.Answers.{Legal, payload}
use Rattle.frame.specs.Sizes.{live_carriers, payload_rows}
use Rattle.stage.specs.Model.{Model, fits, takes, puts, coded_length, message_length, code_room, decode_room}
use Rattle.stage.specs.Plain.{within}
use Rattle.stage.specs.Promise.{Promise}

-- A chain whose members fit and that keeps the promise. It takes lists of n elements up to a
-- highest one and of no other length, puts out k cells, and needs buffers of no more than `room`.
pub record Carries (m : Model) (highest n k room : ℕ) : Type 0 where
  pub fit : fits m ≡ true
  pub keeps : Promise m
  pub takes_to : takes m ≡ highest
  pub puts_cells : puts m ≡ 7
  pub there : coded_length m n ≡ Some k
  pub back : message_length m k ≡ Some n
  pub only : (j l : ℕ) → coded_length m j ≡ Some l → j ≡ n
  pub coding_room : code_room m n ≤ room
  pub decoding_room : decode_room m k ≤ room

-- The header chain carries 28 bits in 468 cells, over every reference of 36 phases.
abbrev pub HeaderCarries : Type 0
HeaderCarries =
    (reference : List ℕ) → length reference ≡ 36 → within 7 reference ≡ true → Carries (header_chain reference) 1 28 468 468

-- The payload chain of a legal header carries the payload's bytes in the live cells of the payload
-- rows, over every reference of a phase for each live carrier.
abbrev pub PayloadCarries : Type 0
PayloadCarries =
    (h : Header) → Legal h → (reference : List ℕ) → length reference ≡ live_carriers h.tm → within 7 reference ≡ true
    → Carries (payload_chain h reference) 255 (payload h) (live_carriers h.tm * payload_rows h.fl) 9072

pub record ChainsCarry : Type 0 where
  pub header : HeaderCarries
  pub payload_of : PayloadCarries
