-- What `size` answers.
use Rattle.std.specs.Prelude.{◌≡◌, ℕ, ◌+◌, cond, not, Some, None, Ok, Err, Option, Result, nat_lt}
use Rattle.frame.specs.declared.headers.Header.{Header}
use Rattle.frame.specs.declared.refusals.Field.{Field}
use Rattle.frame.specs.declared.refusals.Refusal.{Refusal}
use Rattle.frame.specs.declared.refusals.Refusal.TheVariants.{OutOfRange, ToneMap, Reserved, BlockTooShort, BlockTooLong}
use Rattle.frame.specs.Modulations.{modulation_of}
use Rattle.frame.specs.Refusals.{first_beyond, legal_tone_map}
use Rattle.frame.specs.Sizes.{block_bytes, parity_bytes, payload_bytes, row_count}

-- R of a header.
abbrev pub block : Header → ℕ
block h = block_bytes (modulation_of h.modulation) h.fl h.tm

-- 2T of a header.
abbrev pub parity : Header → ℕ
parity h = parity_bytes (modulation_of h.modulation)

-- N of a header.
abbrev pub payload : Header → ℕ
payload h = payload_bytes (modulation_of h.modulation) h.fl h.tm

-- Refusals 2 to 5, the first that applies, of a header whose fields are all in range.
abbrev pub refusal_in_range : Header → Option Field → Option Refusal
refusal_in_range h (Some f) = Some (OutOfRange f)
refusal_in_range h None =
    cond (not (legal_tone_map h.tm)) (Some (ToneMap h.tm))
    (cond (nat_lt 3 h.dt) (Some (Reserved h.dt))
    (cond (nat_lt (block h) (parity h + 1)) (Some (BlockTooShort (block h)))
    (cond (nat_lt 255 (block h)) (Some (BlockTooLong (block h))) None)))

-- The first refusal that applies to a header, in the order of their numbers; none to a legal one.
abbrev pub refusal : Header → Option Refusal
refusal h = refusal_in_range h (first_beyond h)

-- A header is legal if no refusal applies to it.
abbrev pub Legal : Header → Type 0
Legal h = refusal h ≡ None

-- The refusal, or else the answer.
abbrev pub unless_refused : {A : Type 0} → Option Refusal → A → Result A Refusal
unless_refused (Some e) a = Err e
unless_refused None a = Ok a

-- The pair of payload length and row count, or the first refusal that applies.
abbrev pub size_answer : Header → Result (ℕ × ℕ) Refusal
size_answer h = unless_refused (refusal h) (payload h, row_count h.fl)
