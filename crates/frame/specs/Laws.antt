-- What makes the definitions of sizes and refusals right, in words of the subject.
use Rattle.std.specs.Prelude.{◌≡◌, ℕ, ◌+◌, ◌*◌, ◌/◌, ◌%◌, ◌<◌, ◌≤◌, ◌⊎◌, MatchOption}
use Rattle.frame.specs.declared.headers.Header.{Header}
use Rattle.frame.specs.declared.refusals.Field.TheVariants.{Pdc, Mod, Fl, Tm, Dt}
use Rattle.frame.specs.declared.refusals.Refusal.{Refusal}
use Rattle.frame.specs.declared.refusals.Refusal.TheVariants.{OutOfRange, ToneMap, Reserved, BlockTooShort, BlockTooLong}
use Rattle.frame.specs.Answers.{Legal, block, parity, payload, refusal}
use Rattle.frame.specs.Modulations.{modulation_of, bits_per_cell, copies}
use Rattle.frame.specs.Refusals.{highest, field}
use Rattle.frame.specs.Sizes.{live_carriers, payload_rows, row_count, coded_bits}

-- What a refusal says of a header.
abbrev pub Applies : Refusal → Header → Type 0
Applies (OutOfRange f) h = highest f < field f h
Applies (ToneMap tm) h = (tm ≡ h.tm) × ((0 < tm / 64) ⊎ (tm % 64 ≡ 0))
Applies (Reserved dt) h = (dt ≡ h.dt) × (3 < dt)
Applies (BlockTooShort n) h = (n ≡ block h) × (n < parity h + 1)
Applies (BlockTooLong n) h = (n ≡ block h) × (255 < n)

-- The order in which refusals are checked: by number, and out of range by the order of sending.
abbrev pub place_of : Refusal → ℕ
place_of (OutOfRange Pdc) = 0
place_of (OutOfRange Mod) = 1
place_of (OutOfRange Fl) = 2
place_of (OutOfRange Tm) = 3
place_of (OutOfRange Dt) = 4
place_of (ToneMap tm) = 5
place_of (Reserved dt) = 6
place_of (BlockTooShort n) = 7
place_of (BlockTooLong n) = 8

-- The refusal applies, and none that is checked before it does.
abbrev pub First : Refusal → Header → Type 0
First e h = Applies e h × ((other : Refusal) → Applies other h → place_of e ≤ place_of other)

-- A header is refused with the first refusal that applies to it, and is legal if none does.
abbrev pub Refused_with_the_first_that_applies : Type 0
Refused_with_the_first_that_applies =
    (h : Header) → MatchOption (refusal h) ((e : Refusal) → Applies e h → ⊥) (λ e. First e h)

-- P of a header.
abbrev pub bits : Header → ℕ
bits h = coded_bits (modulation_of h.modulation) h.fl h.tm

-- What holds of the sizes of a legal header.
pub record Sound (h : Header) : Type 0 where
  -- there is a payload row, and not more than FL's six bits count
  pub some_rows : 1 ≤ h.fl
  pub few_rows : row_count h.fl ≤ 265
  -- there is a payload byte, and parity makes the payload the whole block, which a byte counts
  pub some_payload : 1 ≤ payload h
  pub whole_block : payload h + parity h ≡ block h
  pub short_block : block h ≤ 255
  -- some sub-band is live, and there are six
  pub some_carriers : 6 ≤ live_carriers h.tm
  pub few_carriers : live_carriers h.tm ≤ 36
  -- the coded bits, each sent as often as the modulation says, fill the live cells exactly
  pub cells_filled : bits h * copies (modulation_of h.modulation) ≡ live_carriers h.tm * payload_rows h.fl * bits_per_cell (modulation_of h.modulation)
  -- the convolution's output, two bits for each bit of the block and of its tail of six, fits the
  -- coded bits, and less than one byte of block more would not
  pub block_fits : 16 * block h + 12 ≤ bits h
  pub no_more_fits : bits h < 16 * (block h + 1) + 12

-- Every legal header has sound sizes.
abbrev pub Legal_sizes_are_sound : Type 0
Legal_sizes_are_sound = (h : Header) → Legal h → Sound h
