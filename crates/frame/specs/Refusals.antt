-- When a header is refused, and with which refusal.
use Rattle.std.specs.Prelude.{ℕ, ◌/◌, ◌%◌, Bool, cond, not, ◌&&◌, Some, None, Option, ◌==◌, nat_lt}
use Rattle.frame.specs.declared.headers.Header.{Header}
use Rattle.frame.specs.declared.refusals.Field.{Field}
use Rattle.frame.specs.declared.refusals.Field.TheVariants.{Pdc, Mod, Fl, Tm, Dt}
use Rattle.frame.specs.declared.refusals.Refusal.{Refusal}
use Rattle.frame.specs.declared.refusals.Refusal.TheVariants.{OutOfRange, ToneMap, Reserved, BlockTooShort, BlockTooLong}

-- The number of each refusal.
abbrev pub number_of : Refusal → ℕ
number_of (OutOfRange f) = 1
number_of (ToneMap tm) = 2
number_of (Reserved dt) = 3
number_of (BlockTooShort n) = 4
number_of (BlockTooLong n) = 5

-- The highest number that a field holds: it has 8, 2, 6, 9 and 3 bits.
abbrev pub highest : Field → ℕ
highest Pdc = 255
highest Mod = 3
highest Fl = 63
highest Tm = 511
highest Dt = 7

-- The number that a header has in a field.
abbrev pub field : Field → Header → ℕ
field Pdc h = h.pdc
field Mod h = h.modulation
field Fl h = h.fl
field Tm h = h.tm
field Dt h = h.dt

-- Whether a header's number is above what the field holds.
abbrev pub beyond : Field → Header → Bool
beyond f h = nat_lt (highest f) (field f h)

-- The first field, in the order of sending, that is out of range.
abbrev pub first_beyond : Header → Option Field
first_beyond h =
    cond (beyond Pdc h) (Some Pdc)
    (cond (beyond Mod h) (Some Mod)
    (cond (beyond Fl h) (Some Fl) (cond (beyond Tm h) (Some Tm) (cond (beyond Dt h) (Some Dt) None))))

-- Whether a tone map has none of TM[6] to TM[8], and one of TM[0] to TM[5] at least.
abbrev pub legal_tone_map : ℕ → Bool
legal_tone_map tm = tm / 64 == 0 && not (tm % 64 == 0)
