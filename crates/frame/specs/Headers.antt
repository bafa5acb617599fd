-- A header with one field replaced.
use Rattle.std.specs.Prelude.{ℕ}
use Rattle.frame.specs.declared.headers.Header.{Header}

-- The header with another frame length, all other fields equal to the given header's.
abbrev pub with_fl : Header → ℕ → Header
with_fl h fl = record { pdc = h.pdc; modulation = h.modulation; fl = fl; tm = h.tm; dt = h.dt }
