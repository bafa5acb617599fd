-- The lines of the certificate and of the list of tone maps.
use Rattle.std.specs.Prelude.{◌≡◌, ℕ, List, [], Option}
use Rattle.frame.specs.declared.headers.Header.{Header}
use Rattle.frame.specs.declared.lengths.LegalLength.{LegalLength}
use Rattle.frame.specs.Lengths.{Smallest, Largest}
use Rattle.tables.specs.Columns.{with_length, with_number}

-- The header that a line speaks of; its FL does not matter.
abbrev pub header : ℕ → ℕ → Header
header tm mo = record { pdc = 0; modulation = mo; fl = 0; tm = tm; dt = 0 }

-- A line with five columns more: MOD, the smallest legal length and the largest.
pub record With_lengths (tm mo : ℕ) (before after : List ℕ) : Type 0 where
  pub shortest : Option LegalLength
  pub longest : Option LegalLength
  pub is_smallest : Smallest (header tm mo) shortest
  pub is_largest : Largest (header tm mo) longest
  pub text : after ≡ with_length (with_length (with_number before mo) shortest) longest

-- The certificate's line: the five columns.
abbrev pub Certificate_line : ℕ → ℕ → List ℕ → Type 0
Certificate_line tm mo bytes = With_lengths tm mo [] bytes

-- The line with the tone map's number in front: six columns.
abbrev pub Tone_map_line : ℕ → ℕ → List ℕ → Type 0
Tone_map_line tm mo bytes = With_lengths tm mo (with_number [] tm) bytes
