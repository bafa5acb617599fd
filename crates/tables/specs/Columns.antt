-- Columns of five places, right-justified.
use Rattle.std.specs.Prelude.{ℕ, ◌-◌, List, ◌++◌, length, replicate, Some, None, codes, decimal, Option}
use Rattle.frame.specs.declared.lengths.LegalLength.{LegalLength}

-- A line with as many blanks more as five places leave beside the text, and then the text.
abbrev pub with_text : List ℕ → List ℕ → List ℕ
with_text line text = (line ++ replicate (5 - length text) 32) ++ text

-- A line with one column more, a number.
abbrev pub with_number : List ℕ → ℕ → List ℕ
with_number line n = with_text line (decimal n)

-- A line with two columns more: a frame length and its payload, or a dash in each place.
abbrev pub with_length : List ℕ → Option LegalLength → List ℕ
with_length line (Some l) = with_number (with_number line l.fl) l.payload
with_length line None = with_text (with_text line (codes "-")) (codes "-")
