-- The cells so far are those of the characters behind.
use Rattle.std.proofs.Common.{◌≡◌, map, take, vec_items}
use Rattle.wording.specs.Hexes.{digit_value}
use Rattle.wording.proofs.cells.cells_in.Given as goal

abbrev pub invariant-loop-character : goal.invariant-loop-character
invariant-loop-character l = vec_items l.cells ≡ map digit_value (take l.character-index l.word)
