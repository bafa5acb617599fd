-- The digits of the bytes behind have been added.
use Rattle.std.proofs.Common.{◌≡◌, ◌++◌, take, vec_items}
use Rattle.wording.specs.Hexes.{digits_of}
use Rattle.wording.proofs.hexes.append_digits.Given as goal

abbrev pub invariant-loop-byte : goal.invariant-loop-byte
invariant-loop-byte l = vec_items l.text ≡ vec_items l.initial.text ++ digits_of (take l.byte-index l.list)
