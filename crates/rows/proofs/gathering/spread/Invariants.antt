-- The cells before this place are spread, and the given cells that are left are for the others.
use Rattle.std.specs.Slice.Iter.{iter_rest}
use Rattle.rows.proofs.GatherLaws.{Spreading}
use Rattle.rows.proofs.gathering.spread.Given as goal

abbrev pub invariant-loop-place : goal.invariant-loop-place
invariant-loop-place l = Spreading l.tm l.given (iter_rest l.rest) l.place l.cells
