-- The cells looked at so far are gathered.
use Rattle.rows.proofs.GatherLaws.{Gathering}
use Rattle.rows.proofs.gathering.gather.Given as goal

abbrev pub invariant-loop-place : goal.invariant-loop-place
invariant-loop-place l = Gathering l.tm l.cells l.initial.buffer l.place l.count l.buffer
