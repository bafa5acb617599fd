use Rattle.std.proofs.Common.{ap, ◌∙◌, arith}
use Rattle.std.specs.Range.{range_inclusive_end, range_inclusive_exhausted, range_inclusive_start}
use Rattle.std.proofs.iter.runs.Sources.{inclusive_listed}
use Rattle.frame.proofs.Extremes.{smallest_upward}
use Rattle.frame.proofs.lengths.smallest.Goals as goal

pub returns : goal.returns
returns c =
    let run = c.first_legal.ensures in
    let count = inclusive_listed run.0 run.0.seen in
    smallest_upward
    run.0
    c.args.header
    c.first_legal.result
    count.0
    count.1
    (omega (arith, count.2, ap range_inclusive_start run.1))
    (omega (arith, count.3, ap range_inclusive_end run.1))
    (count.4 (ap range_inclusive_exhausted run.1 ∙ c.new.ensures.exhausted)).0
    run.2
