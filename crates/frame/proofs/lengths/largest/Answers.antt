use Rattle.std.proofs.Common.{ap, ◌∙◌, arith}
use Rattle.std.specs.Range.{range_inclusive_end, range_inclusive_exhausted, range_inclusive_start}
use Rattle.std.proofs.iter.runs.Sources.{inclusive_listed_back}
use Rattle.frame.proofs.Extremes.{largest_downward}
use Rattle.frame.proofs.lengths.largest.Goals as goal

pub returns : goal.returns
returns c =
    let run = c.first_legal.ensures in
    let source = c.rev.ensures.runs run.0 run.0.seen run.1 in
    let count = inclusive_listed_back source.0 source.0.seen in
    largest_downward
    run.0
    source.0
    c.args.header
    c.first_legal.result
    count.0
    count.1
    (omega (arith, count.2, ap range_inclusive_start source.1))
    (omega (arith, count.3, ap range_inclusive_end source.1))
    source.2.0.0
    source.2.0.2
    source.2.1
    (count.4 (ap range_inclusive_exhausted source.1 ∙ c.new.ensures.exhausted)).0
    run.2
