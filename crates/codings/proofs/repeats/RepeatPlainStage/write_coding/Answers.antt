use Rattle.std.proofs.Common.{get_or, replicate, ap, ◌∙◌, arith}
use Rattle.std.proofs.lemmas.List.{length-replicate}
use Rattle.codings.specs.Repeats.{most_bits}
use Rattle.codings.specs.GroupLaws.{grouped_is, group_inside, part_long, groups_more}
use Rattle.codings.proofs.repeats.RepeatPlainStage.write_coding.Goals as goal

pub loop-i-preserved : goal.loop-i-preserved
loop-i-preserved c =
    let t = c.args.self.now.times in
    let whole = (grouped_is most_bits t _ _ c.requires.long).1 in
    let inside = group_inside c.loop-i.i _ t c.loop-i-test.true in
    let part = part_long c.loop-i.i t c.loop-i.coded (omega (arith, c.loop-i.auto.coded)) in
    let group = c.put_copies.ensures ∙ ap (λ m. replicate m (get_or c.args.list.now c.loop-i.i 0)) part in
    groups_more (replicate t) t (λ x. length-replicate t x) c.loop-i.i _ c.args.list.now c.loop-i.coded c.put_copies.new.copies (omega arith) (omega (arith, c.loop-i.auto.coded)) group c.loop-i.invariant
