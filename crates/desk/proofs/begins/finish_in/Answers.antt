use Rattle.std.proofs.Common.{◌∙◌}
use Rattle.desk.proofs.SendingLaws.{finishes}
use Rattle.std.proofs.lemmas.List.{with_items_is}
use Rattle.desk.proofs.begins.finish_in.Goals as goal

pub returns : goal.returns
returns c =
    let same = with_items_is c.args.cells.now c.finish.new.cells (c.finish.auto.cells ∙ c.as_mut_slice.ensures.len) in
    let a = c.finish.ensures.answer in
    let b = c.finish.ensures.buffer in
    finishes _ _ _ _ _ _ c.as_mut_slice.ensures.value a (same ∙ b)
