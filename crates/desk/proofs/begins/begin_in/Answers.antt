use Rattle.std.proofs.Common.{◌∙◌}
use Rattle.desk.proofs.SendingLaws.{begins}
use Rattle.std.proofs.lemmas.List.{with_items_is}
use Rattle.desk.proofs.begins.begin_in.Goals as goal

pub returns : goal.returns
returns c =
    let same = with_items_is c.args.cells.now c.begin.new.cells (c.begin.auto.cells ∙ c.as_mut_slice.ensures.len) in
    let a = c.begin.ensures.answer in
    let b = c.begin.ensures.buffer in
    begins _ _ _ _ _ _ c.as_mut_slice.ensures.value a (same ∙ b)
