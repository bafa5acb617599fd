use Rattle.std.proofs.Common.{◌++◌, length, drop, ap, ◌∙◌}
use Rattle.sending.proofs.CallLaws.{front_and_rest}
use Rattle.sending.proofs.SentLaws.{header_part_long}
use Rattle.sending.proofs.begun.Begun.write_header.Goals as goal

pub returns : goal.returns
returns c =
    front_and_rest
    468
    c.copy_front.new.to
    c.header_cells-rows.result
    c.args.cells.now
    (ap length c.header_cells-rows.ensures ∙ (header_part_long c.args.self.now.header c.args.reference.now.cells c.args.reference.now.phases).0)
    c.copy_front.ensures.front
    c.copy_front.ensures.rest
    ∙ ap (λ q. q ++ drop 468 c.args.cells.now) c.header_cells-rows.ensures
