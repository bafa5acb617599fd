use Rattle.std.proofs.Common.{length, ap, ◌∙◌}
use Rattle.chains.proofs.MadeChains.{by_reference, payload_over_row, sized_few}
use Rattle.chains.proofs.payloads.over_row.Goals as goal

pub piled_over-requires : goal.piled_over-requires
piled_over-requires c =
    let few = sized_few c.args.header c.args.bytes _ (length c.args.reference.now) c.requires.legal c.requires.bytes c.payload_rows.ensures c.requires.row in
    record { bytes = few.0; rows = few.1; carriers = few.2 }

pub returns-in-Ok : goal.returns-in-Ok
returns-in-Ok c =
    ap by_reference c.in-Ok.ensures ∙ payload_over_row c.args.header _ c.args.bytes _ c.args.reference.now c.payload_modulation-modulation.ensures c.requires.legal c.requires.bytes c.payload_rows.ensures c.requires.row

pub returns-in-Err : goal.returns-in-Err
returns-in-Err c =
    ap by_reference c.in-Err.ensures ∙ payload_over_row c.args.header _ c.args.bytes _ c.args.reference.now c.payload_modulation-modulation.ensures c.requires.legal c.requires.bytes c.payload_rows.ensures c.requires.row
