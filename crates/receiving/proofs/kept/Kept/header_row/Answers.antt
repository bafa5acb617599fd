use Rattle.std.proofs.Common.{ap, ◌∙◌, arith, rules}
use Rattle.rows.specs.Carriers.{is_reference}
use Rattle.receiving.proofs.KeptLaws.{header_row_refers, row_of_front}
use Rattle.receiving.proofs.kept.Kept.header_row.Goals as goal

pub returns : goal.returns
returns c =
    let k = c.args.self.now in
    record {
      cells = c.row_from.ensures ∙ row_of_front k.rows c.args.number k.cells (omega arith);
      refers =
          ap is_reference c.row_from.ensures
          ∙ header_row_refers k.rows c.args.number k.cells (search rules) c.requires.header c.requires.inside k.phases;
    }
