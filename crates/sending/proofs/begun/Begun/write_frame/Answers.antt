use Rattle.std.proofs.Common.{◌++◌, take, drop, sym, ap, ◌∙◌, subst, arith}
use Rattle.std.proofs.lemmas.Bool.{false≢true}
use Rattle.rows.specs.Carriers.{is_reference, row_at}
use Rattle.sending.specs.Laws.{HoldsFrame}
use Rattle.sending.specs.Sendings.{frame_cells, payload_part}
use Rattle.stage.specs.Lists.{within_from}
use Rattle.sending.proofs.SentLaws.{sent_holds, written_is_sent, written_row_refers}
use Rattle.sending.proofs.begun.Begun.write_frame.Goals as goal

pub unreachable-requires : goal.unreachable-requires
unreachable-requires c =
    let h = c.args.self.now.header in
    let reference = c.args.reference.now in
    false≢true (sym c.in_default.ensures ∙ ap (λ q. is_reference (row_at 12 q)) c.write_header.ensures ∙ written_row_refers h reference.cells (drop 468 c.args.cells.now) reference.phases)

pub returns : goal.returns
returns c =
    let h = c.args.self.now.header in
    let reference = c.args.reference.now.cells in
    let refers = c.args.reference.now.phases in
    let bytes = c.args.bytes.now in
    let cells = c.args.cells.now in
    let written = c.write_payload.ensures
    ∙ ap (λ q. take 468 q ++ (payload_part h bytes q ++ drop (frame_cells h) q)) c.write_header.ensures
    ∙ written_is_sent h reference bytes cells refers c.requires.room in
    record {
      buffer = written;
      law = subst (HoldsFrame reference h bytes cells) (sym written)
          (sent_holds h reference bytes cells c.args.self.now.legal refers c.requires.exactly (within_from 255 bytes (λ i l. omega (arith, c.type_inv.bytes i))) c.requires.room);
    }
