use Rattle.std.proofs.Common.{drop, Err, ap, ◌∙◌}
use Rattle.std.proofs.lemmas.Result.{err_from_is_err_and}
use Rattle.rows.specs.Carriers.{row_at}
use Rattle.receiving.specs.Keeping.{kept}
use Rattle.receiving.proofs.LiveLaws.{live_long, live_row, part_held}
use Rattle.receiving.proofs.VerdictLaws.{payload_refused, payload_told, refused_delivery}
use Rattle.receiving.proofs.decisions.FrameRows.payload_bytes.Goals as goal

pub decode_live-requires : goal.decode_live-requires
decode_live-requires c =
    let h = c.args.self.now.legal.header in
    let k = c.args.self.now.rows.now in
    let legal = c.args.self.now.legal.legal in
    record {
      refers = live_row h (row_at 12 (kept k)) _ legal c.live_reference-live.ensures.refers (part_held _ _ c.live_reference-live.result c.live_reference-live.ensures.live);
      long = live_long h (drop 468 (kept k)) _ legal c.live_cells-count.ensures.long (part_held _ _ c.live_cells-count.result c.live_cells-count.ensures.live);
    }

pub returns-in_err-length : goal.returns-in_err-length
returns-in_err-length c =
    let p = err_from_is_err_and c.from_residual.result c.from_residual.ensures.1 in
    let q =
    payload_refused c.args.self.now.legal.header _ _ _ _ c.in_err-length.field-0.0 (part_held _ _ c.live_reference-live.result c.live_reference-live.ensures.live) (part_held _ _ c.live_cells-count.result c.live_cells-count.ensures.live) c.in_err-length.ensures in
    refused_delivery _ _ _ _ (p.1 ∙ ap Err p.2) q

pub returns : goal.returns
returns c =
    let e = c.in_ok-length.ensures in (
      payload_told c.args.self.now.legal.header _ _ _ _ _ (part_held _ _ c.live_reference-live.result c.live_reference-live.ensures.live) (part_held _ _ c.live_cells-count.result c.live_cells-count.ensures.live) e.0,
      e.1,
    )
