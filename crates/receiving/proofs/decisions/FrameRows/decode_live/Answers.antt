use Rattle.std.proofs.Common.{◌≡◌, rules}
use Rattle.receiving.proofs.VerdictLaws.{payload_copied, payload_decoded, payload_fault}
use Rattle.stage.specs.declared.faults.Refusal.TheVariants.{Fault}
use Rattle.receiving.proofs.decisions.FrameRows.decode_live.Goals as goal

pub copy_front-requires : goal.copy_front-requires
copy_front-requires c =
    let short = payload_decoded c.args.self.now.legal.header c.args.reference.now c.args.cells.now c.decode_payload.new.res c.in-Ok.length c.args.self.now.legal.legal c.requires.refers c.in-Ok.ensures.buffers.0 (search rules) in
    record { source = search rules; target = search rules }

pub unreachable-requires : goal.unreachable-requires
unreachable-requires c =
    let f = payload_fault c.args.self.now.legal.header c.args.reference.now c.args.cells.now _ _ c.in-Err.refusal c.args.self.now.legal.legal c.requires.refers c.requires.long (search rules) (search rules) c.in-Err.ensures.answer in
    c.in_default.not-Stage (Fault f.0) f.1.0

pub unreachable-requires-in_default-told : goal.unreachable-requires-in_default-told
unreachable-requires-in_default-told c =
    let f = payload_fault c.args.self.now.legal.header c.args.reference.now c.args.cells.now _ _ c.in-Err.refusal c.args.self.now.legal.legal c.requires.refers c.requires.long (search rules) (search rules) c.in-Err.ensures.answer in
    let is = f.1.0 in
    let same : c.in-Stage.told ≡ Fault f.0 = cc in
    c.in_default-told.not-Fault f.0 same

pub returns-in-Ok : goal.returns-in-Ok
returns-in-Ok c = (
  payload_copied c.args.self.now.legal.header c.args.reference.now c.args.cells.now c.decode_payload.new.res c.copy_front.new.to c.in-Ok.length c.in-Ok.ensures.buffers.0 c.copy_front.ensures.front,
  payload_decoded c.args.self.now.legal.header c.args.reference.now c.args.cells.now c.decode_payload.new.res c.in-Ok.length c.args.self.now.legal.legal c.requires.refers c.in-Ok.ensures.buffers.0 (search rules),
)
