use Rattle.std.proofs.Common.{◌≡◌, true, ap, ◌∙◌, rules}
use Rattle.chains.specs.Chains.{header_chain}
use Rattle.rows.specs.Carriers.{is_reference}
use Rattle.stage.specs.Model.{decoding}
use Rattle.receiving.specs.Verdicts.{of_header, turned}
use Rattle.receiving.proofs.VerdictLaws.{header_decoded, header_fault}
use Rattle.receiving.proofs.decisions.decode_header_cells.Goals as goal

pub unreachable-requires : goal.unreachable-requires
unreachable-requires c =
    let refers : is_reference c.cells.result.now ≡ true = ap is_reference c.cells.ensures ∙ c.args.reference.now.phases in
    let f = header_fault c.cells.result.now c.args.cells.now _ _ c.in-Err.refusal refers c.requires (search rules) (search rules) c.in-Err.ensures.answer in
    c.in_default.not-Fault f.0 f.1.0

pub returns-in-Ok : goal.returns-in-Ok
returns-in-Ok c =
    let refers : is_reference c.cells.result.now ≡ true = ap is_reference c.cells.ensures ∙ c.args.reference.now.phases in
    header_decoded c.cells.result.now c.args.cells.now c.decode_header.new.res c.copy_front.new.to c.in-Ok.field-0 refers c.in-Ok.ensures.buffers.0 (search rules) (search rules) c.copy_front.ensures.front
    ∙ ap (λ r. turned of_header (decoding (header_chain r) c.args.cells.now)) c.cells.ensures
