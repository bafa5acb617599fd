use Rattle.std.proofs.Common.{Err, None, Some, sym, ap, ◌∙◌, subst}
use Rattle.std.proofs.lemmas.Result.{err_from_is_err_and}
use Rattle.receiving.specs.Decisions.{header_decision}
use Rattle.receiving.specs.Keeping.{kept}
use Rattle.receiving.specs.Verdicts.{Decided}
use Rattle.receiving.proofs.VerdictLaws.{bits_told, header_refused}
use Rattle.receiving.proofs.decisions.decide_header.Goals as goal

pub returns-in_err-bits : goal.returns-in_err-bits
returns-in_err-bits c =
    let p = err_from_is_err_and c.from_residual.result c.from_residual.ensures.1 in
    header_refused c.args.reference.now.cells (kept c.args.rows.now) _ c.in_err-bits.field-0.0 _ c.all_cells.ensures.cells c.in_err-bits.ensures (p.1 ∙ ap Err p.2)

pub returns-in_err-legal : goal.returns-in_err-legal
returns-in_err-legal c =
    let p = err_from_is_err_and c.from_residual-in_err-legal.result c.from_residual-in_err-legal.ensures.1 in
    subst
    (Decided (header_decision c.args.reference.now.cells (kept c.args.rows.now)))
    (sym (p.1 ∙ ap Err p.2))
    (bits_told c.args.reference.now.cells (kept c.args.rows.now) _ c.in_ok-bits.bits c.header_from.result (Some c.in_err-legal.field-0.0) c.all_cells.ensures.cells c.in_ok-bits.ensures c.header_from.ensures c.in_err-legal.ensures)

pub returns : goal.returns
returns c =
    bits_told c.args.reference.now.cells (kept c.args.rows.now) _ c.in_ok-bits.bits c.in_ok-legal.legal.header None c.all_cells.ensures.cells c.in_ok-bits.ensures (c.in_ok-legal.ensures ∙ c.header_from.ensures) c.in_ok-legal.legal.legal
