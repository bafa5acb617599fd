use Rattle.std.proofs.Common.{Err, ap, ◌∙◌}
use Rattle.std.proofs.lemmas.Result.{err_from_is_err_and}
use Rattle.receiving.specs.Keeping.{kept}
use Rattle.receiving.proofs.VerdictLaws.{decision_refused, decision_told, refused_delivery}
use Rattle.receiving.proofs.decisions.FrameRows.decide_payload.Goals as goal

pub returns-in_err-length : goal.returns-in_err-length
returns-in_err-length c =
    let p = err_from_is_err_and c.from_residual.result c.from_residual.ensures.1 in
    let q = decision_refused c.args.self.now.legal.header (kept c.args.self.now.rows.now) c.in_err-length.field-0.0 c.in_err-length.ensures in
    refused_delivery _ _ _ _ (p.1 ∙ ap Err p.2) q

pub returns : goal.returns
returns c =
    let e = c.in_ok-length.ensures in
    (decision_told c.args.self.now.legal.header (kept c.args.self.now.rows.now) _ e.0, e.1)
