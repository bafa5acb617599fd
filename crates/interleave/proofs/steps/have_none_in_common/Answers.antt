use Rattle.std.proofs.Common.{rules, tests, ◌≡◌, ◌+◌, ◌-◌, true, false, arith}
use Rattle.std.proofs.lemmas.Iterator.{YieldsList-from_range, cases_from_all}
use Rattle.interleave.specs.Factors.{divides_both}
use Rattle.interleave.specs.SearchLaws.{tried_all}
use Rattle.interleave.proofs.steps.have_none_in_common.Goals as goal

pub returns : goal.returns
returns c =
    let a = c.args.a in
    let b = c.args.b in
    tried_all a b c.all.result (cases_from_all _ _ _ (λ d. divides_both d a b ≡ false) (λ d. divides_both d a b ≡ true) c.all.ensures.ran (YieldsList-from_range 2 (b + 1) (b + 1 - 2) (cc) (omega arith)) (λ x q k. search (rules, tests)) (λ x q k. search (rules, tests)))
