use Rattle.std.proofs.Common.{rules, tests, ◌≡◌, true, false, ◌∙◌}
use Rattle.std.proofs.lemmas.Iterator.{first_from_Range}
use Rattle.interleave.specs.Factors.{are_apart}
use Rattle.interleave.specs.SearchLaws.{searched}
use Rattle.interleave.proofs.steps.find_smallest.Goals as goal

pub returns-clause-found : goal.returns-clause-found
returns-clause-found c =
    let m = c.args.m in
    c.unwrap_or.ensures
    ∙ searched m c.args.start c.find.result (first_from_Range _ _ _ _ (λ k. are_apart k m ≡ true) (λ k. are_apart k m ≡ false) c.find.ensures.ran (λ x q k. search (rules, tests)) (λ x q k. search (rules, tests)))
