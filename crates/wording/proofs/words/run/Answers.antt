use Rattle.std.proofs.Common.{◌≡◌, ℕ, true, false, not, refl, sym, ◌∙◌, rules, tests}
use Rattle.std.specs.Bool.{beq}
use Rattle.std.proofs.lemmas.Iterator.{IsFirst-from_position, YieldsList-from_slice, index_from_first}
use Rattle.wording.specs.Words.{is_blank, run}
use Rattle.wording.proofs.WordLaws.{run_goes_on, run_is_over}
use Rattle.wording.proofs.words.run.Goals as goal

pub returns-clause-count : goal.returns-clause-count
returns-clause-count c =
    let Other : ℕ → Type 0 = λ b. not (beq (is_blank b) c.args.blanks) ≡ true in
    let Same : ℕ → Type 0 = λ b. not (beq (is_blank b) c.args.blanks) ≡ false in
    let first = IsFirst-from_position _ _ _ Other Same c.position.ensures.ran (YieldsList-from_slice c.args.text.now cc) (λ x q k. search (rules, tests)) (λ x q k. search (rules, tests)) in
    c.unwrap_or.ensures
    ∙ sym (index_from_first (run c.args.blanks) Other Same refl (run_is_over c.args.blanks) (run_goes_on c.args.blanks) c.args.text.now c.position.result first)
