use Rattle.std.proofs.Common.{◌≡◌, sym, subst, ◌∙◌, rules}
use Rattle.std.specs.Str.Parse.{ParsesUnsigned}
use Rattle.wording.proofs.NumberLaws.{digits_no_sign, no_digits, no_text, parsed}
use Rattle.wording.proofs.numbers.number_of.Goals as goal

pub returns-then-not-all_digits : goal.returns-then-not-all_digits
returns-then-not-all_digits c = sym (no_digits c.args.word.now (sym c.all_digits.ensures ∙ c.if-not-all_digits.true))

pub returns-in_err-text : goal.returns-in_err-text
returns-in_err-text c = c.from_residual.ensures ∙ sym (no_text c.args.word.now (search rules))

pub returns : goal.returns
returns c =
    let same : c.in_ok-text.text.now ≡ c.args.word.now = search rules in
    let plain = digits_no_sign c.args.word.now (sym c.all_digits.ensures ∙ c.if-not-all_digits.false) in
    c.ok-2.ensures.value
    ∙ parsed c.args.word.now _ (subst (λ t. ParsesUnsigned 32 10 t c.parse.result) same c.parse.ensures.value.0) plain
