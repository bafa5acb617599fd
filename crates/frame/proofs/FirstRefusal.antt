-- A header is refused with the first refusal that applies to it.
use Rattle.std.proofs.Common.{◌≤◌, IfSome, Some, None, Option, arith, MatchOption}
use Rattle.frame.specs.declared.headers.Header.{Header}
use Rattle.frame.specs.declared.refusals.Field.TheVariants.{Pdc, Mod, Fl, Tm, Dt}
use Rattle.frame.specs.declared.refusals.Refusal.{Refusal}
use Rattle.frame.specs.declared.refusals.Refusal.TheVariants.{OutOfRange, ToneMap, Reserved, BlockTooShort, BlockTooLong}
use Rattle.frame.specs.Answers.{refusal}
use Rattle.frame.specs.Laws.{Applies, First, place_of, Refused_with_the_first_that_applies}
use Rattle.std.proofs.lemmas.Bool.Decides.{nat_tests}

pub refusal_not_after : (e : Refusal) (h : Header) → Applies e h → MatchOption (refusal h) ⊥ (λ f. place_of f ≤ place_of e)
refusal_not_after (OutOfRange Pdc) h a = grind (arith, nat_tests)
refusal_not_after (OutOfRange Mod) h a = grind (arith, nat_tests)
refusal_not_after (OutOfRange Fl) h a = grind (arith, nat_tests)
refusal_not_after (OutOfRange Tm) h a = grind (arith, nat_tests)
refusal_not_after (OutOfRange Dt) h a = grind (arith, nat_tests)
refusal_not_after (ToneMap tm) h a = grind (arith, nat_tests)
refusal_not_after (Reserved dt) h a = grind (arith, nat_tests)
refusal_not_after (BlockTooShort n) h a = grind (arith, nat_tests)
refusal_not_after (BlockTooLong n) h a = grind (arith, nat_tests)

pub refusal_applies : (h : Header) → IfSome (refusal h) (λ e. Applies e h)
refusal_applies h = grind (arith, nat_tests)

combined : (o : Option Refusal) (h : Header) → ((e : Refusal) → Applies e h → MatchOption o ⊥ (λ f. place_of f ≤ place_of e)) → IfSome o (λ e. Applies e h) → MatchOption o ((e : Refusal) → Applies e h → ⊥) (λ e. First e h)
combined None h later here = later
combined (Some e) h later here = (here, later)

pub refused_with_the_first_that_applies : Refused_with_the_first_that_applies
refused_with_the_first_that_applies h = combined (refusal h) h (λ e. refusal_not_after e h) (refusal_applies h)
