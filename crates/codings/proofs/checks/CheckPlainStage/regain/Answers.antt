use Rattle.std.proofs.Common.{◌≡◌, ◌+◌, length, rules, refl, ap, arith}
use Rattle.std.specs.Option.{option_map}
use Rattle.codings.specs.Polynomials.{remainder}
use Rattle.codings.specs.PolynomialLaws.{length_remainder}
use Rattle.codings.specs.Checks.{message_bits, coded_bits, generator, checking}
use Rattle.codings.specs.FrontLaws.{length_is, front_regained}
use Rattle.codings.proofs.checks.CheckPlainStage.regain.Goals as goal

pub returns : goal.returns
returns c =
    let lengths = length_is coded_bits message_bits (length c.args.received.now) (length c.args.list.now) c.requires in
    let place : c.map.result ≡ option_map (λ place. message_bits + place) c.first_difference.result = search rules in
    front_regained
    checking
    (remainder generator)
    (λ _. refl)
    (λ _ _. refl)
    message_bits
    c.args.received.now
    c.copy_from_slice.new.self
    c.split_at.result.0.now
    c.split_at.result.1.now
    c.check_of.result
    c.first_difference.result
    c.map.result
    (omega (arith, lengths.1, c.copy_from_slice.ensures.len))
    (omega (arith, lengths.0))
    c.split_at.ensures.front
    c.split_at.ensures.back
    c.check_of.ensures
    c.copy_from_slice.ensures.after
    c.in_default.ensures
    c.first_difference.ensures
    (omega (arith, ap length c.check_of.ensures, length_remainder generator c.split_at.result.0.now, lengths.0))
    place
