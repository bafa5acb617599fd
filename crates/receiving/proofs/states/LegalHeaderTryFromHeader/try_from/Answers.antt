use Rattle.std.proofs.Common.{refl, arith}
use Rattle.frame.proofs.Legality.{sized_is_legal}
use Rattle.frame.proofs.SoundSizes.{legal_sizes_are_sound}
use Rattle.receiving.proofs.states.LegalHeaderTryFromHeader.try_from.Goals as goal

pub invariant_of-result : goal.invariant_of-result
invariant_of-result c =
    let h = c.args.header in
    let legal = (sized_is_legal h h _ _ refl c.in_ok-size.ensures).0 in
    let s = legal_sizes_are_sound h legal in
    record { legal = legal; some = omega (arith, s.some_rows); few = s.few_rows }
