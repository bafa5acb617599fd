use Rattle.std.proofs.Common.{◌≡◌, ℕ, ◌-◌, take, Some, None, sym, subst, ◌∙◌, arith}
use Rattle.std.proofs.lemmas.List.{length-take-le, get_or-take}
use Rattle.stage.specs.Searches.{FirstAbove}
use Rattle.codings.specs.UnpackLaws.{eights, bits_regained, no_bit_found}
use Rattle.codings.proofs.UnpackInPlace.{front_bytes}
use Rattle.codings.proofs.unpackers.UnpackBitsPlainStage.regain_front.Goals as goal

pub returns-in-Some-clause-regained : goal.returns-in-Some-clause-regained
returns-in-Some-clause-regained c =
    let n = c.args.n in
    let reach = c.args.reach in
    let long = length-take-le n c.args.res.now c.requires.front in
    let short = length-take-le reach c.args.res.now c.requires.room in
    let whole : n - 0 ≡ n = omega arith in
    let found = subst (λ (m : ℕ). FirstAbove 1 (take m c.args.res.now) (Some c.in-Some.place)) whole c.in-Some.ensures in
    no_bit_found (take n c.args.res.now) (take reach c.args.res.now) c.in-Some.place (omega (arith, long, short, eights n reach c.requires.long)) found

pub pack_front-requires : goal.pack_front-requires
pack_front-requires c =
    let n = c.args.n in
    let eight = eights n c.args.reach c.requires.long in
    let long = length-take-le n c.args.res.now c.requires.front in
    let whole : n - 0 ≡ n = omega arith in
    let bits = subst (λ (m : ℕ). FirstAbove 1 (take m c.args.res.now) None) whole c.in_default.ensures in
    record {
      room = omega (arith, eight, c.requires.front);
      bits = λ k l. omega (arith, get_or-take n c.args.res.now k 0 (omega (arith, eight)), bits k (omega (arith, eight, long)));
    }

pub returns-clause-regained : goal.returns-clause-regained
returns-clause-regained c =
    let n = c.args.n in
    let reach = c.args.reach in
    let eight = eights n reach c.requires.long in
    let long = length-take-le n c.args.res.now c.requires.front in
    let short = length-take-le reach c.pack_front.new.buffer (omega (arith, c.requires.room, c.pack_front.auto.buffer)) in
    let whole : n - 0 ≡ n = omega arith in
    let bits = subst (λ (m : ℕ). FirstAbove 1 (take m c.args.res.now) None) whole c.in_default.ensures in
    bits_regained reach (take n c.args.res.now) (take reach c.pack_front.new.buffer) short (long ∙ eight) bits (c.pack_front.ensures ∙ sym (front_bytes n reach c.args.res.now (sym eight)))
