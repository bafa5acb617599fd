use Rattle.std.proofs.Common.{◌≡◌, ℕ, ◌+◌, ◌-◌, take, replicate, rules, refl, sym, arith}
use Rattle.std.specs.Option.{option_map}
use Rattle.std.proofs.lemmas.List.{length-replicate, length-take-le}
use Rattle.codings.specs.Fills.{filling}
use Rattle.codings.specs.FrontLaws.{front_regained}
use Rattle.codings.specs.FillLaws.{fillable_is, no_zero_found}
use Rattle.codings.proofs.fills.Fill.first_wrong.Goals as goal

pub returns : goal.returns
returns c =
    let bits = c.args.self.now.bits in
    let total = c.args.self.now.total in
    let zeros = total - bits in
    let fits = fillable_is bits total c.args.self.now.range in
    let behind = c.split_at.result.1.now in
    let place : c.map.result ≡ option_map (λ place. bits + place) c.first_above-2.result = search rules in
    let found = no_zero_found zeros behind c.first_above-2.result (omega (arith, c.requires, c.split_at.ensures.back_len)) c.first_above-2.ensures in
    front_regained
    (filling bits total)
    (λ _. replicate zeros 0)
    (λ _. refl)
    (λ _ _. refl)
    bits
    c.args.received.now
    (take bits c.args.received.now)
    c.split_at.result.0.now
    behind
    (replicate zeros 0)
    c.first_above-2.result
    c.map.result
    (length-take-le bits c.args.received.now (omega (arith, c.requires, fits.0)))
    (omega (arith, c.requires, fits.0))
    c.split_at.ensures.front
    c.split_at.ensures.back
    refl
    (sym c.split_at.ensures.front)
    c.in_default.ensures
    found
    (omega (arith, length-replicate {A = ℕ} zeros 0, c.requires))
    place
