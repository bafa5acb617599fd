use Rattle.std.proofs.Common.{rules, ◌-◌, ◌/◌, ◌%◌, ◌^◌, arith}
use Rattle.packing.proofs.BitLaws.{bits_by_places, made_by_places}
use Rattle.packing.proofs.bits.bits_of.Goals as goal

pub returns : goal.returns
returns g c =
    bits_by_places g.row.WIDTH c.args.number c.from_fn.result (search rules)
    (λ k l. made_by_places _ _ (λ place. c.args.number / 2 ^ (g.row.WIDTH - 1 - place) % 2) (λ p y q called. search rules) c.from_fn.result 0 g.row.WIDTH c.from_fn.ensures.items.each k (omega arith) (omega arith))
