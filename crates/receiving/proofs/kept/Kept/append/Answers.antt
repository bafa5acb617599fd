use Rattle.std.proofs.Common.{arith, rules}
use Rattle.receiving.proofs.KeptLaws.{front_stays_phases}
use Rattle.receiving.proofs.kept.Kept.append.Goals as goal

pub invariant_of-self : goal.invariant_of-self
invariant_of-self c =
    let k = c.args.self.now in
    record {
      few = omega arith;
      phases = front_stays_phases k.rows _ k.cells c.copy_from_slice.new.self c.args.row.now (search rules) c.requires.long (search rules) c.requires.phases k.phases;
    }
