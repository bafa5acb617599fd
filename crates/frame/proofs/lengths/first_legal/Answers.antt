use Rattle.std.proofs.Common.{rules}
use Rattle.frame.proofs.Extremes.{first_of_run}
use Rattle.frame.proofs.lengths.first_legal.Goals as goal

pub returns : goal.returns
returns g c =
    let r = c.find_map.ensures.runs in
    (r.0, r.1, first_of_run c.args.header r.0 _ _ c.find_map.result (λ x o k. search rules) (λ a o q k. search rules) r.2)
