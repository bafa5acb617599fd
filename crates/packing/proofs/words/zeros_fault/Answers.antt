use Rattle.std.proofs.Common.{◌+◌, sym, ap, ◌∙◌}
use Rattle.std.specs.Option.{option_map}
use Rattle.stage.specs.Faults.{fault_at}
use Rattle.packing.specs.Packings.{padding}
use Rattle.packing.proofs.WordFaults.{difference_is}
use Rattle.packing.proofs.words.zeros_fault.Goals as goal

pub returns : goal.returns
returns c =
    ap (option_map (λ k. fault_at 1 (33 + k)))
    (sym (c.in_ok-place.was) ∙ difference_is padding c.args.zeros.now c.first_difference.result (sym c.requires) c.first_difference.ensures)
