use Rattle.std.proofs.Common.{◌++◌, ap, ◌∙◌}
use Rattle.stage.specs.Plain.{within}
use Rattle.packing.specs.Packings.{padding}
use Rattle.packing.proofs.WordLaws.{word_bits}
use Rattle.packing.proofs.words.Word.of_header.Goals as goal

pub invariant_of-result : goal.invariant_of-result
invariant_of-result c =
    record { are_bits = ap (λ front. within 1 (front ++ padding)) (c.copy_from_slice.ensures.after ∙ c.checked_bits-checked.ensures) ∙ word_bits c.args.header }
