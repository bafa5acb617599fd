-- Each example is computed from the definitions.
use Rattle.std.proofs.Common.{refl}
use lib.Count.{ones, ones_in}
use Rattle.packing.specs.Bits.{header_bits}
use Rattle.packing.proofs.laws.packing_examples.Goals as goal

pub returns : goal.returns
unfolding header_bits ones ones_in
returns c = record {
  dbpsk_2 = refl;
  dbpsk_2_back = refl;
  robust_10 = refl;
  robust_10_back = refl;
  wrong_check = (refl, refl);
}
