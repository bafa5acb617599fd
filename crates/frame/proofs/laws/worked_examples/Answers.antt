-- Each example is computed from the definitions.
use Rattle.std.proofs.Common.{refl}
use lib.Count.{ones, ones_in}
use Rattle.frame.proofs.laws.worked_examples.Goals as goal

pub returns : goal.returns
unfolding ones ones_in
returns c = record {
  dbpsk_2 = refl;
  robust_10 = refl;
  dbpsk_1 = (refl, refl);
  dbpsk_28_block = refl;
  dbpsk_28 = refl;
  dbpsk_29 = (refl, refl);
  d8psk_9_block = refl;
  d8psk_9 = refl;
  d8psk_10 = (refl, refl);
  tone_map_before_delimiter = (refl, refl);
  delimiter = (refl, refl);
}
