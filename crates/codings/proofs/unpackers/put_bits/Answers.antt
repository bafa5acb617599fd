use Rattle.std.proofs.Common.{arith}
use Rattle.std.proofs.lemmas.List.FromFn.{fill_by_all}
use Rattle.codings.specs.Unpackers.{bit_of}
use Rattle.codings.proofs.unpackers.put_bits.Goals as goal

pub returns : goal.returns
returns c = fill_by_all (bit_of c.args.byte) c.loop-k.eight 8 0 (omega (arith, c.requires, c.loop-k.auto.eight)) (λ k s. c.loop-k.invariant k (omega arith))
