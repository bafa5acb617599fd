use Rattle.std.proofs.Common.{length}
use Rattle.std.specs.Iterator.Adapters.{enumerate_source, enumerate_count}
use Rattle.std.specs.Slice.Iter.{chunks_exact_rest, chunks_exact_size}
use Rattle.convolution.proofs.RegainingLaws.{Pairs, Taking}
use Rattle.convolution.proofs.convolutions.ConvolvePlainStage.regain.Given as goal

abbrev pub invariant-loop-i : goal.invariant-loop-i
invariant-loop-i l =
    record {
      pairs : Pairs l.received (chunks_exact_rest (enumerate_source l.i-iterator)) (chunks_exact_size (enumerate_source l.i-iterator)) (enumerate_count l.i-iterator);
      taken : Taking (length l.list) l.received l.list (enumerate_count l.i-iterator) l.register;
    }
