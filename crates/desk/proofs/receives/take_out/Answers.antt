use Rattle.desk.proofs.TakingLaws.{takes_out}
use Rattle.desk.proofs.receives.take_out.Goals as goal

pub returns : goal.returns
returns c =
    record {
      value = takes_out _ _ _ _ c.take.ensures.value c.take.ensures.buffer;
      after = c.take.ensures.after;
    }
