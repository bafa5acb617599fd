use Rattle.std.proofs.Common.{length}
use Rattle.receiving.specs.Receivers.{view}
use Rattle.receiving.proofs.DecisionLaws.{decisions_exact}
use Rattle.receiving.proofs.HistoryLaw.{history_law}
use Rattle.receiving.proofs.LawfulCalls.{take_is_lawful}
use Rattle.receiving.proofs.receivers.Receiver.take.Goals as goal

pub returns : goal.returns
returns c =
    record {
      value = c.hand_over.ensures.value;
      after = c.hand_over.ensures.after;
      buffer = c.hand_over.ensures.buffer;
      law = λ cs e.
          take_is_lawful cs (view c.args.self.now) (length c.args.out.now) c.hand_over.result c.args.out.now c.hand_over.new.out (history_law decisions_exact cs) e c.hand_over.ensures.value c.hand_over.ensures.buffer;
    }
