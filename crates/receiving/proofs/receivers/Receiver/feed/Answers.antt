use Rattle.receiving.specs.Receivers.{view}
use Rattle.receiving.proofs.DecisionLaws.{decisions_exact}
use Rattle.receiving.proofs.HistoryLaw.{history_law}
use Rattle.receiving.proofs.LawfulCalls.{feed_is_lawful}
use Rattle.receiving.proofs.receivers.Receiver.feed.Goals as goal

pub returns : goal.returns
returns c =
    record {
      value = c.hear.ensures.value;
      after = c.hear.ensures.after;
      law = λ cs e. feed_is_lawful cs (view c.args.self.now) c.args.row.now c.hear.result (history_law decisions_exact cs) e c.hear.ensures.value;
    }
