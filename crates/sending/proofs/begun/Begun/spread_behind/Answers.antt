use Rattle.sending.proofs.CallLaws.{middle_written}
use Rattle.sending.proofs.begun.Begun.spread_behind.Goals as goal

pub returns : goal.returns
returns c = middle_written c.args.self.now.header c.args.given.now c.args.cells.now c.spread.new.cells c.payload_rows.result (cc) c.requires c.spread.ensures
