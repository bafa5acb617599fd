use Rattle.sending.proofs.LawProofs.{begun_and_finished_holds}
use Rattle.sending.proofs.laws.begun_and_finished_rows_are_the_frames.Goals as goal

pub returns : goal.returns
returns c = record { rows = begun_and_finished_holds }
