use Rattle.wording.proofs.WordLaws.{reads_a_word, reads_no_word}
use Rattle.wording.proofs.words.Words.next_word.Goals as goal

pub returns-then-length-eq0 : goal.returns-then-length-eq0
returns-then-length-eq0 c =
    reads_no_word _ _ _ _ c.run.ensures.count c.split_at.ensures.back c.run-length.ensures.count
    c.if-length-eq0.true

pub returns-else-length-eq0 : goal.returns-else-length-eq0
returns-else-length-eq0 c =
    reads_a_word _ _ _ _ _ _ c.run.ensures.count c.split_at.ensures.back c.run-length.ensures.count
    c.if-length-eq0.false
    c.split_at-2.ensures.front
    c.split_at-2.ensures.back
