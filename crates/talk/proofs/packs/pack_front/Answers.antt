use Rattle.talk.proofs.PackLaws.{leaves}
use Rattle.talk.proofs.packs.pack_front.Goals as goal

pub returns : goal.returns
returns c = leaves _ _ _ _ _ c.pack.ensures.answer c.pack.ensures.buffer
