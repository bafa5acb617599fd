use Rattle.frame.proofs.SoundSizes.{legal_sizes_are_sound}
use Rattle.frame.proofs.laws.legal_sizes_are_sound.Goals as goal

pub returns : goal.returns
returns c = legal_sizes_are_sound
