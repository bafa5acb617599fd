-- Why a payload chain was not made, or a call on it was refused.
use Rattle.std.specs.Prelude.{ℕ}
use Rattle.chains.specs.declared.refusals.ChainRefusal.{ChainRefusal}
use Rattle.chains.specs.declared.refusals.ChainRefusal.TheVariants.{Header, Reference, Stage}
use Rattle.frame.specs.declared.refusals.Refusal.{Refusal as FrameRefusal}
use Rattle.frame.specs.Refusals.{number_of as frame_number}
use Rattle.stage.specs.declared.faults.Refusal.{Refusal as StageRefusal}
use Rattle.stage.specs.Faults.{number_of as stage_number}

-- A header's refusal, and a call's, as one of the chain, which carries it whole.
abbrev pub by_header : FrameRefusal → ChainRefusal
by_header e = Header e

abbrev pub by_stage : StageRefusal → ChainRefusal
by_stage e = Stage e

-- The number under which a refusal is known; a wrong reference is a setting out of range.
abbrev pub number_of : ChainRefusal → ℕ
number_of (Header e) = frame_number e
number_of Reference = 1
number_of (Stage e) = stage_number e
