-- The header chain carries 28 bits in 468 cells.
use Rattle.std.proofs.Common.{refl, arith}
use Rattle.chains.proofs.CellSteps.{cells_step}
use Rattle.chains.proofs.Steps.{Step, step_plain, step_pile, Only, one_length, only_by_first, carried}
use Rattle.chains.specs.Carries.{HeaderCarries}
use Rattle.chains.specs.Chains.{header_chain, to_cells}
use Rattle.codings.specs.CheckLaws.{checking_sound}
use Rattle.codings.specs.RepeatLaws.{repetition_sound}
use Rattle.codings.specs.Checks.{checking}
use Rattle.codings.specs.Repeats.{repetition}
use Rattle.convolution.specs.NearestLaws.{convolution_sound}
use Rattle.convolution.specs.Convolutions.{convolution}
use Rattle.stage.specs.Plains.{plain_keeps}
use Rattle.stage.specs.Model.{Model, plain, pile}

abbrev checked : Model
checked = pile (plain checking) (plain convolution)

check_step : Step (plain checking) 1 1 28 33 468 1
check_step = step_plain checking 28 33 468 (plain_keeps checking checking_sound) refl (omega arith) (omega arith)

convolution_step : Step (plain convolution) 1 1 33 78 468 1
convolution_step =
    step_plain convolution 33 78 468 (plain_keeps convolution convolution_sound) refl (omega arith) (omega arith)

copies_step : Step (plain (repetition 6)) 1 1 78 468 468 1
copies_step =
    step_plain (repetition 6) 78 468 468 (plain_keeps (repetition 6) (repetition_sound 6 refl)) refl (omega arith) (omega arith)

abbrev copied : Model
copied = pile checked (plain (repetition 6))

bits_step : Step copied 1 1 28 468 468 3
bits_step =
    let near = step_pile (plain checking) (plain convolution) 1 1 1 1 28 33 78 468 1 1 check_step convolution_step (omega arith) (omega arith) in
    step_pile checked (plain (repetition 6)) 1 1 1 1 28 78 468 468 2 1 near copies_step (omega arith) (omega arith)

check_only : Only (plain checking) 28
check_only j l e = one_length j 28 33 l e

pub header_carries : HeaderCarries
unfolding header_chain
header_carries reference long phases =
    let line = to_cells 36 13 1 reference in
    let cells = cells_step 36 13 1 468 reference refl (omega arith) (omega arith) long phases in
    let whole = step_pile copied line 1 1 1 7 28 468 468 468 3 3 bits_step cells (omega arith) (omega arith) in
    let only = only_by_first copied line 28 (only_by_first checked (plain (repetition 6)) 28 (only_by_first (plain checking) (plain convolution) 28 check_only)) in
    carried (pile copied line) 1 28 468 468 6 whole only
