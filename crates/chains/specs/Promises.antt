-- Piles keep the promise where their members do.
use Rattle.std.specs.Prelude.{◌≡◌, true, take}
use Rattle.chains.specs.declared.choices.Choice.{Choice}
use Rattle.chains.specs.declared.choices.Choice.TheVariants.{First, Second}
use Rattle.chains.specs.Makings.{of_bits, of_cells, of_line}
use Rattle.codings.specs.FillLaws.{filling_sound}
use Rattle.codings.specs.RepeatLaws.{repetition_sound}
use Rattle.codings.specs.ScrambleLaws.{scrambling_sound}
use Rattle.codings.specs.UnpackLaws.{unpacking_sound}
use Rattle.codings.specs.declared.fills.Fill.{Fill}
use Rattle.codings.specs.declared.repeats.Repeat.{Repeat}
use Rattle.codings.specs.declared.scramblers.Scramble.{Scramble}
use Rattle.codings.specs.declared.unpackers.UnpackBits.{UnpackBits}
use Rattle.codings.specs.Fills.{filling}
use Rattle.codings.specs.Meanings.{of_fill, of_repeat}
use Rattle.codings.specs.Repeats.{repetition}
use Rattle.codings.specs.Scramblers.{scrambling}
use Rattle.codings.specs.Unpackers.{unpacking}
use Rattle.convolution.specs.NearestLaws.{convolution_sound}
use Rattle.convolution.specs.Convolutions.{convolution}
use Rattle.convolution.specs.declared.convolutions.Convolve.{Convolve}
use Rattle.interleave.specs.MoveLaws.{interleaving_keeps}
use Rattle.interleave.specs.declared.interleavers.Interleave.{Interleave}
use Rattle.interleave.specs.Meanings.{of_interleave}
use Rattle.phases.specs.DifferenceLaws.{difference_sound}
use Rattle.phases.specs.MapLaws.{mapping_sound}
use Rattle.phases.specs.declared.differences.Difference.{Difference}
use Rattle.phases.specs.declared.maps.Map.{Map}
use Rattle.phases.specs.Differences.{difference}
use Rattle.phases.specs.Maps.{mapping}
use Rattle.phases.specs.Meanings.{of_difference, of_map}
use Rattle.reedsolomon.specs.WordLaws.{words_sound}
use Rattle.reedsolomon.specs.declared.words.ReedSolomon.{ReedSolomon}
use Rattle.reedsolomon.specs.Meanings.{of_reed_solomon}
use Rattle.reedsolomon.specs.Words.{words}
use Rattle.stage.specs.Legality.{fitting}
use Rattle.stage.specs.PilePromise.{pile_keeps}
use Rattle.stage.specs.Plains.{plain_keeps}
use Rattle.stage.specs.declared.piles.Pile.{Pile}
use Rattle.stage.specs.Model.{Model, plain, pile, fits}
use Rattle.stage.specs.Plain.{Plain}
use Rattle.stage.specs.Promise.{Promise}
use Rattle.stage.specs.Sound.{Sound}

-- a stage keeps the promise if its members fit
abbrev pub Keeps : Model → Type 0
Keeps m = fits m ≡ true → Promise m

pub plain_one : (p : Plain) → Sound p → Keeps (plain p)
plain_one p sound fit = plain_keeps p sound

pub both : (a b : Model) → Keeps a → Keeps b → Keeps (pile a b)
both a b keeps-a keeps-b fit =
    let f = fitting a b fit in pile_keeps a b (keeps-a f.first) (keeps-b f.second) fit

pub cells_keep : (s : Pile (Pile Interleave Map) Difference) → Keeps (of_cells s)
cells_keep s =
    let i = s.first.first in
    let m = s.first.second in
    let d = s.second in
    let reference = take d.count d.row in
    both (pile (of_interleave i) (of_map m)) (of_difference d) (both (of_interleave i) (of_map m) (λ _. interleaving_keeps i.block.width i.block.rows i.blocks i.known) (plain_one (mapping m.bits) (mapping_sound m.bits m.width))) (plain_one (difference reference) (difference_sound reference d.legal))

pub bits_keep : (s : Pile (Pile (Pile Scramble ReedSolomon) (Pile UnpackBits Convolve)) Fill) → Keeps (of_bits s)
bits_keep s =
    let r = s.first.first.second in
    let f = s.second in
    let block = pile (plain (scrambling 0)) (of_reed_solomon r) in
    let convolved = pile (plain unpacking) (plain convolution) in
    let block_keeps = both (plain (scrambling 0)) (of_reed_solomon r) (plain_one (scrambling 0) (scrambling_sound 0)) (plain_one (words r.strength) (words_sound r.strength r.known)) in
    let convolved_keeps = both (plain unpacking) (plain convolution) (plain_one unpacking unpacking_sound) (plain_one convolution convolution_sound) in
    both (pile block convolved) (of_fill f) (both block convolved block_keeps convolved_keeps) (plain_one (filling f.bits f.total) (filling_sound f.bits f.total f.range))

pub repeat_keeps : (s : Repeat) → Keeps (of_repeat s)
repeat_keeps s = plain_one (repetition s.times) (repetition_sound s.times s.known)

pub line_keeps : (s : Choice (Pile Repeat (Pile (Pile Interleave Map) Difference)) (Pile (Pile Interleave Map) Difference)) → Keeps (of_line s)
line_keeps (First p) =
    both (of_repeat p.first) (of_cells p.second) (repeat_keeps p.first) (cells_keep p.second)
line_keeps (Second p) = cells_keep p
