-- The payload chain of a legal header carries its payload in the live cells of its payload rows.
use Rattle.std.proofs.Common.{◌≡◌, ℕ, ◌+◌, ◌-◌, ◌*◌, ◌%◌, ◌<◌, ◌≤◌, true, cond, ◌&&◌, eqb, leb, Some, None, refl, ap, ◌∙◌, subst, arith}
use Rattle.chains.proofs.CellSteps.{cells_step}
use Rattle.chains.proofs.Steps.{Step, step_plain, step_pile, Only, one_length, only_by_first, only_by_second, carried}
use Rattle.chains.specs.Carries.{PayloadCarries}
use Rattle.chains.specs.Chains.{convolved_bits, payload_chain, to_bits, to_cells, with_copies}
use Rattle.codings.specs.FillLaws.{filling_sound}
use Rattle.codings.specs.RepeatLaws.{repetition_sound}
use Rattle.codings.specs.ScrambleLaws.{scrambling_sound}
use Rattle.codings.specs.UnpackLaws.{unpacking_sound}
use Rattle.codings.specs.Fills.{filling, fillable}
use Rattle.codings.specs.Repeats.{repetition}
use Rattle.codings.specs.Scramblers.{scrambling}
use Rattle.codings.specs.Unpackers.{unpacking}
use Rattle.convolution.specs.NearestLaws.{convolution_sound}
use Rattle.convolution.specs.Convolutions.{convolution}
use Rattle.frame.proofs.SoundSizes.{legal_sizes_are_sound}
use Rattle.frame.specs.Answers.{block, payload}
use Rattle.frame.specs.declared.headers.Header.{Header}
use Rattle.frame.specs.declared.modulations.Modulation.{Modulation}
use Rattle.frame.specs.declared.modulations.Modulation.TheVariants.{Robust, Dbpsk, Dqpsk, D8psk}
use Rattle.frame.specs.Laws.{Sound, bits}
use Rattle.frame.specs.Modulations.{modulation_of, bits_per_cell, copies, correctable}
use Rattle.frame.specs.Sizes.{live_carriers, payload_rows}
use Rattle.interleave.specs.Interleavings.{known_sizes}
use Rattle.reedsolomon.specs.WordLaws.{words_sound}
use Rattle.reedsolomon.specs.Codes.{known_strength}
use Rattle.reedsolomon.specs.Words.{words}
use Rattle.stage.specs.Plains.{plain_keeps}
use Rattle.stage.specs.Model.{Model, plain, pile}
use Rattle.std.proofs.lemmas.Nat.{mul-le}
use Rattle.std.proofs.lemmas.Bool.{and_from, le-leb, eq-eqb, cond-true}

-- the longest list of a payload chain
abbrev most : ℕ
most = 9072

-- a length up to a limit is taken
up_to : (n limit k : ℕ) → n ≤ limit → cond (leb n limit) (Some k) None ≡ Some k
up_to n limit k few = cond-true (leb n limit) (Some k) None (le-leb n limit few)

scramble_step : (n : ℕ) → n ≤ 255 → Step (plain (scrambling 0)) 255 255 n n most 1
scramble_step n few =
    step_plain (scrambling 0) n n most (plain_keeps (scrambling 0) (scrambling_sound 0)) (up_to n 255 n few) (omega arith) (omega arith)

parity_step : (t n bytes : ℕ) → known_strength t ≡ true → 1 ≤ n → n + 2 * t ≡ bytes → bytes ≤ 255 → Step (plain (words t)) 255 255 n bytes most 1
parity_step t n bytes known some whole short =
    let there = cond-true (leb 1 n && leb n (255 - 2 * t)) (Some (n + 2 * t)) None (and_from (leb 1 n) (leb n (255 - 2 * t)) (le-leb 1 n some) (le-leb n (255 - 2 * t) (omega arith))) ∙ ap Some whole in
    step_plain (words t) n bytes most (plain_keeps (words t) (words_sound t known)) there (omega arith) (omega arith)

unpack_step : (bytes : ℕ) → bytes ≤ 255 → Step (plain unpacking) 255 1 bytes (bytes * 8) most 1
unpack_step bytes short =
    step_plain unpacking bytes (bytes * 8) most (plain_keeps unpacking unpacking_sound) (up_to bytes 255 (bytes * 8) short) (omega arith) (omega arith)

convolution_step : (bytes : ℕ) → bytes ≤ 255 → Step (plain convolution) 1 1 (bytes * 8) (convolved_bits bytes) most 1
convolution_step bytes short =
    let same : 2 * (bytes * 8 + 6) ≡ convolved_bits bytes = omega arith in
    step_plain convolution (bytes * 8) (convolved_bits bytes) most (plain_keeps convolution convolution_sound) (up_to (bytes * 8) 2040 (2 * (bytes * 8 + 6)) (omega arith) ∙ ap Some same) (omega arith) (omega arith)

fill_range : (from total : ℕ) → from ≤ total → total ≤ most → fillable from total ≡ true
fill_range from total below few =
    and_from (leb from total) (leb total 9072) (le-leb from total below) (le-leb total 9072 few)

fill_step : (from total : ℕ) → from ≤ total → total ≤ most → Step (plain (filling from total)) 1 1 from total most 1
fill_step from total below few =
    step_plain (filling from total) from total most (plain_keeps (filling from total) (filling_sound from total (fill_range from total below few))) (cond-true (eqb from from) (Some total) None (eq-eqb from from refl)) (omega arith) (omega arith)

abbrev to_block : ℕ → Model
to_block t = pile (plain (scrambling 0)) (plain (words t))

abbrev convolved : Model
convolved = pile (plain unpacking) (plain convolution)

-- from bytes to the convolution's bits
block_step : (t n bytes : ℕ) → known_strength t ≡ true → 1 ≤ n → n + 2 * t ≡ bytes → bytes ≤ 255 → Step (pile (to_block t) convolved) 255 1 n (convolved_bits bytes) most 4
block_step t n bytes known some whole short =
    let near = step_pile (plain (scrambling 0)) (plain (words t)) 255 255 255 255 n n bytes most 1 1 (scramble_step n (omega arith)) (parity_step t n bytes known some whole short) (omega arith) (omega arith) in
    let far = step_pile (plain unpacking) (plain convolution) 255 1 1 1 bytes (bytes * 8) (convolved_bits bytes) most 1 1 (unpack_step bytes short) (convolution_step bytes short) (omega arith) (omega arith) in
    step_pile (to_block t) convolved 255 255 255 1 n bytes (convolved_bits bytes) most 2 2 near far (omega arith) (omega arith)

-- from bytes to coded bits
bits_step : (t n bytes total : ℕ) → known_strength t ≡ true → 1 ≤ n → n + 2 * t ≡ bytes → bytes ≤ 255 → convolved_bits bytes ≤ total → total ≤ most → Step (to_bits t bytes total) 255 1 n total most 5
bits_step t n bytes total known some whole short below few =
    step_pile (pile (to_block t) convolved) (plain (filling (convolved_bits bytes) total)) 255 1 1 1 n (convolved_bits bytes) total most 4 1 (block_step t n bytes known some whole short) (fill_step (convolved_bits bytes) total below few) (omega arith) (omega arith)

-- the fill takes one length, and so do all stages before it
bits_only : (t n bytes total : ℕ) → known_strength t ≡ true → 1 ≤ n → n + 2 * t ≡ bytes → bytes ≤ 255 → Only (to_bits t bytes total) n
bits_only t n bytes total known some whole short =
    let front = block_step t n bytes known some whole short in
    only_by_second (pile (to_block t) convolved) (plain (filling (convolved_bits bytes) total)) n (convolved_bits bytes) front.keeps front.there (λ j l e. one_length j (convolved_bits bytes) total l e)

-- how many plain stages stand behind the fill
abbrev line_stages : Modulation → ℕ
line_stages Robust = 4
line_stages Dbpsk = 3
line_stages Dqpsk = 3
line_stages D8psk = 3

-- a line that takes as many bits as there are takes them with no copies
once : (line : Model) (total sent cells : ℕ) → total * 1 ≡ sent → Step line 1 7 sent cells most 3 → Step line 1 7 total cells most 3
once line total sent cells same s =
    subst (λ (k : ℕ). Step line 1 7 k cells most 3) (omega arith) s

copies_step : (mo : Modulation) (line : Model) (total sent cells : ℕ) → total * copies mo ≡ sent → sent ≤ most → Step line 1 7 sent cells most 3 → Step (with_copies mo line) 1 7 total cells most (line_stages mo)
copies_step Robust line total sent cells same few s =
    let there = up_to total 2268 (total * 4) (omega arith) ∙ ap Some same in
    let repeated = step_plain (repetition 4) total sent most (plain_keeps (repetition 4) (repetition_sound 4 refl)) there (omega arith) few in
    step_pile (plain (repetition 4)) line 1 1 1 7 total sent cells most 1 3 repeated s (omega arith) (omega arith)
copies_step Dbpsk line total sent cells same few s = once line total sent cells same s
copies_step Dqpsk line total sent cells same few s = once line total sent cells same s
copies_step D8psk line total sent cells same few s = once line total sent cells same s

few_line_stages : (mo : Modulation) → 5 + line_stages mo ≤ 65535
few_line_stages Robust = omega arith
few_line_stages Dbpsk = omega arith
few_line_stages Dqpsk = omega arith
few_line_stages D8psk = omega arith

pub known_strengths : (mo : Modulation) → known_strength (correctable mo) ≡ true
known_strengths Robust = refl
known_strengths Dbpsk = refl
known_strengths Dqpsk = refl
known_strengths D8psk = refl

known_widths : (mo : Modulation) → (leb 1 (bits_per_cell mo) && leb (bits_per_cell mo) 3) ≡ true
known_widths Robust = refl
known_widths Dbpsk = refl
known_widths Dqpsk = refl
known_widths D8psk = refl

known_from_parts : (mo : Modulation) (m n : ℕ) → 6 ≤ m → m ≤ 36 → m % 6 ≡ 0 → 1 ≤ n → n ≤ 252 → known_sizes m n (bits_per_cell mo) ≡ true
known_from_parts mo m n low high sixes some few =
    and_from ((leb 6 m && leb m 36) && eqb (m % 6) 0) ((leb 1 n && leb n 252) && (leb 1 (bits_per_cell mo) && leb (bits_per_cell mo) 3)) (and_from (leb 6 m && leb m 36) (eqb (m % 6) 0) (and_from (leb 6 m) (leb m 36) (le-leb 6 m low) (le-leb m 36 high)) (eq-eqb (m % 6) 0 sixes)) (and_from (leb 1 n && leb n 252) (leb 1 (bits_per_cell mo) && leb (bits_per_cell mo) 3) (and_from (leb 1 n) (leb n 252) (le-leb 1 n some) (le-leb n 252 few)) (known_widths mo))

-- a robust payload's bits are no more than the cells of the longest frame; any other's are those
-- of a block
sent_few : (mo : Modulation) (p m n : ℕ) → p * copies mo ≡ m * n * bits_per_cell mo → m ≤ 36 → n ≤ 252 → p < 4108 → m * n * bits_per_cell mo ≤ most
sent_few Robust p m n filled narrow short few = omega (arith, mul-le m n 36 252 narrow short)
sent_few Dbpsk p m n filled narrow short few = omega arith
sent_few Dqpsk p m n filled narrow short few = omega arith
sent_few D8psk p m n filled narrow short few = omega arith

-- what sound sizes say of the stages
few_bits : (h : Header) → Sound h → bits h < 4108
few_bits h s = omega (arith, s.no_more_fits, s.short_block)

few_rows : (h : Header) → Sound h → payload_rows h.fl ≤ 252
few_rows h s = omega (arith, s.few_rows)

pub sound_fillable : (h : Header) → Sound h → fillable (convolved_bits (block h)) (bits h) ≡ true
sound_fillable h s = fill_range (convolved_bits (block h)) (bits h) s.block_fits (omega (arith, few_bits h s))

pub sound_known : (h : Header) → Sound h → known_sizes (live_carriers h.tm) (payload_rows h.fl) (bits_per_cell (modulation_of h.modulation)) ≡ true
sound_known h s =
    let sixes : live_carriers h.tm % 6 ≡ 0 = omega arith in
    known_from_parts (modulation_of h.modulation) (live_carriers h.tm) (payload_rows h.fl) s.some_carriers s.few_carriers sixes (omega (arith, s.some_rows)) (few_rows h s)

pub payload_carries : PayloadCarries
unfolding payload_chain
payload_carries h legal reference long phases =
    let s = legal_sizes_are_sound h legal in
    let mo = modulation_of h.modulation in
    let m = live_carriers h.tm in
    let n = payload_rows h.fl in
    let b = bits_per_cell mo in
    let t = correctable mo in
    let line = to_cells m n b reference in
    let few = sent_few mo (bits h) m n s.cells_filled s.few_carriers (few_rows h s) (few_bits h s) in
    let cells = cells_step m n b most reference (sound_known h s) few few long phases in
    let behind = copies_step mo line (bits h) (m * n * b) (m * n) s.cells_filled few cells in
    let front = bits_step t (payload h) (block h) (bits h) (known_strengths mo) s.some_payload s.whole_block s.short_block s.block_fits (omega (arith, few_bits h s)) in
    let whole = step_pile (to_bits t (block h) (bits h)) (with_copies mo line) 255 1 1 7 (payload h) (bits h) (m * n) most 5 (line_stages mo) front behind (omega arith) (few_line_stages mo) in
    let only = only_by_first (to_bits t (block h) (bits h)) (with_copies mo line) (payload h) (bits_only t (payload h) (block h) (bits h) (known_strengths mo) s.some_payload s.whole_block s.short_block) in
    carried (pile (to_bits t (block h) (bits h)) (with_copies mo line)) 255 (payload h) (m * n) most (5 + line_stages mo) whole only
