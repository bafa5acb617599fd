-- The stages of a chain, piled up, are the chain.
use Rattle.std.proofs.Common.{◌≡◌, ℕ, ◌≤◌, Bool, true, false, cond, ◌&&◌, List, length, Ok, Err, Result, sym, refl, ap, ◌∙◌, arith}
use Rattle.chains.proofs.CellSteps.{known_row, known_width}
use Rattle.chains.proofs.PayloadSteps.{known_strengths, sound_known, sound_fillable}
use Rattle.chains.specs.Calls.{made_header_chain, made_payload_chain, payload_chain_sized}
use Rattle.chains.specs.Chains.{convolved_bits, header_chain, is_row, payload_chain, to_bits, to_cells, with_copies}
use Rattle.chains.specs.Makings.{piled, piled_bits, piled_cells, piled_header, piled_payload, repeated_first}
use Rattle.chains.specs.declared.refusals.ChainRefusal.{ChainRefusal}
use Rattle.chains.specs.declared.refusals.ChainRefusal.TheVariants.{Reference}
use Rattle.chains.specs.Meanings.{Means, PayloadChain, of_payload_chain}
use Rattle.codings.specs.Checks.{checking}
use Rattle.codings.specs.Fills.{filling, fillable, made_fill}
use Rattle.codings.specs.Repeats.{repetition}
use Rattle.codings.specs.Scramblers.{scrambling}
use Rattle.codings.specs.Unpackers.{unpacking}
use Rattle.convolution.specs.Convolutions.{convolution}
use Rattle.frame.proofs.SoundSizes.{legal_sizes_are_sound}
use Rattle.frame.specs.Answers.{Legal, block, payload, size_answer, unless_refused}
use Rattle.frame.specs.declared.headers.Header.{Header}
use Rattle.frame.specs.declared.modulations.Modulation.{Modulation}
use Rattle.frame.specs.declared.modulations.Modulation.TheVariants.{Robust, Dbpsk, Dqpsk, D8psk}
use Rattle.frame.specs.declared.refusals.Refusal.{Refusal as FrameRefusal}
use Rattle.frame.specs.Laws.{bits}
use Rattle.frame.specs.Modulations.{modulation_of, bits_per_cell, correctable}
use Rattle.frame.specs.Sizes.{live_carriers, payload_rows, row_count}
use Rattle.interleave.specs.Interleavings.{interleaving, known_sizes}
use Rattle.phases.specs.Differences.{difference, made_difference, is_reference, row_length}
use Rattle.phases.specs.Maps.{mapping, made_map}
use Rattle.reedsolomon.specs.Codes.{known_strength}
use Rattle.reedsolomon.specs.Words.{words}
use Rattle.stage.specs.declared.faults.Refusal.{Refusal}
use Rattle.stage.specs.declared.faults.Refusal.TheVariants.{Setting}
use Rattle.stage.specs.Model.{Model, plain, pile}
use Rattle.stage.specs.Plain.{within}
use Rattle.std.proofs.lemmas.Bool.{eq-eqb}
use Rattle.std.specs.Result.{result_map_both as mapped_both}

-- a stage if a test holds, and else the refusal of a setting
abbrev made_if : Bool → Model → Result Model Refusal
made_if t m = cond t (Ok m) (Err Setting)

-- a pile whose first member is made stands or falls with its second
piled_if : (a b : Model) (t : Bool) → piled (Ok a) (made_if t b) ≡ made_if t (pile a b)
piled_if a b true = refl
piled_if a b false = refl

-- a row of the right length is a reference if its cells are phases
reference_test : (reference : List ℕ) (m : ℕ) → length reference ≡ m → row_length m ≡ true → is_reference reference ≡ within 7 reference
reference_test reference m long row = ap (λ t. t && within 7 reference) (ap row_length long ∙ row)

pub row_test : (reference : List ℕ) (m : ℕ) → length reference ≡ m → is_row m reference ≡ within 7 reference
row_test reference m long = ap (λ t. t && within 7 reference) (eq-eqb (length reference) m long)

cells_made : (m n b : ℕ) (reference : List ℕ) → known_sizes m n b ≡ true → length reference ≡ m → piled_cells m n b reference ≡ made_if (within 7 reference) (to_cells m n b reference)
cells_made m n b reference known long =
    ap (λ t. piled (piled (made_if t (plain (interleaving m n b))) (made_map b)) (made_difference reference)) known
    ∙ ap (λ t. piled (piled (Ok (plain (interleaving m n b))) (made_if t (plain (mapping b)))) (made_difference reference)) (known_width m n b known)
    ∙ ap (λ t. piled (Ok (pile (plain (interleaving m n b)) (plain (mapping b)))) (made_if t (plain (difference reference)))) (reference_test reference m long (known_row m n b known))
    ∙ piled_if (pile (plain (interleaving m n b)) (plain (mapping b))) (plain (difference reference)) (within 7 reference)

pub header_made : (reference : List ℕ) → length reference ≡ 36 → piled_header reference ≡ made_header_chain reference
unfolding header_chain
header_made reference long =
    let copied = pile (pile (plain checking) (plain convolution)) (plain (repetition 6)) in
    ap (piled (Ok copied)) (cells_made 36 13 1 reference refl long)
    ∙ piled_if copied (to_cells 36 13 1 reference) (within 7 reference)
    ∙ ap (λ t. made_if t (header_chain reference)) (sym (row_test reference 36 long))

bits_made : (t bytes total : ℕ) → known_strength t ≡ true → fillable (convolved_bits bytes) total ≡ true → piled_bits t bytes total ≡ Ok (to_bits t bytes total)
bits_made t bytes total known range =
    let convolved = pile (plain unpacking) (plain convolution) in
    ap (λ u. piled (piled (piled (Ok (plain (scrambling 0))) (made_if u (plain (words t)))) (Ok convolved)) (made_fill (convolved_bits bytes) total)) known
    ∙ ap (λ u. piled (Ok (pile (pile (plain (scrambling 0)) (plain (words t))) convolved)) (made_if u (plain (filling (convolved_bits bytes) total)))) range

copies_made : (mo : Modulation) (line : Model) (t : Bool) → repeated_first mo (made_if t line) ≡ made_if t (with_copies mo line)
copies_made Robust line t = piled_if (plain (repetition 4)) line t
copies_made Dbpsk line t = refl
copies_made Dqpsk line t = refl
copies_made D8psk line t = refl

pub payload_made : (h : Header) (reference : List ℕ) → Legal h → length reference ≡ live_carriers h.tm → piled_payload (modulation_of h.modulation) (payload h) (live_carriers h.tm) (payload_rows h.fl) reference ≡ made_if (within 7 reference) (payload_chain h reference)
unfolding payload_chain
payload_made h reference legal long =
    let s = legal_sizes_are_sound h legal in
    let mo = modulation_of h.modulation in
    let m = live_carriers h.tm in
    let n = payload_rows h.fl in
    let b = bits_per_cell mo in
    let t = correctable mo in
    let front = to_bits t (block h) (bits h) in
    let line = to_cells m n b reference in
    ap (λ k. piled (piled_bits t k (bits h)) (repeated_first mo (piled_cells m n b reference))) s.whole_block
    ∙ ap (λ r. piled r (repeated_first mo (piled_cells m n b reference))) (bits_made t (block h) (bits h) (known_strengths mo) (sound_fillable h s))
    ∙ ap (λ r. piled (Ok front) (repeated_first mo r)) (cells_made m n b reference (sound_known h s) long)
    ∙ ap (piled (Ok front)) (copies_made mo line (within 7 reference))
    ∙ piled_if front (with_copies mo line) (within 7 reference)

-- what the sizes of a legal header say of the numbers that its chain is piled up by
pub sized_few : (h : Header) (bytes rows m : ℕ) → Legal h → bytes ≡ payload h → rows ≡ payload_rows h.fl → m ≡ live_carriers h.tm → (bytes ≤ 255) × (rows ≤ 252) × (m ≤ 36)
sized_few h bytes rows m legal eb er long =
    let s = legal_sizes_are_sound h legal in
    (omega (arith, s.whole_block, s.short_block), omega (arith, s.few_rows), omega (arith, s.few_carriers))

-- a reference is all that the stages of a legal header refuse
abbrev pub by_reference : Result Model Refusal → Result Model ChainRefusal
by_reference (Ok m) = Ok m
by_reference (Err e) = Err Reference

by_reference_if : (t : Bool) (m : Model) → by_reference (made_if t m) ≡ cond t (Ok m) (Err Reference)
by_reference_if true m = refl
by_reference_if false m = refl

pub payload_over_row : (h : Header) (mo : Modulation) (bytes rows : ℕ) (reference : List ℕ) → mo ≡ modulation_of h.modulation → Legal h → bytes ≡ payload h → rows ≡ payload_rows h.fl → length reference ≡ live_carriers h.tm
    → by_reference (piled_payload mo bytes (length reference) rows reference) ≡ made_payload_chain h reference
payload_over_row h mo bytes rows reference em legal eb er long =
    ap (λ k. by_reference (piled_payload k bytes (length reference) rows reference)) em
    ∙ ap (λ k. by_reference (piled_payload (modulation_of h.modulation) k (length reference) rows reference)) eb
    ∙ ap (λ k. by_reference (piled_payload (modulation_of h.modulation) (payload h) k rows reference)) long
    ∙ ap (λ k. by_reference (piled_payload (modulation_of h.modulation) (payload h) (live_carriers h.tm) k reference)) er
    ∙ ap by_reference (payload_made h reference legal long)
    ∙ by_reference_if (within 7 reference) (payload_chain h reference)
    ∙ ap (λ t. cond t (Ok (payload_chain h reference)) (Err Reference)) (sym (row_test reference (live_carriers h.tm) long))
    ∙ ap (λ o. payload_chain_sized (unless_refused o (payload h, row_count h.fl)) h reference) (sym legal)

-- a payload chain that was made means the payload chain
sized_means : (size : Result (ℕ × ℕ) FrameRefusal) (h : Header) (reference : List ℕ) (m : Model) → Ok m ≡ payload_chain_sized size h reference → m ≡ payload_chain h reference
sized_means (Err e) h reference m q = absurd (cc)
sized_means (Ok size) h reference m q = of (is_row (live_carriers h.tm) reference) q
  where
    of : (t : Bool) → ◌≡◌ {A = Result Model ChainRefusal} (Ok m) (cond t (Ok (payload_chain h reference)) (Err Reference)) → m ≡ payload_chain h reference
    of true e = cc
    of false e = absurd (cc)

pub made_means : (h : Header) (reference : List ℕ) (r : Result PayloadChain ChainRefusal) → mapped_both of_payload_chain (λ e. e) r ≡ made_payload_chain h reference → Means r (payload_chain h reference)
made_means h reference (Ok s) e = sized_means (size_answer h) h reference (of_payload_chain s) e
made_means h reference (Err x) e = tt
