-- What the calls of the chains tell the functions that decide.
use Rattle.std.proofs.Common.{◌≡◌, ℕ, ◌*◌, ◌≤◌, true, eqb, List, length, take, drop, Ok, Err, Option, Result, sym, refl, ap, ◌∙◌, subst, arith}
use Rattle.std.proofs.lemmas.List.{length-take, take_all}
use Rattle.std.proofs.lemmas.Bool.{and_parts, eqb-true}
use Rattle.stage.specs.declared.faults.ChainFault.{ChainFault}
use Rattle.stage.specs.declared.faults.Refusal.{Refusal as StageRefusal}
use Rattle.stage.specs.declared.faults.Refusal.TheVariants.{Fault as StageFault}
use Rattle.stage.specs.Calls.{counted}
use Rattle.stage.specs.Model.{decoding}
use Rattle.stage.specs.Plain.{within}
use Rattle.frame.specs.declared.headers.Header.{Header}
use Rattle.frame.specs.declared.refusals.Refusal.{Refusal}
use Rattle.frame.specs.Answers.{Legal, payload, refusal}
use Rattle.frame.specs.Sizes.{live_carriers, payload_rows}
use Rattle.frame.proofs.SoundSizes.{legal_sizes_are_sound}
use Rattle.packing.specs.Bits.{header_from}
use Rattle.chains.specs.declared.refusals.ChainRefusal.{ChainRefusal}
use Rattle.chains.specs.declared.refusals.ChainRefusal.TheVariants.{Stage}
use Rattle.chains.specs.Calls.{by_chain, decode_header_answer, decode_payload_answer}
use Rattle.chains.specs.Chains.{header_chain, is_row, payload_chain}
use Rattle.chains.proofs.Callers.{decode_header_answered, decode_payload_answered, decoded_is_coded, legal_is_long}
use Rattle.chains.proofs.PayloadSteps.{payload_carries}
use Rattle.rows.specs.Carriers.{gathered, is_reference}
use Rattle.rows.specs.Rows.{payload_reference}
use Rattle.rows.proofs.ChainLaws.{reference_carries, reference_parts}
use Rattle.receiving.specs.declared.refusals.FeedRefusal.{FeedRefusal}
use Rattle.receiving.specs.declared.refusals.FeedRefusal.TheVariants.{Fault}
use Rattle.receiving.specs.declared.refusals.PayloadFault.{PayloadFault}
use Rattle.receiving.specs.declared.refusals.ReceiverFault.{ReceiverFault}
use Rattle.receiving.specs.declared.states.LegalHeader.{LegalHeader}
use Rattle.receiving.specs.Decisions.{header_decision, header_unless, header_verdict, in_header, in_payload, payload_decision, payload_verdict}
use Rattle.receiving.specs.Verdicts.{Decided, Delivered, of_header, of_payload, turned}

-- Some fault is what a call refused with, and what the decoding came to.
abbrev pub FaultOf : StageRefusal → Result (List ℕ) ChainFault → Type 0
FaultOf e decoded = (f : ChainFault) × ((e ≡ StageFault f) × (decoded ≡ Err f))

abbrev pub FaultIn : ChainRefusal → Result (List ℕ) ChainFault → Type 0
FaultIn e decoded = (f : ChainFault) × ((e ≡ Stage (StageFault f)) × (decoded ≡ Err f))

counted_fault : (decoded : Result (List ℕ) ChainFault) (e : StageRefusal) → Err e ≡ counted decoded → FaultOf e decoded
counted_fault (Ok xs) e q = absurd (cc)
counted_fault (Err f) e q = (f, ((cc), refl))

chain_fault : (decoded : Result (List ℕ) ChainFault) (e : ChainRefusal) → Err e ≡ by_chain (counted decoded) → FaultIn e decoded
chain_fault (Ok xs) e q = absurd (cc)
chain_fault (Err f) e q = (f, ((cc), refl))

-- A refusal of the header chain, over a reference with cells of thirteen rows, is a fault.
pub header_fault : (reference cells : List ℕ) (work result : ℕ) (e : StageRefusal) → is_reference reference ≡ true → length cells ≡ 468 → 468 ≤ work → 468 ≤ result
    → Err e ≡ decode_header_answer reference cells work result → FaultOf e (decoding (header_chain reference) cells)
header_fault reference cells work result e r l w w' q =
    let p = reference_parts reference r in
    counted_fault
    (decoding (header_chain reference) cells)
    e
    (q ∙ decode_header_answered reference cells work result p.0 p.1 l w w')

-- A refusal of the payload chain, over live cells as they are asked for, is a fault.
pub payload_fault : (h : Header) (reference cells : List ℕ) (work result : ℕ) (e : ChainRefusal) → Legal h → is_row (live_carriers h.tm) reference ≡ true → length cells ≡ live_carriers h.tm * payload_rows h.fl → 9072 ≤ work → 9072 ≤ result
    → Err e ≡ decode_payload_answer h reference cells work result → FaultIn e (decoding (payload_chain h reference) cells)
payload_fault h reference cells work result e t r l w w' q =
    let p = and_parts (eqb (length reference) (live_carriers h.tm)) (within 7 reference) r in
    chain_fault
    (decoding (payload_chain h reference) cells)
    e
    (q ∙ decode_payload_answered h t reference cells work result (eqb-true (length reference) (live_carriers h.tm) p.0) p.1 l w w')

-- The bits of a header are the first 28 of the buffer that they were decoded into.
pub header_decoded : (reference cells result bits : List ℕ) (n : ℕ) → is_reference reference ≡ true → decoding (header_chain reference) cells ≡ Ok (take n result) → 468 ≤ length result → length bits ≡ 28 → take 28 bits ≡ take 28 result
    → Ok bits ≡ turned of_header (decoding (header_chain reference) cells)
header_decoded reference cells result bits n r d l b same =
    let c = reference_carries reference r in
    let coded = decoded_is_coded (header_chain reference) 1 28 468 468 c (take n result) cells d in
    let long = legal_is_long (header_chain reference) 1 28 468 468 c (take n result) coded.0 in
    let e : 28 ≡ n = omega (arith, length-take n result) in
    let front : bits ≡ take n result = sym (take_all 28 bits (omega arith)) ∙ same ∙ ap (λ k. take k result) e in
    sym (ap (turned of_header) d ∙ ap Ok (sym front))

-- The payload is no longer than a block, and its bytes are copied from the buffer that they were
-- decoded into.
pub payload_decoded : (h : Header) (reference cells result : List ℕ) (n : ℕ) → Legal h → is_row (live_carriers h.tm) reference ≡ true → decoding (payload_chain h reference) cells ≡ Ok (take n result) → 9072 ≤ length result → n ≤ 255
payload_decoded h reference cells result n legal r d l =
    let p = and_parts (eqb (length reference) (live_carriers h.tm)) (within 7 reference) r in
    let k = live_carriers h.tm * payload_rows h.fl in
    let c = payload_carries h legal reference (eqb-true (length reference) (live_carriers h.tm) p.0) p.1 in
    let m = payload_chain h reference in
    let coded = decoded_is_coded m 255 (payload h) k 9072 c (take n result) cells d in
    let long = legal_is_long m 255 (payload h) k 9072 c (take n result) coded.0 in
    let s = legal_sizes_are_sound h legal in
    omega (arith, length-take n result, s.whole_block, s.short_block)

pub payload_copied : (h : Header) (reference cells result bytes : List ℕ) (n : ℕ) → decoding (payload_chain h reference) cells ≡ Ok (take n result) → take n bytes ≡ take n result
    → turned of_payload (decoding (payload_chain h reference) cells) ≡ Ok (take n bytes)
payload_copied h reference cells result bytes n d same = ap (turned of_payload) d ∙ ap Ok (sym same)

pub refused_delivery : {E : Type 0} (wanted : Result (List ℕ) E) (r : Result ℕ E) (e : E) (bytes : List ℕ) → r ≡ Err e → wanted ≡ Err e → Delivered wanted r bytes
refused_delivery wanted r e bytes told q = subst (λ t. Delivered wanted t bytes) (sym told) q

-- The header's verdict by the bits, or by the fault.
turned_header : (d : Result (List ℕ) ChainFault) (f : ReceiverFault) → Err f ≡ turned in_header d → Err (Fault f) ≡ header_verdict d
turned_header (Ok xs) f q = absurd (cc)
turned_header (Err g) f q = let e : f ≡ in_header g = cc in ap (λ x. Err (Fault x)) e

told_header : (d : Result (List ℕ) ChainFault) (bits : List ℕ) → Ok bits ≡ turned in_header d → header_unless (refusal (header_from bits)) (header_from bits) ≡ header_verdict d
told_header (Ok xs) bits q = let e : bits ≡ xs = cc in ap (λ x. header_unless (refusal (header_from x)) (header_from x)) e
told_header (Err g) bits q = absurd (cc)

pub header_refused : (reference cells cells' : List ℕ) (f : ReceiverFault) (r : Result LegalHeader FeedRefusal) → cells' ≡ cells → Err f ≡ turned in_header (decoding (header_chain reference) cells') → r ≡ Err (Fault f) → Decided (header_decision reference cells) r
unfolding header_decision
header_refused reference cells cells' f r same q told =
    subst
    (Decided (header_verdict (decoding (header_chain reference) cells)))
    (sym told)
    (ap (λ c. header_verdict (decoding (header_chain reference) c)) (sym same) ∙ sym (turned_header (decoding (header_chain reference) cells') f q))

-- The verdict on the bits by the header that they hold, if it is legal or not.
pub bits_told : (reference cells cells' bits : List ℕ) (h : Header) (o : Option Refusal) → cells' ≡ cells → Ok bits ≡ turned in_header (decoding (header_chain reference) cells') → h ≡ header_from bits → refusal h ≡ o → header_decision reference cells ≡ header_unless o h
unfolding header_decision
bits_told reference cells cells' bits h o same q e r =
    sym
    (ap (λ k. header_unless k h) (sym r)
    ∙ ap (λ k. header_unless (refusal k) k) e
    ∙ told_header (decoding (header_chain reference) cells') bits q
    ∙ ap (λ c. header_verdict (decoding (header_chain reference) c)) same)

-- The payload's verdict by the bytes, or by the fault.
turned_payload : (d : Result (List ℕ) ChainFault) (f : PayloadFault) → turned of_payload d ≡ Err f → turned in_payload d ≡ Err (in_payload f.0)
turned_payload (Ok xs) f q = absurd (cc)
turned_payload (Err g) f q = let e : of_payload g ≡ f = cc in ap (λ (x : PayloadFault). Err (in_payload x.0)) e

kept_payload : (d : Result (List ℕ) ChainFault) (bytes : List ℕ) → turned of_payload d ≡ Ok bytes → turned in_payload d ≡ Ok bytes
kept_payload (Ok xs) bytes q = let e : xs ≡ bytes = cc in ap Ok e
kept_payload (Err g) bytes q = absurd (cc)

decoding_same : (h : Header) (a b a' b' : List ℕ) → a' ≡ a → b' ≡ b → decoding (payload_chain h a) b ≡ decoding (payload_chain h a') b'
decoding_same h a b a' b' p q = sym (ap (λ x. decoding (payload_chain h x) b') p ∙ ap (decoding (payload_chain h a)) q)

pub payload_refused : (h : Header) (a b a' b' : List ℕ) (f : PayloadFault) → a' ≡ a → b' ≡ b → turned of_payload (decoding (payload_chain h a') b') ≡ Err f → turned in_payload (decoding (payload_chain h a) b) ≡ Err (in_payload f.0)
payload_refused h a b a' b' f p q e =
    ap (turned in_payload) (decoding_same h a b a' b' p q) ∙ turned_payload (decoding (payload_chain h a') b') f e

pub payload_told : (h : Header) (a b a' b' bytes : List ℕ) → a' ≡ a → b' ≡ b → turned of_payload (decoding (payload_chain h a') b') ≡ Ok bytes → turned in_payload (decoding (payload_chain h a) b) ≡ Ok bytes
payload_told h a b a' b' bytes p q e =
    ap (turned in_payload) (decoding_same h a b a' b' p q) ∙ kept_payload (decoding (payload_chain h a') b') bytes e

verdict_refused : (d : Result (List ℕ) ChainFault) (f : ReceiverFault) → turned in_payload d ≡ Err f → payload_verdict d ≡ Err (Fault f)
verdict_refused (Ok xs) f q = absurd (cc)
verdict_refused (Err g) f q = let e : in_payload g ≡ f = cc in ap (λ x. Err (Fault x)) e

verdict_told : (d : Result (List ℕ) ChainFault) (bytes : List ℕ) → turned in_payload d ≡ Ok bytes → payload_verdict d ≡ Ok bytes
verdict_told (Ok xs) bytes q = let e : xs ≡ bytes = cc in ap Ok e
verdict_told (Err g) bytes q = absurd (cc)

pub decision_refused : (h : Header) (cells : List ℕ) (f : ReceiverFault) → turned in_payload (decoding (payload_chain h (payload_reference h cells)) (gathered h.tm (drop 468 cells))) ≡ Err f → payload_decision h cells ≡ Err (Fault f)
unfolding payload_decision
decision_refused h cells f q = verdict_refused (decoding (payload_chain h (payload_reference h cells)) (gathered h.tm (drop 468 cells))) f q

pub decision_told : (h : Header) (cells bytes : List ℕ) → turned in_payload (decoding (payload_chain h (payload_reference h cells)) (gathered h.tm (drop 468 cells))) ≡ Ok bytes → payload_decision h cells ≡ Ok bytes
unfolding payload_decision
decision_told h cells bytes q = verdict_told (decoding (payload_chain h (payload_reference h cells)) (gathered h.tm (drop 468 cells))) bytes q
