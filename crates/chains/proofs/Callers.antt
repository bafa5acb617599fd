-- For callers of the chains: what their calls answer to lists of the right length.
use Rattle.std.proofs.Common.{◌≡◌, ℕ, ◌*◌, ◌≤◌, true, cond, List, length, Some, Ok, Err, Option, sym, ap, ◌∙◌, arith}
use Rattle.chains.proofs.HeaderSteps.{header_carries}
use Rattle.chains.proofs.MadeChains.{row_test}
use Rattle.chains.proofs.PayloadSteps.{payload_carries}
use Rattle.chains.specs.Calls.{by_chain, code_header_answer, code_payload_answer, decode_header_answer, decode_payload_answer, made_header_chain, made_payload_chain, on_header, on_payload, payload_chain_sized}
use Rattle.chains.specs.Carries.{Carries}
use Rattle.chains.specs.Chains.{header_chain, payload_chain}
use Rattle.chains.specs.declared.refusals.ChainRefusal.TheVariants.{Reference}
use Rattle.frame.specs.Answers.{Legal, payload, unless_refused}
use Rattle.frame.specs.declared.headers.Header.{Header}
use Rattle.frame.specs.Sizes.{live_carriers, payload_rows, row_count}
use Rattle.stage.proofs.Calling.{roomy_enough}
use Rattle.stage.specs.Legality.{legal_from_parts, legal_within}
use Rattle.stage.specs.Lists.{some_is_there}
use Rattle.stage.specs.Calls.{code_answer, counted, decode_answer}
use Rattle.stage.specs.declared.faults.Refusal.TheVariants.{Setting}
use Rattle.stage.specs.Lengths.{roomy}
use Rattle.stage.specs.Model.{Model, fits, legal, coding, decoding, coded_length, code_room, decode_room}
use Rattle.stage.specs.Plain.{within}
use Rattle.std.proofs.lemmas.Bool.{cond-true}

same_some : (m n : ℕ) → ◌≡◌ {A = Option ℕ} (Some m) (Some n) → m ≡ n
same_some m n e = cc

module _ (m : Model) (highest n k room : ℕ) (c : Carries m highest n k room) where
  -- a list of the right length and alphabet is legal, and no other is
  pub right_is_legal : (xs : List ℕ) → length xs ≡ n → within highest xs ≡ true → legal m xs ≡ true
  right_is_legal xs long low =
      legal_from_parts m xs c.fit (ap (λ t. within t xs) c.takes_to ∙ low) (some_is_there (coded_length m (length xs)) k (ap (coded_length m) long ∙ c.there))

  pub legal_is_long : (xs : List ℕ) → legal m xs ≡ true → length xs ≡ n
  legal_is_long xs l = c.only (length xs) (length (coding m xs)) (c.keeps.stated_length xs l)

  pub legal_is_low : (xs : List ℕ) → legal m xs ≡ true → within highest xs ≡ true
  legal_is_low xs l = ap (λ t. within t xs) (sym c.takes_to) ∙ legal_within m xs l

  -- its coding is k phases
  pub coding_is_long : (xs : List ℕ) → legal m xs ≡ true → length (coding m xs) ≡ k
  coding_is_long xs l =
      same_some (length (coding m xs)) k (sym (c.keeps.stated_length xs l) ∙ ap (coded_length m) (legal_is_long xs l) ∙ c.there)

  pub coding_is_phases : (xs : List ℕ) → legal m xs ≡ true → within 7 (coding m xs) ≡ true
  coding_is_phases xs l = ap (λ t. within t (coding m xs)) (sym c.puts_cells) ∙ c.keeps.stated_alphabet xs l

  -- decoding gives a list back exactly if the cells are its coding
  pub decoded_is_coded : (xs ys : List ℕ) → decoding m ys ≡ Ok xs → (legal m xs ≡ true) × (ys ≡ coding m xs)
  decoded_is_coded xs ys e = let q = c.keeps.nothing_else ys xs e in (q.is_legal, sym q.is_coding)

  pub coded_is_decoded : (xs ys : List ℕ) → legal m xs ≡ true → ys ≡ coding m xs → decoding m ys ≡ Ok xs
  coded_is_decoded xs ys l e = ap (decoding m) e ∙ c.keeps.taken_back xs l

  -- the calls with room enough
  pub code_answered : (xs : List ℕ) (work result : ℕ) → length xs ≡ n → within highest xs ≡ true → room ≤ work → room ≤ result → code_answer m xs work result ≡ Ok k
  code_answered xs work result long low to-work to-result =
      let l = right_is_legal xs long low in
      let need : code_room m (length xs) ≡ code_room m n = ap (code_room m) long in
      cond-true (fits m) _ _ c.fit
      ∙ cond-true (legal m xs) _ _ l
      ∙ cond-true (roomy (code_room m (length xs)) work result) _ _ (roomy_enough (code_room m (length xs)) work result (omega (arith, need, c.coding_room)) (omega (arith, need, c.coding_room)))
      ∙ ap Ok (coding_is_long xs l)

  pub decode_answered : (ys : List ℕ) (work result : ℕ) → length ys ≡ k → room ≤ work → room ≤ result → decode_answer m ys work result ≡ counted (decoding m ys)
  decode_answered ys work result long to-work to-result =
      let need : decode_room m (length ys) ≡ decode_room m k = ap (decode_room m) long in
      cond-true (fits m) _ _ c.fit
      ∙ cond-true (roomy (decode_room m (length ys)) work result) _ _ (roomy_enough (decode_room m (length ys)) work result (omega (arith, need, c.decoding_room)) (omega (arith, need, c.decoding_room)))

-- the chains are made over right references
pub header_chain_made : (reference : List ℕ) → length reference ≡ 36 → within 7 reference ≡ true → made_header_chain reference ≡ Ok (header_chain reference)
header_chain_made reference long phases =
    ap (λ t. cond t (Ok (header_chain reference)) (Err Setting)) (row_test reference 36 long ∙ phases)

pub payload_chain_made : (h : Header) → Legal h → (reference : List ℕ) → length reference ≡ live_carriers h.tm → within 7 reference ≡ true → made_payload_chain h reference ≡ Ok (payload_chain h reference)
payload_chain_made h legal-h reference long phases =
    ap (λ o. payload_chain_sized (unless_refused o (payload h, row_count h.fl)) h reference) legal-h
    ∙ ap (λ t. cond t (Ok (payload_chain h reference)) (Err Reference)) (row_test reference (live_carriers h.tm) long ∙ phases)

-- the four calls, with room enough
pub code_header_answered : (reference xs : List ℕ) (work result : ℕ) → length reference ≡ 36 → within 7 reference ≡ true → length xs ≡ 28 → within 1 xs ≡ true → 468 ≤ work → 468 ≤ result → code_header_answer reference xs work result ≡ Ok 468
code_header_answered reference xs work result long phases bits low to-work to-result =
    ap (λ r. on_header r (λ m. code_answer m xs work result)) (header_chain_made reference long phases)
    ∙ code_answered (header_chain reference) 1 28 468 468 (header_carries reference long phases) xs work result bits low to-work to-result

pub decode_header_answered : (reference ys : List ℕ) (work result : ℕ) → length reference ≡ 36 → within 7 reference ≡ true → length ys ≡ 468 → 468 ≤ work → 468 ≤ result → decode_header_answer reference ys work result ≡ counted (decoding (header_chain reference) ys)
decode_header_answered reference ys work result long phases cells to-work to-result =
    ap (λ r. on_header r (λ m. decode_answer m ys work result)) (header_chain_made reference long phases)
    ∙ decode_answered (header_chain reference) 1 28 468 468 (header_carries reference long phases) ys work result cells to-work to-result

pub code_payload_answered : (h : Header) → Legal h → (reference xs : List ℕ) (work result : ℕ) → length reference ≡ live_carriers h.tm → within 7 reference ≡ true → length xs ≡ payload h → within 255 xs ≡ true → 9072 ≤ work → 9072 ≤ result → code_payload_answer h reference xs work result ≡ Ok (live_carriers h.tm * payload_rows h.fl)
code_payload_answered h legal-h reference xs work result long phases bytes low to-work to-result =
    ap (λ r. on_payload r (λ m. code_answer m xs work result)) (payload_chain_made h legal-h reference long phases)
    ∙ ap by_chain (code_answered (payload_chain h reference) 255 (payload h) (live_carriers h.tm * payload_rows h.fl) 9072 (payload_carries h legal-h reference long phases) xs work result bytes low to-work to-result)

pub decode_payload_answered : (h : Header) → Legal h → (reference ys : List ℕ) (work result : ℕ) → length reference ≡ live_carriers h.tm → within 7 reference ≡ true → length ys ≡ live_carriers h.tm * payload_rows h.fl → 9072 ≤ work → 9072 ≤ result → decode_payload_answer h reference ys work result ≡ by_chain (counted (decoding (payload_chain h reference) ys))
decode_payload_answered h legal-h reference ys work result long phases cells to-work to-result =
    ap (λ r. on_payload r (λ m. decode_answer m ys work result)) (payload_chain_made h legal-h reference long phases)
    ∙ ap by_chain (decode_answered (payload_chain h reference) 255 (payload h) (live_carriers h.tm * payload_rows h.fl) 9072 (payload_carries h legal-h reference long phases) ys work result cells to-work to-result)
