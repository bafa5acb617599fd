-- What a feed tells whose row counts.
use Rattle.std.proofs.Common.{◌≡◌, ℕ, ◌-◌, ◌<◌, ◌≤◌, true, List, length, take, drop, Some, Ok, Err, Result, sym, refl, ap, ◌∙◌, subst, arith}
use Rattle.std.proofs.lemmas.Bool.{le-ltb, lt-ltb}
use Rattle.stage.specs.declared.faults.ChainFault.{ChainFault}
use Rattle.stage.specs.Model.{decoding}
use Rattle.frame.specs.declared.headers.Header.{Header}
use Rattle.frame.specs.declared.refusals.Refusal.{Refusal}
use Rattle.frame.specs.Answers.{refusal}
use Rattle.frame.specs.Sizes.{row_count}
use Rattle.packing.specs.Bits.{header_from}
use Rattle.chains.specs.Chains.{header_chain, payload_chain}
use Rattle.rows.specs.Carriers.{gathered}
use Rattle.rows.specs.Rows.{cells_of, header_cells, header_rows, payload_reference}
use Rattle.receiving.specs.declared.refusals.FeedRefusal.{FeedRefusal}
use Rattle.receiving.specs.declared.refusals.FeedRefusal.TheVariants.{Fault, Header as BadHeader}
use Rattle.receiving.specs.Decisions.{header_decision, header_unless, header_verdict, in_header as header_fault, in_payload as payload_fault, payload_decision, payload_verdict}
use Rattle.receiving.specs.Histories.{header_told}
use Rattle.receiving.specs.Laws.{Tells}
use Rattle.receiving.specs.Steps.{fed, headed, loaded, with_header_row, with_payload_row}
use Rattle.receiving.proofs.Completes.{frame_decides}
use Rattle.receiving.proofs.Counts.{Kept, kept_more, same_header}
use Rattle.receiving.proofs.Exactness.{Exact}
use Rattle.receiving.proofs.Holdings.{accepts, header_by, holding}
use Rattle.receiving.proofs.Nexts.{Next, decided_legal, fed_in_header, fed_in_payload, in_header, in_payload, legal_rows, next_of}
use Rattle.receiving.proofs.RowLists.{length_with_row, with_row}

-- decisions by what the chains make of the cells
faulty_header : (reference cells : List ℕ) (f : ChainFault) → decoding (header_chain reference) cells ≡ Err f
    → header_decision reference cells ≡ Err (Fault (header_fault f))
unfolding header_decision
faulty_header reference cells f e = ap header_verdict e

illegal_header : (reference cells bits : List ℕ) (e : Refusal) → decoding (header_chain reference) cells ≡ Ok bits
    → refusal (header_from bits) ≡ Some e → header_decision reference cells ≡ Err (BadHeader e)
unfolding header_decision
illegal_header reference cells bits e d r = ap header_verdict d ∙ ap (λ o. header_unless o (header_from bits)) r

faulty_payload : (h : Header) (cells : List ℕ) (f : ChainFault)
    → decoding (payload_chain h (payload_reference h cells)) (gathered h.tm (drop header_cells cells)) ≡ Err f
    → payload_decision h cells ≡ Err (Fault (payload_fault f))
unfolding payload_decision
faulty_payload h cells f e = ap payload_verdict e

-- the header that was told is the one decided for
pub told_header : (d : Result Header FeedRefusal) (h : Header) → header_told d ≡ Some h → d ≡ Ok h
told_header (Ok g) h e = let p : g ≡ h = cc in ap Ok p
told_header (Err f) h e = absurd (cc)

-- answers within a part, and at its end
missing_in_header : (reference : List ℕ) (n : ℕ) (cells : List ℕ) → n < header_rows → (with_header_row reference n cells).1 ≡ Ok (header_rows - n)
missing_in_header reference n cells l = rw (lt-ltb n header_rows l) refl

told_of_header : (reference : List ℕ) (n : ℕ) (cells : List ℕ) (d : Result Header FeedRefusal) → header_rows ≤ n → header_decision reference cells ≡ d
    → (with_header_row reference n cells).1 ≡ (headed n cells d).1
told_of_header reference n cells d l e = rw (le-ltb n header_rows l, e) refl

missing_in_payload : (h : Header) (n : ℕ) (cells : List ℕ) → n < row_count h.fl → (with_payload_row h n cells).1 ≡ Ok (row_count h.fl - n)
missing_in_payload h n cells l = rw (lt-ltb n (row_count h.fl) l) refl

told_of_payload : (h : Header) (n : ℕ) (cells : List ℕ) (d : Result (List ℕ) FeedRefusal) → row_count h.fl ≤ n → payload_decision h cells ≡ d
    → (with_payload_row h n cells).1 ≡ (loaded h d).1
told_of_payload h n cells d l e = rw (le-ltb n (row_count h.fl) l, e) refl

-- behind one of the first thirteen rows
pub tells_in_header : (exact : Exact) (reference : List ℕ) (rows : List (List ℕ)) → Kept reference rows → length rows ≤ header_rows
    → Tells reference rows (with_header_row reference (length rows) (cells_of rows)).1
tells_in_header exact reference rows k m =
    let n = length rows in
    let cells = cells_of rows in
    let r = k.under_reference in
    record {
      missing_of_header = λ l. missing_in_header reference n cells l;
      header_accepted = λ e h legal c. told_of_header reference n cells (Ok h) (omega arith) (exact.header_if reference cells h r legal c);
      header_faulty = λ e f d.
          told_of_header reference n cells (Err (Fault (header_fault f))) (omega arith) (faulty_header reference cells f d);
      header_illegal = λ e bits g d t.
          told_of_header reference n cells (Err (BadHeader g)) (omega arith) (illegal_header reference cells bits g d t);
      missing_of_payload = λ h t l s. absurd (omega arith);
      payload_accepted = λ h bytes f. absurd (omega (arith, f.count, legal_rows h f.frame.legal_header));
      payload_faulty = λ h t e f d.
          let by = told_header (header_by reference rows) h t in
          absurd (omega (arith, legal_rows h (decided_legal reference (take header_cells cells) h by)));
    }

-- behind one of the others
pub tells_in_payload : (exact : Exact) (reference : List ℕ) (rows : List (List ℕ)) (g : Header) → Kept reference rows → header_rows < length rows
    → header_by reference rows ≡ Ok g
    → Tells reference rows (with_payload_row g (length rows) (cells_of rows)).1
tells_in_payload exact reference rows g k m by =
    let n = length rows in
    let cells = cells_of rows in
    let same : (h : Header) → header_by reference rows ≡ Ok h → h ≡ g = λ h t. let p : Ok h ≡ Ok g = sym t ∙ by in (cc) in
    record {
      missing_of_header = λ l. absurd (omega arith);
      header_accepted = λ e h legal c. absurd (omega arith);
      header_faulty = λ e f d. absurd (omega arith);
      header_illegal = λ e bits h d t. absurd (omega arith);
      missing_of_payload = λ h t s l.
          subst (λ (x : Header). n < row_count x.fl → (with_payload_row g n cells).1 ≡ Ok (row_count x.fl - n)) (sym (same h (told_header (header_by reference rows) h t))) (missing_in_payload g n cells) l;
      payload_accepted = λ h bytes f.
          let d = frame_decides exact reference rows h bytes k.under_reference f in
          subst (λ (x : Header). (with_payload_row x n cells).1 ≡ Ok 0) (same h d.header) (told_of_payload h n cells (Ok bytes) d.ended d.payload);
      payload_faulty = λ h t e f d.
          subst
          (λ (x : Header). (with_payload_row x n cells).1 ≡ Err (Fault (payload_fault f)))
          (same h (told_header (header_by reference rows) h t))
          (told_of_payload h n cells (Err (Fault (payload_fault f))) (omega arith) (faulty_payload h cells f d));
    }

pub tells_next : (exact : Exact) (reference : List ℕ) (rows : List (List ℕ)) (row : List ℕ) → Kept reference rows → accepts (holding (Some reference) rows) row ≡ true
    → Tells reference (with_row rows row) (fed (holding (Some reference) rows) row).1
tells_next exact reference rows row k a = of (next_of reference rows row a)
  where
    of : Next reference rows row → Tells reference (with_row rows row) (fed (holding (Some reference) rows) row).1
    of (in_header l i) =
        let e = length_with_row rows row in
        subst
        (λ q. Tells reference (with_row rows row) q.1)
        (sym (fed_in_header reference rows row l i))
        (tells_in_header exact reference (with_row rows row) (kept_more (Some reference) rows row k a) (omega arith))
    of (in_payload h l d m i) =
        let e = length_with_row rows row in
        subst
        (λ q. Tells reference (with_row rows row) q.1)
        (sym (fed_in_payload reference rows row h l d m i))
        (tells_in_payload exact reference (with_row rows row) h (kept_more (Some reference) rows row k a) (omega arith) (same_header reference rows row k.whole l ∙ d))
