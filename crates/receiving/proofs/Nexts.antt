-- The next row that counts: one of the header's or one of the payload's, and what it leads to.
use Rattle.std.proofs.Common.{◌≡◌, ℕ, ◌<◌, ◌≤◌, Bool, true, false, cond, ltb, List, length, Some, None, Ok, Err, Option, Result, refl, ap, ◌∙◌, subst, arith}
use Rattle.std.proofs.lemmas.Bool.{false≢true, le-ltb, lt-ltb, ltb-false, ltb-true}
use Rattle.stage.specs.declared.faults.ChainFault.{ChainFault}
use Rattle.stage.specs.Model.{decoding}
use Rattle.frame.specs.declared.headers.Header.{Header}
use Rattle.frame.specs.declared.refusals.Refusal.{Refusal}
use Rattle.frame.specs.Answers.{Legal, refusal}
use Rattle.frame.specs.Sizes.{row_count}
use Rattle.frame.proofs.SoundSizes.{legal_sizes_are_sound}
use Rattle.packing.specs.Bits.{header_from}
use Rattle.chains.specs.Chains.{header_chain}
use Rattle.rows.specs.Carriers.{is_reference, row_fits}
use Rattle.rows.specs.Rows.{cells_of, header_rows}
use Rattle.receiving.specs.declared.refusals.FeedRefusal.{FeedRefusal}
use Rattle.receiving.specs.Decisions.{header_decision, header_unless, header_verdict, payload_decision}
use Rattle.receiving.specs.Steps.{fed, heading, loaded, loading, whole, with_header_row, with_payload_row}
use Rattle.receiving.proofs.Holdings.{accepts, header_by, holding, holding_behind}
use Rattle.receiving.proofs.RowLists.{cells_with_row, length_with_row, with_row}

-- a header that is decided for is legal, so its frame has payload rows
unless_legal : (o : Option Refusal) (g h : Header) → refusal g ≡ o → header_unless o g ≡ Ok h → Legal h
unless_legal (Some e) g h r d = absurd (cc)
unless_legal None g h r d = let p : g ≡ h = cc in subst (λ (x : Header). refusal x ≡ None) p r

verdict_legal : (d : Result (List ℕ) ChainFault) (h : Header) → header_verdict d ≡ Ok h → Legal h
verdict_legal (Err f) h e = absurd (cc)
verdict_legal (Ok bits) h e = unless_legal (refusal (header_from bits)) (header_from bits) h refl e

pub decided_legal : (reference cells : List ℕ) (h : Header) → header_decision reference cells ≡ Ok h → Legal h
unfolding header_decision
decided_legal reference cells h e = verdict_legal (decoding (header_chain reference) cells) h e

pub legal_rows : (h : Header) → Legal h → header_rows < row_count h.fl
legal_rows h l = omega (arith, (legal_sizes_are_sound h l).some_rows)

-- what is held in each part
pub holding_heading : (reference : List ℕ) (rows : List (List ℕ)) → length rows < header_rows
    → holding (Some reference) rows ≡ heading reference (length rows) (cells_of rows)
holding_heading reference rows l = rw (lt-ltb (length rows) header_rows l) refl

pub holding_decided : (reference : List ℕ) (rows : List (List ℕ)) (h : Header) → header_rows ≤ length rows → header_by reference rows ≡ Ok h
    → holding (Some reference) rows ≡ holding_behind (Ok h) rows
holding_decided reference rows h l d = rw (le-ltb (length rows) header_rows l, d) refl

pub holding_loading : (reference : List ℕ) (rows : List (List ℕ)) (h : Header) → header_rows ≤ length rows → header_by reference rows ≡ Ok h
    → length rows < row_count h.fl
    → holding (Some reference) rows ≡ loading h (length rows) (cells_of rows)
holding_loading reference rows h l d m =
    holding_decided reference rows h l d ∙ rw (lt-ltb (length rows) (row_count h.fl) m) refl

pub holding_whole : (reference : List ℕ) (rows : List (List ℕ)) (h : Header) (bytes : List ℕ) → header_rows ≤ length rows
    → header_by reference rows ≡ Ok h → row_count h.fl ≤ length rows → payload_decision h (cells_of rows) ≡ Ok bytes
    → holding (Some reference) rows ≡ whole h bytes
holding_whole reference rows h bytes l d m p =
    holding_decided reference rows h l d ∙ rw (le-ltb (length rows) (row_count h.fl) m, p) refl

-- A row counts behind these: one of thirteen, or one behind a legal header.
pub data Next (reference : List ℕ) (rows : List (List ℕ)) (row : List ℕ) : Type 0 where
  in_header : length rows < header_rows → is_reference row ≡ true → Next reference rows row
  in_payload : (h : Header) → header_rows ≤ length rows → header_by reference rows ≡ Ok h → length rows < row_count h.fl
      → row_fits h.tm row ≡ true → Next reference rows row

loaded_accepts_none : (h : Header) (p : Result (List ℕ) FeedRefusal) (row : List ℕ) → accepts (loaded h p).0 row ≡ true → ⊥
loaded_accepts_none h (Ok bytes) row a = false≢true a
loaded_accepts_none h (Err e) row a = false≢true a

pub next_of : (reference : List ℕ) (rows : List (List ℕ)) (row : List ℕ) → accepts (holding (Some reference) rows) row ≡ true → Next reference rows row
next_of reference rows row = of (ltb (length rows) header_rows) refl
  where
    behind : (h : Header) (b : Bool) → ltb (length rows) (row_count h.fl) ≡ b → header_rows ≤ length rows → header_by reference rows ≡ Ok h
        → accepts (cond b (loading h (length rows) (cells_of rows)) (loaded h (payload_decision h (cells_of rows))).0) row ≡ true → Next reference rows row
    behind h true m l d a = in_payload h l d (ltb-true (length rows) (row_count h.fl) m) a
    behind h false m l d a = absurd (loaded_accepts_none h (payload_decision h (cells_of rows)) row a)

    by : (d : Result Header FeedRefusal) → header_by reference rows ≡ d → header_rows ≤ length rows → accepts (holding_behind d rows) row ≡ true → Next reference rows row
    by (Err e) d l a = absurd (false≢true a)
    by (Ok h) d l a = behind h (ltb (length rows) (row_count h.fl)) refl l d a

    of : (b : Bool) → ltb (length rows) header_rows ≡ b
        → accepts (cond b (heading reference (length rows) (cells_of rows)) (holding_behind (header_by reference rows) rows)) row ≡ true
        → Next reference rows row
    of true l a = in_header (ltb-true (length rows) header_rows l) a
    of false l a = by (header_by reference rows) refl (ltb-false (length rows) header_rows l) a

-- what a feed of it does
pub fed_in_header : (reference : List ℕ) (rows : List (List ℕ)) (row : List ℕ) → length rows < header_rows → is_reference row ≡ true
    → fed (holding (Some reference) rows) row ≡ with_header_row reference (length (with_row rows row)) (cells_of (with_row rows row))
fed_in_header reference rows row l i =
    ap (λ v. fed v row) (holding_heading reference rows l) ∙ rw (i, length_with_row rows row, cells_with_row rows row) refl

pub fed_in_payload : (reference : List ℕ) (rows : List (List ℕ)) (row : List ℕ) (h : Header) → header_rows ≤ length rows
    → header_by reference rows ≡ Ok h → length rows < row_count h.fl → row_fits h.tm row ≡ true
    → fed (holding (Some reference) rows) row ≡ with_payload_row h (length (with_row rows row)) (cells_of (with_row rows row))
fed_in_payload reference rows row h l d m i =
    ap (λ v. fed v row) (holding_loading reference rows h l d m)
    ∙ rw (i, length_with_row rows row, cells_with_row rows row) refl
