-- A receiver holds a whole frame exactly if its counted rows are those of the frame.
use Rattle.std.proofs.Common.{◌≡◌, ℕ, ◌≤◌, Bool, true, false, cond, ltb, List, length, take, drop, Some, None, Ok, Err, Option, Result, sym, refl, ap, ◌∙◌, subst, arith}
use Rattle.std.proofs.lemmas.Bool.{ltb-false}
use Rattle.frame.specs.declared.headers.Header.{Header}
use Rattle.frame.specs.Answers.{Legal}
use Rattle.frame.specs.Sizes.{row_count}
use Rattle.rows.specs.Carriers.{Silent, is_reference, row_at}
use Rattle.rows.specs.Rows.{HeaderCells, RowsOf, cells_of, header_cells, header_rows, last_header_row}
use Rattle.receiving.specs.declared.refusals.FeedRefusal.{FeedRefusal}
use Rattle.receiving.specs.Decisions.{payload_decision}
use Rattle.receiving.specs.Histories.{RowsUnder}
use Rattle.receiving.specs.Steps.{heading, loaded, loading, whole}
use Rattle.receiving.proofs.Counts.{Kept, KeptUnder}
use Rattle.receiving.proofs.Exactness.{Exact}
use Rattle.receiving.proofs.Fitting.{fitting_rows_are_silent}
use Rattle.receiving.proofs.Holdings.{header_by, holding, holding_behind}
use Rattle.receiving.proofs.Nexts.{holding_whole}
use Rattle.receiving.proofs.RowLists.{cells_behind, cells_length, last_row_phases}

-- Both decisions were for this frame.
pub record Decided (reference : List ℕ) (rows : List (List ℕ)) (h : Header) (bytes : List ℕ) : Type 0 where
  pub headed : header_rows ≤ length rows
  pub header : header_by reference rows ≡ Ok h
  pub ended : row_count h.fl ≤ length rows
  pub payload : payload_decision h (cells_of rows) ≡ Ok bytes

pub decided_whole : (reference : List ℕ) (rows : List (List ℕ)) (h : Header) (bytes : List ℕ) → holding (Some reference) rows ≡ whole h bytes
    → Decided reference rows h bytes
decided_whole reference rows h bytes = of (ltb (length rows) header_rows) refl
  where
    last : (g : Header) (p : Result (List ℕ) FeedRefusal) → payload_decision g (cells_of rows) ≡ p → header_rows ≤ length rows
        → header_by reference rows ≡ Ok g → row_count g.fl ≤ length rows
        → (loaded g p).0 ≡ whole h bytes → Decided reference rows h bytes
    last g (Err e) p l d m w = absurd (cc)
    last g (Ok others) p l d m w =
        let same : g ≡ h = cc in
        let bits : others ≡ bytes = cc in
        record {
          headed = l;
          header = d ∙ ap Ok same;
          ended = subst (λ (x : Header). row_count x.fl ≤ length rows) same m;
          payload = ap (λ (x : Header). payload_decision x (cells_of rows)) (sym same) ∙ p ∙ ap Ok bits;
        }

    behind : (g : Header) (b : Bool) → ltb (length rows) (row_count g.fl) ≡ b → header_rows ≤ length rows → header_by reference rows ≡ Ok g
        → cond b (loading g (length rows) (cells_of rows)) (loaded g (payload_decision g (cells_of rows))).0 ≡ whole h bytes → Decided reference rows h bytes
    behind g true m l d w = absurd (cc)
    behind g false m l d w =
        last g (payload_decision g (cells_of rows)) refl l d (ltb-false (length rows) (row_count g.fl) m) w

    by : (d : Result Header FeedRefusal) → header_by reference rows ≡ d → header_rows ≤ length rows → holding_behind d rows ≡ whole h bytes
        → Decided reference rows h bytes
    by (Err e) d l w = absurd (cc)
    by (Ok g) d l w = behind g (ltb (length rows) (row_count g.fl)) refl l d w

    of : (b : Bool) → ltb (length rows) header_rows ≡ b
        → cond b (heading reference (length rows) (cells_of rows)) (holding_behind (header_by reference rows) rows) ≡ whole h bytes
        → Decided reference rows h bytes
    of true l w = absurd (cc)
    of false l w = by (header_by reference rows) refl (ltb-false (length rows) header_rows l) w

-- the last header row of a header's cells is a reference
pub last_row_refers : (exact : Exact) (reference cells : List ℕ) (h : Header) → is_reference reference ≡ true → Legal h
    → HeaderCells reference h (take header_cells cells) → header_cells ≤ length cells
    → is_reference (row_at last_header_row cells) ≡ true
last_row_refers exact reference cells h r legal c l =
    last_row_phases cells l (exact.header_phases reference (take header_cells cells) h r legal c).1

-- the rows of a frame decide for it
pub frame_decides : (exact : Exact) (reference : List ℕ) (rows : List (List ℕ)) (h : Header) (bytes : List ℕ) → is_reference reference ≡ true
    → RowsOf reference h bytes rows → Decided reference rows h bytes
frame_decides exact reference rows h bytes r f =
    let legal = f.frame.legal_header in
    let n = f.count in
    let long = cells_length rows f.whole in
    let refers = last_row_refers exact reference (cells_of rows) h r legal f.header (omega arith) in
    record {
      headed = omega arith;
      header = exact.header_if reference (take header_cells (cells_of rows)) h r legal f.header;
      ended = omega arith;
      payload = exact.payload_if h bytes (cells_of rows) f.frame refers f.payload.on_live;
    }

pub frame_holds : (exact : Exact) (reference : List ℕ) (rows : List (List ℕ)) (h : Header) (bytes : List ℕ) → is_reference reference ≡ true
    → RowsOf reference h bytes rows → holding (Some reference) rows ≡ whole h bytes
frame_holds exact reference rows h bytes r f =
    let d = frame_decides exact reference rows h bytes r f in
    holding_whole reference rows h bytes d.headed d.header d.ended d.payload

-- counted rows that decide for a frame are its rows
pub decided_frame : (exact : Exact) (reference : List ℕ) (rows : List (List ℕ)) (h : Header) (bytes : List ℕ) → Kept reference rows
    → Decided reference rows h bytes → RowsOf reference h bytes rows
decided_frame exact reference rows h bytes k d =
    let r = k.under_reference in
    let l = d.headed in
    let long = cells_length rows k.whole in
    let told = exact.header_only reference (take header_cells (cells_of rows)) h r d.header in
    let refers = last_row_refers exact reference (cells_of rows) h r told.0 told.1 (omega arith) in
    let back = exact.payload_only h bytes (cells_of rows) told.0 refers d.payload in
    let m = d.ended in
    let few = k.few h l d.header in
    record {
      frame = back.0;
      count = omega arith;
      whole = k.whole;
      header = told.1;
      payload = record {
        on_live = back.1;
        elsewhere = subst (Silent h.tm) (sym (cells_behind header_rows rows k.whole l)) (fitting_rows_are_silent h.tm (drop header_rows rows) (k.fit h l d.header));
      };
    }

pub complete_holds : (exact : Exact) (o : Option (List ℕ)) (rows : List (List ℕ)) (h : Header) (bytes : List ℕ) → KeptUnder o rows
    → RowsUnder o h bytes rows → holding o rows ≡ whole h bytes
complete_holds exact None rows h bytes k f = absurd f
complete_holds exact (Some reference) rows h bytes k f = frame_holds exact reference rows h bytes k.under_reference f

pub holds_complete : (exact : Exact) (o : Option (List ℕ)) (rows : List (List ℕ)) (h : Header) (bytes : List ℕ) → KeptUnder o rows
    → holding o rows ≡ whole h bytes → RowsUnder o h bytes rows
holds_complete exact None rows h bytes k w = absurd (cc)
holds_complete exact (Some reference) rows h bytes k w =
    decided_frame exact reference rows h bytes k (decided_whole reference rows h bytes w)
