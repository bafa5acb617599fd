-- What holds of the counted rows of any history.
use Rattle.std.proofs.Common.{◌≡◌, ℕ, ◌<◌, ◌≤◌, Bool, true, false, cond, ◌&&◌, List, [], ◌∷◌, length, drop, Some, None, Ok, Option, sym, refl, ap, ◌∙◌, subst, arith, drop_of_length-le}
use lib.Seq.{drop-append-le}
use Rattle.std.proofs.lemmas.Bool.{and_from, and_parts}
use Rattle.frame.specs.declared.headers.Header.{Header}
use Rattle.frame.specs.Sizes.{row_count}
use Rattle.rows.specs.Carriers.{is_reference, row_fits, whole_rows}
use Rattle.rows.specs.Rows.{header_rows}
use Rattle.receiving.specs.Decisions.{header_decision}
use Rattle.receiving.specs.Histories.{Call, Feed, Start, Take, counted, reference_of}
use Rattle.receiving.proofs.Holdings.{accepts, header_by, holding}
use Rattle.receiving.proofs.Nexts.{Next, in_header, in_payload, next_of}
use Rattle.receiving.proofs.RowLists.{fitting_whole, header_front, length_with_row, reference_whole, whole_with_row, with_row}
use Rattle.receiving.proofs.Views.{counts_accepts}

-- Whether each row fits a tone map.
abbrev pub all_fit : ℕ → List (List ℕ) → Bool
all_fit tm [] = true
all_fit tm (row ∷ rows) = row_fits tm row && all_fit tm rows

pub all_fit_with_row : (tm : ℕ) (rows : List (List ℕ)) (row : List ℕ) → all_fit tm rows ≡ true → row_fits tm row ≡ true → all_fit tm (with_row rows row) ≡ true
all_fit_with_row tm [] row a f = and_from (row_fits tm row) true f refl
all_fit_with_row tm (r ∷ rows) row a f =
    let parts = and_parts (row_fits tm r) (all_fit tm rows) a in
    and_from (row_fits tm r) (all_fit tm (with_row rows row)) parts.0 (all_fit_with_row tm rows row parts.1 f)

-- Counted under a reference: rows of 36 cells, behind thirteen no more than the header's frame has,
-- each of which fits the header's tone map.
pub record Kept (reference : List ℕ) (rows : List (List ℕ)) : Type 0 where
  pub under_reference : is_reference reference ≡ true
  pub whole : whole_rows rows ≡ true
  pub few : (h : Header) → header_rows ≤ length rows → header_by reference rows ≡ Ok h → length rows ≤ row_count h.fl
  pub fit : (h : Header) → header_rows ≤ length rows → header_by reference rows ≡ Ok h → all_fit h.tm (drop header_rows rows) ≡ true

abbrev pub KeptUnder : Option (List ℕ) → List (List ℕ) → Type 0
KeptUnder None rows = Unit {0}
KeptUnder (Some reference) rows = Kept reference rows

pub none_kept : (reference : List ℕ) → is_reference reference ≡ true → Kept reference []
none_kept reference r =
    record { under_reference = r; whole = refl; few = λ h l d. absurd (omega arith); fit = λ h l d. absurd (omega arith) }

-- behind thirteen, one row more leaves the header as it is
pub same_header : (reference : List ℕ) (rows : List (List ℕ)) (row : List ℕ) → whole_rows rows ≡ true → header_rows ≤ length rows
    → header_by reference (with_row rows row) ≡ header_by reference rows
same_header reference rows row w l = ap (header_decision reference) (header_front rows row w l)

kept_in_header : (reference : List ℕ) (rows : List (List ℕ)) (row : List ℕ) → Kept reference rows → length rows < header_rows
    → is_reference row ≡ true → Kept reference (with_row rows row)
kept_in_header reference rows row k l i =
    let e = length_with_row rows row in
    record {
      under_reference = k.under_reference;
      whole = whole_with_row rows row k.whole (reference_whole row i);
      few = λ h m d. omega arith;
      fit = λ h m d. ap (all_fit h.tm) (drop_of_length-le (with_row rows row) {i = header_rows} (omega arith));
    }

kept_in_payload : (reference : List ℕ) (rows : List (List ℕ)) (row : List ℕ) (g : Header) → Kept reference rows → header_rows ≤ length rows
    → header_by reference rows ≡ Ok g → length rows < row_count g.fl → row_fits g.tm row ≡ true
    → Kept reference (with_row rows row)
kept_in_payload reference rows row g k l d m i =
    let e = length_with_row rows row in
    let s = same_header reference rows row k.whole l in
    let same : (h : Header) → header_by reference (with_row rows row) ≡ Ok h → g ≡ h = λ h t. let p : Ok g ≡ Ok h = sym d ∙ sym s ∙ t in (cc) in
    record {
      under_reference = k.under_reference;
      whole = whole_with_row rows row k.whole (fitting_whole g.tm row i);
      few = λ h n t. subst (λ (x : Header). length (with_row rows row) ≤ row_count x.fl) (same h t) (omega arith);
      fit = λ h n t.
          subst (λ (x : Header). all_fit x.tm (drop header_rows (with_row rows row)) ≡ true) (same h t)
          (ap (all_fit g.tm) (drop-append-le header_rows rows (row ∷ []) l) ∙ all_fit_with_row g.tm (drop header_rows rows) row (k.fit g l d) i);
    }

pub kept_more : (o : Option (List ℕ)) (rows : List (List ℕ)) (row : List ℕ) → KeptUnder o rows → accepts (holding o rows) row ≡ true → KeptUnder o (with_row rows row)
kept_more None rows row k a = k
kept_more (Some reference) rows row k a = of (next_of reference rows row a)
  where
    of : Next reference rows row → Kept reference (with_row rows row)
    of (in_header l i) = kept_in_header reference rows row k l i
    of (in_payload h l d m i) = kept_in_payload reference rows row h k l d m i

-- the counted rows, by whether the row of a feed is accepted
pub counted_feed : (cs : List Call) (row : List ℕ)
    → counted (Feed row ∷ cs) ≡ cond (accepts (holding (reference_of cs) (counted cs)) row) (with_row (counted cs) row) (counted cs)
counted_feed cs row =
    ap (λ b. cond b (with_row (counted cs) row) (counted cs)) (counts_accepts (reference_of cs) (counted cs) row)

pub counted_is_kept : (cs : List Call) → KeptUnder (reference_of cs) (counted cs)
counted_is_kept [] = tt
counted_is_kept (Take room ∷ cs) = counted_is_kept cs
counted_is_kept (Start cells ∷ cs) = of (is_reference cells) refl (counted_is_kept cs)
  where
    of : (b : Bool) → is_reference cells ≡ b → KeptUnder (reference_of cs) (counted cs) → KeptUnder (cond b (Some cells) (reference_of cs)) (cond b [] (counted cs))
    of true i k = none_kept cells i
    of false i k = k
counted_is_kept (Feed row ∷ cs) =
    subst (KeptUnder (reference_of cs)) (sym (counted_feed cs row)) (of (accepts (holding (reference_of cs) (counted cs)) row) refl (counted_is_kept cs))
  where
    of : (b : Bool) → accepts (holding (reference_of cs) (counted cs)) row ≡ b → KeptUnder (reference_of cs) (counted cs)
        → KeptUnder (reference_of cs) (cond b (with_row (counted cs) row) (counted cs))
    of true a k = kept_more (reference_of cs) (counted cs) row k a
    of false a k = k
