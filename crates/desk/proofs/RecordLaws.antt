-- Reading a recording row by row.
use Rattle.std.proofs.Common.{◌≡◌, ℕ, suc, ◌+◌, Bool, true, false, cond, eqb, ltb, List, Some, None, Ok, Err, Option, Result, sym, refl, ap, ◌∙◌, arith}
use Rattle.wording.specs.Cells.{row_of, with_row, with_rows}
use Rattle.receiving.specs.declared.recordings.RecordedRow.{RecordedRow}
use Rattle.receiving.specs.declared.recordings.RecordRefusal.{RecordRefusal}
use Rattle.receiving.specs.declared.recordings.RecordRefusal.TheVariants.{Short}
use Rattle.receiving.specs.Recordings.{Read, cells_left, next_count, next_row, read, shown}

-- where a row is handed out it is the next, and one more is read
handed_out : (empty short : Bool) (x y : Read) (e : RecordRefusal) (k : ℕ) → ◌≡◌ {A = Option (Result Read RecordRefusal)} (Some (Ok x)) (cond empty None (Some (cond short (Err e) (Ok y)))) → (x ≡ y) × (cond short k (k + 1) ≡ k + 1)
handed_out true short x y e k h = let z : ◌≡◌ {A = ℕ} 0 1 = cc in let w : ⊥ = omega arith in absurd w
handed_out false true x y e k h = let z : ◌≡◌ {A = ℕ} 0 1 = cc in let w : ⊥ = omega arith in absurd w
handed_out false false x y e k h = let q : x ≡ y = cc in (q, refl)

pub one_more_recorded : (front text after cells items : List ℕ) (k n : ℕ) (r : RecordedRow) → items ≡ cells → text ≡ with_rows front cells k → shown (Some (Ok r)) ≡ next_row items k → after ≡ with_row text r.cells.now → n ≡ next_count items k → after ≡ with_rows front cells n
one_more_recorded front text after cells items k n r ei et er ea en =
    let h = handed_out (eqb (cells_left items k) 0) (ltb (cells_left items k) 36) (record { number = r.number; place = r.place; cells = r.cells.now }) (read items k) (Short (cells_left items k)) k er in
    let row : r.cells.now ≡ row_of cells k = ap (λ (x : Read). x.cells) h.0 ∙ ap (λ (xs : List ℕ). row_of xs k) ei in
    let m : n ≡ suc k = omega (arith, en ∙ h.1) in
    ea ∙ ap (λ (l : List ℕ). with_row text l) row ∙ ap (λ (t : List ℕ). with_row t (row_of cells k)) et ∙ ap (with_rows front cells) (sym m)
