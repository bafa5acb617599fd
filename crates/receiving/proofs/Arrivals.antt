-- The rows of a frame, fed in order, are none of them refused.
use Rattle.std.proofs.Common.{◌≡◌, ℕ, ◌-◌, ◌<◌, ◌≤◌, true, ◌⊎◌, List, [], ◌∷◌, ◌++◌, length, take, drop, Some, Ok, sym, ap, ◌∙◌, subst, inl, inr, arith, length-append}
use Rattle.std.proofs.lemmas.Bool.{cases_lt}
use Rattle.stage.specs.Plain.{within}
use Rattle.frame.specs.declared.headers.Header.{Header}
use Rattle.frame.specs.Sizes.{payload_rows, row_count}
use Rattle.rows.specs.Carriers.{Silent, gathered, highest_phase, is_reference, whole_rows}
use Rattle.rows.specs.Rows.{HeaderCells, RowsOf, cells_of, header_cells, header_rows}
use Rattle.receiving.specs.Decisions.{header_decision}
use Rattle.receiving.specs.Histories.{header_told}
use Rattle.receiving.specs.Laws.{NoneRefused, Tells}
use Rattle.receiving.specs.Steps.{fed}
use Rattle.receiving.proofs.Completes.{frame_decides, last_row_refers}
use Rattle.receiving.proofs.Counts.{Kept, all_fit, kept_more}
use Rattle.receiving.proofs.Exactness.{Exact}
use Rattle.receiving.proofs.Fitting.{phases_and_silence_fit}
use Rattle.receiving.proofs.Fronts.{all_refer, fits_at, header_of_front, phases_refer, refers_at, row_moves}
use Rattle.receiving.proofs.Holdings.{accepts, header_by, holding}
use Rattle.receiving.proofs.Nexts.{holding_heading, holding_loading}
use Rattle.receiving.proofs.RowLists.{cells_behind, cells_length, header_all, length_with_row, whole_behind, with_row}
use Rattle.receiving.proofs.Runs.{accepted_holds}
use Rattle.receiving.proofs.Tellings.{tells_next}

-- of a frame's rows the first thirteen are references
frame_refers : (exact : Exact) (reference : List ℕ) (rows : List (List ℕ)) (h : Header) (bytes : List ℕ) → is_reference reference ≡ true
    → RowsOf reference h bytes rows → all_refer (take header_rows rows) ≡ true
frame_refers exact reference rows h bytes r f =
    phases_refer header_rows rows f.whole (exact.header_phases reference (take header_cells (cells_of rows)) h r f.frame.legal_header f.header).1

-- and the others fit the header's tone map
frame_fits : (exact : Exact) (reference : List ℕ) (rows : List (List ℕ)) (h : Header) (bytes : List ℕ) → is_reference reference ≡ true
    → RowsOf reference h bytes rows → all_fit h.tm (drop header_rows rows) ≡ true
frame_fits exact reference rows h bytes r f =
    let n = f.count in
    let long = cells_length rows f.whole in
    let behind = cells_behind header_rows rows f.whole (omega arith) in
    let refers = last_row_refers exact reference (cells_of rows) h r f.frame.legal_header f.header (omega arith) in
    let phases = exact.payload_phases h bytes (cells_of rows) f.frame refers f.payload.on_live in
    phases_and_silence_fit
    h.tm
    (drop header_rows rows)
    (whole_behind header_rows rows f.whole)
    (subst (Silent h.tm) behind f.payload.elsewhere)
    (subst (λ (cells : List ℕ). within highest_phase (gathered h.tm cells) ≡ true) behind phases)

-- a front of thirteen rows or more decides for the frame's header
front_decides : (exact : Exact) (reference : List ℕ) (front rest : List (List ℕ)) (h : Header) (bytes : List ℕ) → is_reference reference ≡ true
    → RowsOf reference h bytes (front ++ rest) → whole_rows front ≡ true → header_rows ≤ length front
    → header_by reference front ≡ Ok h
front_decides exact reference front rest h bytes r f w l =
    ap (header_decision reference) (header_of_front front rest w l) ∙ (frame_decides exact reference (front ++ rest) h bytes r f).header

accepted_at : (exact : Exact) (reference : List ℕ) (front : List (List ℕ)) (row : List ℕ) (rest : List (List ℕ)) (h : Header) (bytes : List ℕ)
    → Kept reference front → RowsOf reference h bytes (front ++ row ∷ rest)
    → accepts (holding (Some reference) front) row ≡ true
accepted_at exact reference front row rest h bytes k f = of (cases_lt (length front) header_rows)
  where
    of : (length front < header_rows) ⊎ (header_rows ≤ length front) → accepts (holding (Some reference) front) row ≡ true
    of (inl l) =
        let a = frame_refers exact reference (front ++ row ∷ rest) h bytes k.under_reference f in
        ap (λ v. accepts v row) (holding_heading reference front l) ∙ refers_at header_rows front row rest a l
    of (inr l) =
        let d = front_decides exact reference front (row ∷ rest) h bytes k.under_reference f k.whole l in
        let m : length front < row_count h.fl = omega (arith, f.count, length-append front (row ∷ rest)) in
        let a = frame_fits exact reference (front ++ row ∷ rest) h bytes k.under_reference f in
        ap (λ v. accepts v row) (holding_loading reference front h l d m) ∙ fits_at header_rows h.tm front row rest a l

-- each row is answered with the rows that are missing
abbrev Answered : List ℕ → List (List ℕ) → List ℕ → Type 0
Answered reference front row = (missing : ℕ) × ((fed (holding (Some reference) front) row).1 ≡ Ok missing)

last_of_header : (exact : Exact) (reference : List ℕ) (front rest : List (List ℕ)) (h : Header) (bytes : List ℕ)
    → RowsOf reference h bytes (front ++ rest) → whole_rows front ≡ true → length front ≡ header_rows
    → HeaderCells reference h (cells_of front)
last_of_header exact reference front rest h bytes f w n =
    sym (header_all front w n) ∙ header_of_front front rest w (omega arith) ∙ f.header

answered_at : (exact : Exact) (reference : List ℕ) (front : List (List ℕ)) (row : List ℕ) (rest : List (List ℕ)) (h : Header) (bytes : List ℕ)
    → Kept reference front → RowsOf reference h bytes (front ++ row ∷ rest)
    → Answered reference front row
answered_at exact reference front row rest h bytes k f =
    let a = accepted_at exact reference front row rest h bytes k f in
    of rest f (kept_more (Some reference) front row k a) (tells_next exact reference front row k a) (cases_lt (length (with_row front row)) header_rows)
  where
    ends : (others : List (List ℕ)) → RowsOf reference h bytes (front ++ row ∷ others)
        → Tells reference (with_row front row) (fed (holding (Some reference) front) row).1 → row_count h.fl ≤ length (with_row front row)
        → Answered reference front row
    ends [] g t l = (0, t.payload_accepted h bytes g)
    ends (next ∷ others) g t l =
        absurd (omega (arith, g.count, length-append front (row ∷ next ∷ others), length_with_row front row))

    behind : (others : List (List ℕ)) → RowsOf reference h bytes (front ++ row ∷ others) → Kept reference (with_row front row)
        → Tells reference (with_row front row) (fed (holding (Some reference) front) row).1
        → header_rows < length (with_row front row)
        → (length (with_row front row) < row_count h.fl) ⊎ (row_count h.fl ≤ length (with_row front row)) → Answered reference front row
    behind others g kept t l (inr m) = ends others g t m
    behind others g kept t l (inl m) =
        let moved = subst (RowsOf reference h bytes) (sym (row_moves front row others)) g in
        let d = front_decides exact reference (with_row front row) others h bytes k.under_reference moved kept.whole (omega arith) in
        (row_count h.fl - length (with_row front row), t.missing_of_payload h (ap header_told d) l m)

    from : (others : List (List ℕ)) → RowsOf reference h bytes (front ++ row ∷ others) → Kept reference (with_row front row)
        → Tells reference (with_row front row) (fed (holding (Some reference) front) row).1
        → header_rows ≤ length (with_row front row) → (header_rows < length (with_row front row)) ⊎ (length (with_row front row) ≤ header_rows)
        → Answered reference front row
    from others g kept t l (inl m) = behind others g kept t m (cases_lt (length (with_row front row)) (row_count h.fl))
    from others g kept t l (inr m) =
        let moved = subst (RowsOf reference h bytes) (sym (row_moves front row others)) g in
        let n : length (with_row front row) ≡ header_rows = omega arith in
        (payload_rows h.fl, t.header_accepted n h g.frame.legal_header (last_of_header exact reference (with_row front row) others h bytes moved kept.whole n))

    of : (others : List (List ℕ)) → RowsOf reference h bytes (front ++ row ∷ others) → Kept reference (with_row front row)
        → Tells reference (with_row front row) (fed (holding (Some reference) front) row).1
        → (length (with_row front row) < header_rows) ⊎ (header_rows ≤ length (with_row front row)) → Answered reference front row
    of others g kept t (inl l) = (header_rows - length (with_row front row), t.missing_of_header l)
    of others g kept t (inr l) = from others g kept t l (cases_lt header_rows (length (with_row front row)))

pub rest_arrives : (exact : Exact) (reference : List ℕ) (front rest : List (List ℕ)) (h : Header) (bytes : List ℕ) → Kept reference front
    → RowsOf reference h bytes (front ++ rest) → NoneRefused (holding (Some reference) front) rest
rest_arrives exact reference front [] h bytes k f = tt
rest_arrives exact reference front (row ∷ rest) h bytes k f =
    let a = accepted_at exact reference front row rest h bytes k f in
    let moved = subst (RowsOf reference h bytes) (sym (row_moves front row rest)) f in
    let later = rest_arrives exact reference (with_row front row) rest h bytes (kept_more (Some reference) front row k a) moved in
    (answered_at exact reference front row rest h bytes k f, subst (λ v. NoneRefused v rest) (sym (accepted_holds (Some reference) front row k a)) later)
