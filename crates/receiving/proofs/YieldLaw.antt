-- Rows yield exactly their frame.
use Rattle.std.proofs.Common.{◌≡◌, ℕ, true, false, cond, List, [], ◌∷◌, ◌++◌, Some, Ok, Result, sym, refl, ap, ◌∙◌, subst, arith}
use Rattle.std.proofs.lemmas.List.{append-nil}
use Rattle.std.proofs.lemmas.Bool.{false≢true}
use Rattle.frame.specs.declared.headers.Header.{Header}
use Rattle.frame.specs.Answers.{payload}
use Rattle.rows.specs.Carriers.{is_reference}
use Rattle.rows.specs.Rows.{RowsOf, cells_of}
use Rattle.receiving.specs.declared.refusals.FeedRefusal.{FeedRefusal}
use Rattle.receiving.specs.Decisions.{payload_decision}
use Rattle.receiving.specs.Histories.{Call, Complete, Feed, Handed, RowsUnder, Start, counted, reference_of, run}
use Rattle.receiving.specs.Laws.{NoneRefused, Rows_yield_exactly_their_frame, Yields, fed_all}
use Rattle.receiving.specs.Steps.{fed, fresh, started, taken}
use Rattle.receiving.proofs.Arrivals.{rest_arrives}
use Rattle.receiving.proofs.Completes.{frame_decides}
use Rattle.receiving.proofs.Counts.{counted_feed, none_kept}
use Rattle.receiving.proofs.Exactness.{Exact}
use Rattle.receiving.proofs.Fronts.{row_moves}
use Rattle.receiving.proofs.Handings.{handed_tested, run_unhanded}
use Rattle.receiving.proofs.Holdings.{holding, was_handed}
use Rattle.receiving.proofs.NextAnswers.{due_is_taken, taken_is_due}
use Rattle.receiving.proofs.RowLists.{with_row}
use Rattle.receiving.proofs.Zeros.{answered_is_accepted}

-- The history of rows that were fed in order after another history.
abbrev feeds : List (List ℕ) → List Call → List Call
feeds [] cs = cs
feeds (row ∷ rows) cs = feeds rows (Feed row ∷ cs)

run_feeds : (rows : List (List ℕ)) (cs : List Call) → run (feeds rows cs) ≡ fed_all (run cs) rows
run_feeds [] cs = refl
run_feeds (row ∷ rows) cs = run_feeds rows (Feed row ∷ cs)

reference_feeds : (rows : List (List ℕ)) (cs : List Call) → reference_of (feeds rows cs) ≡ reference_of cs
reference_feeds [] cs = refl
reference_feeds (row ∷ rows) cs = reference_feeds rows (Feed row ∷ cs)

handed_feeds : (rows : List (List ℕ)) (cs : List Call) → was_handed (feeds rows cs) ≡ was_handed cs
handed_feeds [] cs = refl
handed_feeds (row ∷ rows) cs = handed_feeds rows (Feed row ∷ cs)

-- rows of which none is refused all count
answered_counts : (cs : List Call) (row : List ℕ) (n : ℕ) → was_handed cs ≡ false → (fed (run cs) row).1 ≡ Ok n → counted (Feed row ∷ cs) ≡ with_row (counted cs) row
answered_counts cs row n t e =
    let a = answered_is_accepted (holding (reference_of cs) (counted cs)) row n (sym (ap (λ v. (fed v row).1) (run_unhanded cs t)) ∙ e) in
    counted_feed cs row ∙ ap (λ b. cond b (with_row (counted cs) row) (counted cs)) a

counted_feeds : (rows : List (List ℕ)) (cs : List Call) → was_handed cs ≡ false → NoneRefused (run cs) rows → counted (feeds rows cs) ≡ counted cs ++ rows
counted_feeds [] cs t n = sym (append-nil (counted cs))
counted_feeds (row ∷ rows) cs t n =
    counted_feeds rows (Feed row ∷ cs) t n.1
    ∙ ap (λ front. front ++ rows) (answered_counts cs row n.0.0 t n.0.1)
    ∙ row_moves (counted cs) row rows

-- The history of a start and the rows.
abbrev begun : List ℕ → List Call
begun reference = Start reference ∷ []

begun_reference : (reference : List ℕ) → is_reference reference ≡ true → reference_of (begun reference) ≡ Some reference
begun_reference reference r = rw r refl

begun_counted : (reference : List ℕ) → is_reference reference ≡ true → counted (begun reference) ≡ []
begun_counted reference r = rw r refl

begun_unhanded : (reference : List ℕ) → is_reference reference ≡ true → was_handed (begun reference) ≡ false
begun_unhanded reference r = rw r refl

begun_holds : (reference : List ℕ) → is_reference reference ≡ true → started fresh reference ≡ holding (Some reference) []
begun_holds reference r = rw r refl

-- after such a history exactly the rows are counted
module _ (reference : List ℕ) (rows : List (List ℕ)) (r : is_reference reference ≡ true) (n : NoneRefused (started fresh reference) rows) where
  all_counted : counted (feeds rows (begun reference)) ≡ rows
  all_counted =
      counted_feeds rows (begun reference) (begun_unhanded reference r) n
      ∙ ap (λ front. front ++ rows) (begun_counted reference r)

  same_reference : reference_of (feeds rows (begun reference)) ≡ Some reference
  same_reference = reference_feeds rows (begun reference) ∙ begun_reference reference r

  unhanded : (exact : Exact) → Handed (feeds rows (begun reference)) → ⊥
  unhanded exact t =
      false≢true (sym (handed_feeds rows (begun reference) ∙ begun_unhanded reference r) ∙ handed_tested exact (feeds rows (begun reference)) t)

  rows_complete : (h : Header) (bytes : List ℕ) → RowsOf reference h bytes rows → Complete (feeds rows (begun reference)) h bytes
  rows_complete h bytes f =
      subst (λ o. RowsUnder o h bytes (counted (feeds rows (begun reference)))) (sym same_reference) (subst (RowsOf reference h bytes) (sym all_counted) f)

  complete_rows : (h : Header) (bytes : List ℕ) → Complete (feeds rows (begun reference)) h bytes → RowsOf reference h bytes rows
  complete_rows h bytes f =
      subst (RowsOf reference h bytes) all_counted (subst (λ o. RowsUnder o h bytes (counted (feeds rows (begun reference)))) same_reference f)

arrives : (exact : Exact) (reference : List ℕ) (rows : List (List ℕ)) (h : Header) (bytes : List ℕ) → is_reference reference ≡ true
    → RowsOf reference h bytes rows → Yields reference rows h bytes
arrives exact reference rows h bytes r f =
    let n = subst (λ v. NoneRefused v rows) (sym (begun_holds reference r)) (rest_arrives exact reference [] rows h bytes (none_kept reference r) f) in
    record {
      none_refused = n;
      hands_over = λ room l.
          ap (λ v. (taken v room).1) (sym (run_feeds rows (begun reference)))
          ∙ due_is_taken exact (feeds rows (begun reference)) room h bytes (record { complete = rows_complete reference rows r n h bytes f; room_enough = l; not_handed = unhanded reference rows r n exact });
    }

nothing_else : (exact : Exact) (reference : List ℕ) (rows : List (List ℕ)) (h : Header) (bytes : List ℕ) → is_reference reference ≡ true
    → Yields reference rows h bytes → RowsOf reference h bytes rows
nothing_else exact reference rows h bytes r y =
    let e = ap (λ v. (taken v (payload h)).1) (run_feeds rows (begun reference)) ∙ y.hands_over (payload h) (omega arith) in
    complete_rows
    reference
    rows
    r
    y.none_refused
    h
    bytes
    (taken_is_due exact (feeds rows (begun reference)) (payload h) h bytes e).complete

one : (exact : Exact) (reference : List ℕ) (rows : List (List ℕ)) (h k : Header) (bytes others : List ℕ) → is_reference reference ≡ true
    → RowsOf reference h bytes rows → RowsOf reference k others rows → (h ≡ k) × (bytes ≡ others)
one exact reference rows h k bytes others r f g =
    let d = frame_decides exact reference rows h bytes r f in
    let e = frame_decides exact reference rows k others r g in
    let headers : ◌≡◌ {A = Result Header FeedRefusal} (Ok h) (Ok k) = sym d.header ∙ e.header in
    let same : h ≡ k = cc in
    let payloads : ◌≡◌ {A = Result (List ℕ) FeedRefusal} (Ok bytes) (Ok others) =
    sym d.payload ∙ ap (λ (x : Header). payload_decision x (cells_of rows)) same ∙ e.payload in
    let bits : bytes ≡ others = cc in (same, bits)

pub yield_law : Exact → Rows_yield_exactly_their_frame
yield_law exact =
    record {
      frame_arrives = λ reference rows h bytes r f. arrives exact reference rows h bytes r f;
      nothing_else_arrives = λ reference rows h bytes r y. nothing_else exact reference rows h bytes r y;
      one_frame = λ reference rows h k bytes others r f g. one exact reference rows h k bytes others r f g;
    }
