-- Over any history of calls a receiver loses, alters and invents nothing.
use Rattle.std.proofs.Common.{◌≡◌, ℕ, Bool, true, false, cond, List, ◌∷◌, Some, None, Ok, Option, Result, sym, refl, ap, ◌∙◌, subst}
use Rattle.std.proofs.lemmas.Bool.{false≢true, true≢false}
use Rattle.frame.specs.declared.headers.Header.{Header}
use Rattle.receiving.specs.declared.refusals.FeedRefusal.{FeedRefusal}
use Rattle.receiving.specs.declared.refusals.TakeRefusal.{TakeRefusal}
use Rattle.receiving.specs.Histories.{Call, Complete, Fed, Feed, RowsUnder, Took, counted, reference_of, run}
use Rattle.receiving.specs.Laws.{Lawful}
use Rattle.receiving.specs.Steps.{deaf, fed, taken}
use Rattle.receiving.proofs.Counts.{KeptUnder, counted_feed, counted_is_kept}
use Rattle.receiving.proofs.Exactness.{Exact}
use Rattle.receiving.proofs.Handings.{complete_by_held, held_by_complete, run_handed, run_listening, run_unhanded}
use Rattle.receiving.proofs.Holdings.{accepts, holding, was_handed}
use Rattle.receiving.proofs.NextAnswers.{due_is_taken, no_frame, not_listening, not_next, taken_is_due, tells_counted, too_short}
use Rattle.receiving.proofs.RowLists.{with_row}
use Rattle.receiving.proofs.Runs.{feed_holds}
use Rattle.receiving.proofs.Tellings.{tells_next}
use Rattle.receiving.proofs.Views.{listens_hears}
use Rattle.receiving.proofs.Zeros.{AWhole, accepting_hears, answered_is_accepted, zero_makes_whole}

-- What a feed that is answered with 0 has done.
abbrev Completed : List Call → List ℕ → Type 0
Completed cs row =
    (h : Header) × ((bytes : List ℕ) × (Complete (Feed row ∷ cs) h bytes × ((k : Header) (others : List ℕ) → Complete cs k others → ⊥)))

zero_is_completed : (exact : Exact) (cs : List Call) (row : List ℕ) → (fed (run cs) row).1 ≡ Ok 0 → Completed cs row
zero_is_completed exact cs row e = of (was_handed cs) refl
  where
    from : (fed (holding (reference_of cs) (counted cs)) row).1 ≡ Ok 0 → AWhole (fed (holding (reference_of cs) (counted cs)) row).0 → Completed cs row
    from z (h, (bytes, w)) =
        let held = ap (holding (reference_of cs)) (counted_feed cs row)
        ∙ sym (feed_holds (reference_of cs) (counted cs) row (counted_is_kept cs))
        ∙ w in
        let a = answered_is_accepted (holding (reference_of cs) (counted cs)) row 0 z in (
          h,
          (
            bytes,
            (
              complete_by_held exact (Feed row ∷ cs) h bytes held,
              λ k others f.
                  true≢false (sym a ∙ ap (λ v. accepts v row) (held_by_complete exact cs k others f)),
            ),
          ),
        )

    of : (b : Bool) → was_handed cs ≡ b → Completed cs row
    of true t =
        absurd (false≢true (answered_is_accepted deaf row 0 (sym (ap (λ v. (fed v row).1) (run_handed cs t)) ∙ e)))
    of false t =
        let z = sym (ap (λ v. (fed v row).1) (run_unhanded cs t)) ∙ e in
        from z (zero_makes_whole (reference_of cs) (counted cs) row z)

completing_under : (exact : Exact) (o : Option (List ℕ)) (rows : List (List ℕ)) (row : List ℕ) (h : Header) (bytes : List ℕ) → KeptUnder o rows
    → accepts (holding o rows) row ≡ true → RowsUnder o h bytes (with_row rows row)
    → (fed (holding o rows) row).1 ≡ Ok 0
completing_under exact None rows row h bytes k a f = absurd f
completing_under exact (Some reference) rows row h bytes k a f =
    (tells_next exact reference rows row k a).payload_accepted h bytes f

completing_is_zero_fed : (exact : Exact) (cs : List Call) (row : List ℕ) (h : Header) (bytes : List ℕ) → Complete (Feed row ∷ cs) h bytes
    → ((k : Header) (others : List ℕ) → Complete cs k others → ⊥) → (fed (run cs) row).1 ≡ Ok 0
completing_is_zero_fed exact cs row h bytes f none =
    of (accepts (holding (reference_of cs) (counted cs)) row) refl (subst (RowsUnder (reference_of cs) h bytes) (counted_feed cs row) f)
  where
    of : (b : Bool) → accepts (holding (reference_of cs) (counted cs)) row ≡ b
        → RowsUnder (reference_of cs) h bytes (cond b (with_row (counted cs) row) (counted cs)) → (fed (run cs) row).1 ≡ Ok 0
    of true a g =
        let l = listens_hears (reference_of cs) (counted cs) ∙ accepting_hears (holding (reference_of cs) (counted cs)) row a in
        ap (λ v. (fed v row).1) (run_listening cs l)
        ∙ completing_under exact (reference_of cs) (counted cs) row h bytes (counted_is_kept cs) a g
    of false a g = absurd (none h bytes g)

-- answers inside the type of all answers
took_is : (r s : Result (Header × List ℕ) TakeRefusal) → Took r ≡ Took s → r ≡ s
took_is r s e = cc

fed_is : (r s : Result ℕ FeedRefusal) → Fed r ≡ Fed s → r ≡ s
fed_is r s e = cc

pub history_law : Exact → (cs : List Call) → Lawful cs
history_law exact cs =
    record {
      handed_over_is_due = λ room h bytes e.
          taken_is_due exact cs room h bytes (took_is (taken (run cs) room).1 (Ok (h, bytes)) e);
      due_is_handed_over = λ room h bytes d. ap Took (due_is_taken exact cs room h bytes d);
      too_little_room = λ room h bytes f un l. ap Took (too_short exact cs room h bytes f un l);
      nothing_to_take = λ room n. ap Took (no_frame exact cs room n);
      nobody_listens = λ row l. ap Fed (not_listening cs row l);
      unfit_row = λ row l f. ap Fed (not_next cs row l f);
      counted_row = λ row reference e l f. tells_counted exact cs row reference e l f;
      zero_completes = λ row e. zero_is_completed exact cs row (fed_is (fed (run cs) row).1 (Ok 0) e);
      completing_is_zero = λ row h bytes f none. ap Fed (completing_is_zero_fed exact cs row h bytes f none);
      starts = λ cells. refl;
    }
