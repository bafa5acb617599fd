-- One call on a receiver with a history is lawful.
use Rattle.std.proofs.Common.{◌≡◌, ℕ, ◌<◌, ◌≤◌, Bool, true, false, cond, ltb, ◌⊎◌, List, [], ◌∷◌, ◌++◌, length, take, drop, Some, None, Ok, Err, Option, Result, sym, refl, ap, ◌∙◌, subst, inl, inr, arith, take_at}
use Rattle.std.proofs.lemmas.Bool.{cases_lt, ltb-true}
use Rattle.frame.specs.declared.headers.Header.{Header}
use Rattle.frame.specs.Answers.{payload}
use Rattle.receiving.specs.declared.refusals.FeedRefusal.{FeedRefusal}
use Rattle.receiving.specs.declared.refusals.TakeRefusal.{TakeRefusal}
use Rattle.receiving.specs.declared.refusals.TakeRefusal.TheVariants.{NoFrame, TooShort}
use Rattle.receiving.specs.Calls.{LawfulFeed, LawfulTake, TakeMeans}
use Rattle.receiving.specs.Histories.{Answer, Call, Complete, Fed, Handed, RowsUnder, Took, counted, reference_of, run}
use Rattle.receiving.specs.Laws.{Due, Lawful, Tells}
use Rattle.receiving.specs.Steps.{View, deaf, fed, heading, loading, take_buffer, take_told, taken, whole}
use Rattle.receiving.proofs.Views.{whole_taken}

same_fed : (p q : Result ℕ FeedRefusal) → ◌≡◌ {A = Answer} (Fed p) (Fed q) → p ≡ q
same_fed p q h = cc

-- A feed on a receiver that holds what the history says is lawful.
pub feed_is_lawful : (cs : List Call) (v : View) (row : List ℕ) (told : Result ℕ FeedRefusal) → Lawful cs → v ≡ run cs → told ≡ (fed v row).1 → LawfulFeed cs row told
feed_is_lawful cs v row told lawful e t =
    let same : told ≡ (fed (run cs) row).1 = t ∙ ap (λ w. (fed w row).1) e in
    record {
      nobody_listens = λ l. same ∙ same_fed _ _ (lawful.nobody_listens row l);
      unfit_row = λ l f. same ∙ same_fed _ _ (lawful.unfit_row row l f);
      counted_row = λ reference r l f. subst (Tells reference (counted cs ++ (row ∷ []))) (sym same) (lawful.counted_row row reference r l f);
      zero_completes = λ z. lawful.zero_completes row (ap Fed (sym same ∙ z));
      completing_is_zero = λ h bytes c n. same ∙ same_fed _ _ (lawful.completing_is_zero row h bytes c n);
    }

pub same_took : (p q : Result (Header × List ℕ) TakeRefusal) → ◌≡◌ {A = Answer} (Took p) (Took q) → p ≡ q
same_took p q h = cc

-- The payload of complete rows has the header's number of bytes.
complete_long : (o : Option (List ℕ)) (h : Header) (bytes : List ℕ) (rows : List (List ℕ)) → RowsUnder o h bytes rows → length bytes ≡ payload h
complete_long None h bytes rows c = absurd c
complete_long (Some reference) h bytes rows c = c.frame.exactly

not_refused : (frame : Header × List ℕ) (e : TakeRefusal) → ◌≡◌ {A = Result (Header × List ℕ) TakeRefusal} (Ok frame) (Err e) → ⊥
not_refused frame e q = cc

refusals_differ : ◌≡◌ {A = Result (Header × List ℕ) TakeRefusal} (Err NoFrame) (Err TooShort) → ⊥
refusals_differ q = cc

-- A take that is refused for want of room is one of a whole frame.
too_short_whole : (v : View) (room : ℕ) → (taken v room).1 ≡ Err TooShort → (h : Header) × ((bytes : List ℕ) × ((v ≡ whole h bytes) × (room < length bytes)))
too_short_whole deaf room q = absurd (refusals_differ q)
too_short_whole (heading reference n cells) room q = absurd (refusals_differ q)
too_short_whole (loading h n cells) room q = absurd (refusals_differ q)
too_short_whole (whole h bytes) room q = (h, (bytes, (refl, of (ltb room (length bytes)) refl q)))
  where
    of : (b : Bool) → ltb room (length bytes) ≡ b → (cond {A = View × Result (Header × List ℕ) TakeRefusal} b (whole h bytes, Err TooShort) (deaf, Ok (h, bytes))).1 ≡ Err TooShort → room < length bytes
    of true e p = ltb-true room (length bytes) e
    of false e p = absurd (not_refused (h, bytes) TooShort p)

-- What is known of a take's answer x on a receiver with the history.
pub take_means : (cs : List Call) (room : ℕ) (x : Result (Header × List ℕ) TakeRefusal) (before after : List ℕ) → Lawful cs → (taken (run cs) room).1 ≡ x → after ≡ take_buffer x before → TakeMeans cs room (take_told x) after
take_means cs room (Ok (h, bytes)) before after lawful e b =
    subst (Due cs room h) (sym (ap (take (length bytes)) b ∙ take_at bytes (drop (length bytes) before) (length bytes) refl)) (lawful.handed_over_is_due room h bytes (ap Took e))
take_means cs room (Err NoFrame) before after lawful e b =
    λ h bytes complete unhanded.
    of h bytes complete unhanded (cases_lt room (payload h))
  where
    of : (h : Header) (bytes : List ℕ) → Complete cs h bytes → (Handed cs → ⊥) → (room < payload h) ⊎ (payload h ≤ room) → ⊥
    of h bytes complete unhanded (inl short) = refusals_differ (sym e ∙ same_took _ _ (lawful.too_little_room room h bytes complete unhanded short))
    of h bytes complete unhanded (inr enough) =
        not_refused (h, bytes) NoFrame (sym (same_took _ _ (lawful.due_is_handed_over room h bytes (record { complete = complete; room_enough = enough; not_handed = unhanded }))) ∙ e)
take_means cs room (Err TooShort) before after lawful e b =
    let w = too_short_whole (run cs) room e in
    let h = w.0 in
    let bytes = w.1.0 in
    let all : (taken (run cs) (length bytes)).1 ≡ Ok (h, bytes) = ap (λ v. (taken v (length bytes)).1) w.1.1.0 ∙ whole_taken h bytes (length bytes) (omega arith) in
    let due = lawful.handed_over_is_due (length bytes) h bytes (ap Took all) in
    let long = complete_long (reference_of cs) h bytes (counted cs) due.complete in
    let short = w.1.1.1 in
    (h, (bytes, (due.complete, (due.not_handed, omega arith))))

-- A take on a receiver that holds what the history says is lawful.
pub take_is_lawful : (cs : List Call) (v : View) (room : ℕ) (told : Result (Header × ℕ) TakeRefusal) (before after : List ℕ) → Lawful cs → v ≡ run cs
    → told ≡ take_told (taken v room).1 → after ≡ take_buffer (taken v room).1 before → LawfulTake cs room told before after
take_is_lawful cs v room told before after lawful e t b =
    let same : (taken v room).1 ≡ (taken (run cs) room).1 = ap (λ w. (taken w room).1) e in
    record {
      means = subst (λ q. TakeMeans cs room q after) (sym (t ∙ ap take_told same)) (take_means cs room (taken (run cs) room).1 before after lawful refl (b ∙ ap (λ q. take_buffer q before) same));
      due = λ h bytes d.
          let x : (taken v room).1 ≡ Ok (h, bytes) = same ∙ same_took _ _ (lawful.due_is_handed_over room h bytes d) in
          let n = complete_long (reference_of cs) h bytes (counted cs) d.complete in
          (t ∙ ap take_told x ∙ ap (λ k. Ok (h, k)) n, b ∙ ap (λ q. take_buffer q before) x ∙ ap (λ k. bytes ++ drop k before) n);
    }
