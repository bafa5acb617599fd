-- The answers that the steps give to a script are lawful.
use Rattle.std.proofs.Common.{◌≡◌, ℕ, ◌+◌, ◌<◌, ◌≤◌, List, [], ◌∷◌, ◌++◌, map, length, get_or, drop, Ok, Err, Result, sym, refl, ap, ◌∙◌, subst, append_assoc, append-nil}
use Rattle.std.proofs.lemmas.List.{drop_all, drop_more}
use Rattle.frame.specs.declared.headers.Header.{Header}
use Rattle.receiving.specs.declared.refusals.TakeRefusal.{TakeRefusal}
use Rattle.receiving.specs.declared.refusals.TakeRefusal.TheVariants.{NoFrame, TooShort}
use Rattle.receiving.specs.Histories.{Answer, Call, Feed, Start, Take, Took, after, answer, run}
use Rattle.receiving.specs.Laws.{Lawful}
use Rattle.receiving.specs.declared.scripts.Step.{Step}
use Rattle.receiving.specs.Playback.{answers_of, call_of}
use Rattle.receiving.specs.Scripts.{LawfulAnswer, LawfulAnswers, TookMeans}
use Rattle.receiving.specs.Steps.{View, fed, fresh, taken}
use Rattle.receiving.proofs.DecisionLaws.{decisions_exact}
use Rattle.receiving.proofs.HistoryLaw.{history_law}
use Rattle.receiving.proofs.LawfulCalls.{feed_is_lawful, same_took, take_means}

-- What the answer of a take means does not depend on the buffer.
took_means : (cs : List Call) (room : ℕ) (x : Result (Header × List ℕ) TakeRefusal) → Lawful cs → (taken (run cs) room).1 ≡ x → TookMeans cs room x
took_means cs room (Ok (h, bytes)) lawful e = lawful.handed_over_is_due room h bytes (ap Took e)
took_means cs room (Err NoFrame) lawful e = take_means cs room (Err NoFrame) [] [] lawful e refl
took_means cs room (Err TooShort) lawful e = take_means cs room (Err TooShort) [] [] lawful e refl

answer_is_lawful : (cs : List Call) (c : Call) → LawfulAnswer cs c (answer (run cs) c)
answer_is_lawful cs (Start cells) = refl
answer_is_lawful cs (Feed row) = feed_is_lawful cs (run cs) row (fed (run cs) row).1 (history_law decisions_exact cs) refl refl
answer_is_lawful cs (Take room) =
    let lawful = history_law decisions_exact cs in
    (took_means cs room (taken (run cs) room).1 lawful refl, λ h bytes due. same_took _ _ (lawful.due_is_handed_over room h bytes due))

pub answers_are_lawful : (cs calls : List Call) → LawfulAnswers cs calls (answers_of (run cs) calls)
answers_are_lawful cs [] = tt
answers_are_lawful cs (c ∷ calls) = (answer_is_lawful cs c, answers_are_lawful (c ∷ cs) calls)

-- One more step is played.
pub played_more : (script : List Step) (i : ℕ) (d : Step) (done : List Answer) (v next : View) (given : Answer) → i < length script → given ≡ answer v (call_of (get_or script i d)) → next ≡ after v (call_of (get_or script i d))
    → done ++ answers_of v (map call_of (drop i script)) ≡ answers_of fresh (map call_of script) → (done ++ given ∷ []) ++ answers_of next (map call_of (drop (i + 1) script)) ≡ answers_of fresh (map call_of script)
played_more script i d done v next given l g n e =
    append_assoc done (given ∷ []) (answers_of next (map call_of (drop (i + 1) script)))
    ∙ ap (λ q. done ++ (q ∷ answers_of next (map call_of (drop (i + 1) script)))) g
    ∙ ap (λ q. done ++ (answer v (call_of (get_or script i d)) ∷ answers_of q (map call_of (drop (i + 1) script)))) n
    ∙ ap (λ q. done ++ answers_of v (map call_of q)) (sym (drop_more script i d l))
    ∙ e

-- All steps are played.
pub played_all : (script : List Step) (i : ℕ) (done : List Answer) (v : View) → length script ≤ i → done ++ answers_of v (map call_of (drop i script)) ≡ answers_of fresh (map call_of script) → LawfulAnswers [] (map call_of script) done
played_all script i done v l e =
    let all : done ≡ answers_of fresh (map call_of script) =
    sym (append-nil done) ∙ ap (λ q. done ++ answers_of v (map call_of q)) (sym (drop_all i script l)) ∙ e in
    subst (LawfulAnswers [] (map call_of script)) (sym all) (answers_are_lawful [] (map call_of script))
