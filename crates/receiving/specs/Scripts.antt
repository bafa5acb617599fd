-- Scripts of calls on a new receiver, the first call first, and lawful answers to them.
use Rattle.std.specs.Prelude.{◌≡◌, ℕ, ◌<◌, List, [], ◌∷◌, Ok, Err, Result}
use Rattle.frame.specs.declared.headers.Header.{Header}
use Rattle.frame.specs.Answers.{payload}
use Rattle.receiving.specs.declared.refusals.TakeRefusal.{TakeRefusal}
use Rattle.receiving.specs.declared.refusals.TakeRefusal.TheVariants.{NoFrame, TooShort}
use Rattle.receiving.specs.Calls.{LawfulFeed}
use Rattle.receiving.specs.Histories.{Answer, Call, Complete, Fed, Feed, Handed, Start, Started, Take, Took}
use Rattle.receiving.specs.Laws.{Due}
use Rattle.receiving.specs.Steps.{start_answer}

-- A take's answer with the payload's bytes means this: the frame was due; or there is none; or there is
-- one that is longer than the room.
abbrev pub TookMeans : List Call → ℕ → Result (Header × List ℕ) TakeRefusal → Type 0
TookMeans cs room (Ok frame) = Due cs room frame.0 frame.1
TookMeans cs room (Err NoFrame) = (h : Header) (bytes : List ℕ) → Complete cs h bytes → (Handed cs → ⊥) → ⊥
TookMeans cs room (Err TooShort) =
    (h : Header) × ((bytes : List ℕ) × (Complete cs h bytes × ((Handed cs → ⊥) × (room < payload h))))

-- The lawful answer to a call after a history, the latest call of it first.
abbrev pub LawfulAnswer : List Call → Call → Answer → Type 0
LawfulAnswer cs (Start cells) (Started told) = told ≡ start_answer cells
LawfulAnswer cs (Feed row) (Fed told) = LawfulFeed cs row told
LawfulAnswer cs (Take room) (Took told) =
    TookMeans cs room told × ((h : Header) (bytes : List ℕ) → Due cs room h bytes → told ≡ Ok (h, bytes))
LawfulAnswer cs (Start cells) (Fed told) = ⊥
LawfulAnswer cs (Start cells) (Took told) = ⊥
LawfulAnswer cs (Feed row) (Started told) = ⊥
LawfulAnswer cs (Feed row) (Took told) = ⊥
LawfulAnswer cs (Take room) (Started told) = ⊥
LawfulAnswer cs (Take room) (Fed told) = ⊥

-- The answers to the calls of a script are lawful, one after the other, behind a history.
abbrev pub LawfulAnswers : List Call → List Call → List Answer → Type 0
LawfulAnswers cs [] [] = Unit {0}
LawfulAnswers cs [] (a ∷ answers) = ⊥
LawfulAnswers cs (c ∷ calls) [] = ⊥
LawfulAnswers cs (c ∷ calls) (a ∷ answers) = LawfulAnswer cs c a × LawfulAnswers (c ∷ cs) calls answers
