-- What the laws of receiving say of one call on a receiver with a history.
use Rattle.std.specs.Prelude.{◌≡◌, ℕ, ◌<◌, true, false, List, [], ◌∷◌, ◌++◌, take, drop, Some, Ok, Err, Result}
use Rattle.frame.specs.declared.headers.Header.{Header}
use Rattle.frame.specs.Answers.{payload}
use Rattle.receiving.specs.declared.refusals.FeedRefusal.{FeedRefusal}
use Rattle.receiving.specs.declared.refusals.FeedRefusal.TheVariants.{NotListening, Row}
use Rattle.receiving.specs.declared.refusals.TakeRefusal.{TakeRefusal}
use Rattle.receiving.specs.declared.refusals.TakeRefusal.TheVariants.{NoFrame, TooShort}
use Rattle.receiving.specs.Histories.{Call, Complete, Feed, Handed, counted, fits_next, listens, reference_of}
use Rattle.receiving.specs.Laws.{Due, Tells}

-- A take's answer means this: the frame that was due is in front of the buffer; or there is none; or
-- there is one, and it is longer than the room.
abbrev pub TakeMeans : List Call → ℕ → Result (Header × ℕ) TakeRefusal → List ℕ → Type 0
TakeMeans cs room (Ok told) after = Due cs room told.0 (take told.1 after)
TakeMeans cs room (Err NoFrame) after = (h : Header) (bytes : List ℕ) → Complete cs h bytes → (Handed cs → ⊥) → ⊥
TakeMeans cs room (Err TooShort) after =
    (h : Header) × ((bytes : List ℕ) × (Complete cs h bytes × ((Handed cs → ⊥) × (room < payload h))))

-- A lawful take with so much room after a history: its answer means what it says, a frame that is due
-- is handed over, and nothing behind it is written.
pub record LawfulTake (cs : List Call) (room : ℕ) (told : Result (Header × ℕ) TakeRefusal) (before after : List ℕ) : Type 0 where
  pub means : TakeMeans cs room told after
  pub due : (h : Header) (bytes : List ℕ) → Due cs room h bytes → (told ≡ Ok (h, payload h)) × (after ≡ bytes ++ drop (payload h) before)

-- A lawful feed of a row after a history.
pub record LawfulFeed (cs : List Call) (row : List ℕ) (told : Result ℕ FeedRefusal) : Type 0 where
  pub nobody_listens : listens (reference_of cs) (counted cs) ≡ false → told ≡ Err NotListening
  pub unfit_row : listens (reference_of cs) (counted cs) ≡ true → fits_next (reference_of cs) (counted cs) row ≡ false → told ≡ Err Row
  pub counted_row : (reference : List ℕ) → reference_of cs ≡ Some reference → listens (reference_of cs) (counted cs) ≡ true → fits_next (reference_of cs) (counted cs) row ≡ true → Tells reference (counted cs ++ (row ∷ [])) told
  pub zero_completes : told ≡ Ok 0 → (h : Header) × ((bytes : List ℕ) × (Complete (Feed row ∷ cs) h bytes × ((k : Header) (others : List ℕ) → Complete cs k others → ⊥)))
  pub completing_is_zero : (h : Header) (bytes : List ℕ) → Complete (Feed row ∷ cs) h bytes → ((k : Header) (others : List ℕ) → Complete cs k others → ⊥) → told ≡ Ok 0
