-- The smallest and the largest frame length that make a header legal.
use Rattle.std.specs.Prelude.{◌≡◌, ℕ, ◌+◌, ◌≤◌, true, Some, None, Option, IsSomeAnd}
use Rattle.std.specs.Iterator.Runs.{AllItems, AllItemsBelow, Run}
use Rattle.frame.specs.declared.headers.Header.{Header}
use Rattle.frame.specs.declared.lengths.LegalLength.{LegalLength}
use Rattle.frame.specs.declared.refusals.Refusal.{Refusal}
use Rattle.frame.specs.Answers.{Legal, payload, refusal}
use Rattle.frame.specs.Headers.{with_fl}

-- The length makes the header legal, and its payload is the one told.
abbrev pub Serves : Header → LegalLength → Type 0
Serves h l = Legal (with_fl h l.fl) × (l.payload ≡ payload (with_fl h l.fl))

-- The length with its payload, if no refusal applies to the header with it.
abbrev pub length_unless : Option Refusal → ℕ → ℕ → Option LegalLength
length_unless (Some e) fl n = None
length_unless None fl n = Some (record { fl = fl; payload = n })

-- The length with its payload, if it makes the header legal. Proofs open it only where they have to.
unfoldable pub legal_length : Header → ℕ → Option LegalLength
legal_length h fl = length_unless (refusal (with_fl h fl)) fl (payload (with_fl h fl))

-- Of the lengths that a run gave, the answer is the first that makes the header legal, or says that
-- the run gave all and none does.
abbrev pub First_legal : {S : Type 0} {steps : S → Option ℕ → S → Type 0} → Header → Run steps → Option LegalLength → Type 0
First_legal h run None = (run.whole ≡ true) × AllItems run (λ fl. legal_length h fl ≡ None)
First_legal h run (Some l) =
    (place : ℕ) × (place + 1 ≡ run.len) × IsSomeAnd (run.at place) (λ fl. legal_length h fl ≡ Some l) × AllItemsBelow run place (λ fl. legal_length h fl ≡ None)

-- No frame length makes the header legal.
abbrev pub Without_length : Header → Type 0
Without_length h = (fl : ℕ) → Legal (with_fl h fl) → ⊥

-- The answer is the smallest frame length that makes the header legal, or says that there is none.
abbrev pub Smallest : Header → Option LegalLength → Type 0
Smallest h None = Without_length h
Smallest h (Some l) = Serves h l × ((fl : ℕ) → Legal (with_fl h fl) → l.fl ≤ fl)

-- The answer is the largest frame length that makes the header legal, or says that there is none.
abbrev pub Largest : Header → Option LegalLength → Type 0
Largest h None = Without_length h
Largest h (Some l) = Serves h l × ((fl : ℕ) → Legal (with_fl h fl) → fl ≤ l.fl)
