-- Histories of calls on a new receiver, the latest call first, and what they mean for rows and
-- frames. Nothing here speaks of what the receiver holds, but for `run` and `answer`.
use Rattle.std.specs.Prelude.{◌≡◌, ℕ, ◌≤◌, Bool, true, false, cond, ◌&&◌, ◌⊎◌, List, [], ◌∷◌, ◌++◌, length, take, Some, None, Ok, Err, Option, Result, nat_lt}
use Rattle.frame.specs.declared.headers.Header.{Header}
use Rattle.frame.specs.Answers.{payload}
use Rattle.frame.specs.Sizes.{row_count}
use Rattle.rows.specs.Carriers.{is_reference, row_fits}
use Rattle.rows.specs.Rows.{RowsOf, cells_of, header_cells, header_rows}
use Rattle.receiving.specs.declared.refusals.FeedRefusal.{FeedRefusal}
use Rattle.receiving.specs.declared.refusals.StartRefusal.{StartRefusal}
use Rattle.receiving.specs.declared.refusals.TakeRefusal.{TakeRefusal}
use Rattle.receiving.specs.Decisions.{header_decision}
use Rattle.receiving.specs.Steps.{View, fed, fresh, start_answer, started, taken}

-- A call: start under a reference, feed a row, take into so many bytes of room.
pub data Call : Type 0 where
  Start : List ℕ → Call
  Feed : List ℕ → Call
  Take : ℕ → Call

-- An answer: to a start, to a feed, and to a take, which hands over a header and its payload.
pub data Answer : Type 0 where
  Started : Result Unit StartRefusal → Answer
  Fed : Result ℕ FeedRefusal → Answer
  Took : Result (Header × List ℕ) TakeRefusal → Answer

-- What the receiver holds after a call, and what it answers.
abbrev pub after : View → Call → View
after v (Start cells) = started v cells
after v (Feed row) = (fed v row).0
after v (Take room) = (taken v room).0

abbrev pub answer : View → Call → Answer
answer v (Start cells) = Started (start_answer cells)
answer v (Feed row) = Fed (fed v row).1
answer v (Take room) = Took (taken v room).1

-- What a new receiver holds after the calls of a history.
abbrev pub run : List Call → View
run [] = fresh
run (c ∷ cs) = after (run cs) c

-- The reference of the last accepted start; none before one.
abbrev pub reference_of : List Call → Option (List ℕ)
reference_of [] = None
reference_of (Start cells ∷ cs) = cond (is_reference cells) (Some cells) (reference_of cs)
reference_of (Feed row ∷ cs) = reference_of cs
reference_of (Take room ∷ cs) = reference_of cs

-- The header that a decision came to, if it did.
abbrev pub header_told : Result Header FeedRefusal → Option Header
header_told (Ok h) = Some h
header_told (Err e) = None

-- The legal header that the first thirteen of the rows are those of; none if they are not.
abbrev pub header_of : List ℕ → List (List ℕ) → Option Header
header_of reference rows = header_told (header_decision reference (take header_cells (cells_of rows)))

-- Whether more rows are awaited behind thirteen: there is a legal header, and fewer than its frame has.
abbrev pub awaited : Option Header → ℕ → Bool
awaited (Some h) n = nat_lt n (row_count h.fl)
awaited None n = false

-- Whether a row can be one behind the header's.
abbrev pub fits_behind : Option Header → List ℕ → Bool
fits_behind (Some h) row = row_fits h.tm row
fits_behind None row = false

-- Whether a receiver listens that was started under this reference and counted these rows since.
abbrev pub listens : Option (List ℕ) → List (List ℕ) → Bool
listens None rows = false
listens (Some reference) rows =
    cond (nat_lt (length rows) header_rows) true (awaited (header_of reference rows) (length rows))

-- Whether a row can be the next: of the first thirteen every carrier is live, behind them those of
-- the tone map that the thirteen hold.
abbrev pub fits_next : Option (List ℕ) → List (List ℕ) → List ℕ → Bool
fits_next None rows row = false
fits_next (Some reference) rows row =
    cond (nat_lt (length rows) header_rows) (is_reference row) (fits_behind (header_of reference rows) row)

-- The counted rows: those fed since the last accepted start, in order, less those that cannot be the
-- next. None counts behind thirteen that are not a legal header's, nor behind the last of a frame,
-- nor before a start.
abbrev pub counted : List Call → List (List ℕ)
counted [] = []
counted (Start cells ∷ cs) = cond (is_reference cells) [] (counted cs)
counted (Feed row ∷ cs) =
    cond
    (listens (reference_of cs) (counted cs) && fits_next (reference_of cs) (counted cs) row)
    (counted cs ++ (row ∷ []))
    (counted cs)
counted (Take room ∷ cs) = counted cs

-- The rows are those of the frame under the reference, if there is one.
abbrev pub RowsUnder : Option (List ℕ) → Header → List ℕ → List (List ℕ) → Type 0
RowsUnder None h bytes rows = ⊥
RowsUnder (Some reference) h bytes rows = RowsOf reference h bytes rows

-- The counted rows are those of the frame.
abbrev pub Complete : List Call → Header → List ℕ → Type 0
Complete cs h bytes = RowsUnder (reference_of cs) h bytes (counted cs)

-- Some take since the rows were complete had room for the payload.
abbrev pub Handed : List Call → Type 0
Handed [] = ⊥
Handed (Start cells ∷ cs) = (is_reference cells ≡ false) × Handed cs
Handed (Feed row ∷ cs) = Handed cs
Handed (Take room ∷ cs) = Handed cs ⊎ ((h : Header) × ((bytes : List ℕ) × (Complete cs h bytes × (payload h ≤ room))))
