-- What a receiver holds by the reference and the counted rows alone, as long as it handed nothing
-- over, and what a view tells of the next call.
use Rattle.std.proofs.Common.{ℕ, Bool, true, false, cond, ◌||◌, ltb, leb, List, [], ◌∷◌, length, take, Some, None, Ok, Err, Option, Result}
use Rattle.frame.specs.declared.headers.Header.{Header}
use Rattle.frame.specs.Sizes.{row_count}
use Rattle.rows.specs.Carriers.{is_reference, row_fits}
use Rattle.rows.specs.Rows.{cells_of, header_cells, header_rows}
use Rattle.receiving.specs.declared.refusals.FeedRefusal.{FeedRefusal}
use Rattle.receiving.specs.Decisions.{header_decision, payload_decision}
use Rattle.receiving.specs.Histories.{Call, Feed, Start, Take, counted, reference_of}
use Rattle.receiving.specs.Steps.{View, deaf, heading, loaded, loading, whole}

-- Behind thirteen rows, by the decision on the header.
abbrev pub holding_behind : Result Header FeedRefusal → List (List ℕ) → View
holding_behind (Err e) rows = deaf
holding_behind (Ok h) rows =
    cond
    (ltb (length rows) (row_count h.fl))
    (loading h (length rows) (cells_of rows))
    (loaded h (payload_decision h (cells_of rows))).0

-- The header that the first thirteen rows are decided to be of.
abbrev pub header_by : List ℕ → List (List ℕ) → Result Header FeedRefusal
header_by reference rows = header_decision reference (take header_cells (cells_of rows))

abbrev pub holding : Option (List ℕ) → List (List ℕ) → View
holding None rows = deaf
holding (Some reference) rows =
    cond
    (ltb (length rows) header_rows)
    (heading reference (length rows) (cells_of rows))
    (holding_behind (header_by reference rows) rows)

-- Whether the receiver listens.
abbrev pub hears : View → Bool
hears deaf = false
hears (heading reference n cells) = true
hears (loading h n cells) = true
hears (whole h bytes) = false

-- Whether it takes this row.
abbrev pub accepts : View → List ℕ → Bool
accepts deaf row = false
accepts (heading reference n cells) row = is_reference row
accepts (loading h n cells) row = row_fits h.tm row
accepts (whole h bytes) row = false

-- Whether it hands a frame over into this room.
abbrev pub hands : View → ℕ → Bool
hands deaf room = false
hands (heading reference n cells) room = false
hands (loading h n cells) room = false
hands (whole h bytes) room = leb (length bytes) room

-- Whether a frame of the counted rows was handed over.
abbrev pub was_handed : List Call → Bool
was_handed [] = false
was_handed (Start cells ∷ cs) = cond (is_reference cells) false (was_handed cs)
was_handed (Feed row ∷ cs) = was_handed cs
was_handed (Take room ∷ cs) = was_handed cs || hands (holding (reference_of cs) (counted cs)) room

-- What a receiver holds by its history.
abbrev pub held : List Call → View
held cs = cond (was_handed cs) deaf (holding (reference_of cs) (counted cs))
