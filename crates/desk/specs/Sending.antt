-- What `begin` and `finish` do at the desk.
use Rattle.std.specs.Prelude.{◌≡◌, ℕ, List, length, replicate, Some, None, Ok, Err, vec_items, codes, Option, Result}
use Rattle.desk.specs.Views.{DeskView, MaybeTurn, Turn, turn_if}
use Rattle.desk.specs.declared.requests.BeginRequest.{BeginRequest}
use Rattle.frame.specs.declared.headers.Header.{Header}
use Rattle.wording.specs.Calls.{nothing_behind, read_header, read_number, then_read}
use Rattle.wording.specs.Cells.{read_cells, with_rows}
use Rattle.wording.specs.Lasts.{last_list}
use Rattle.wording.specs.Texts.{refused_text, served}
use Rattle.sending.specs.declared.begun.Begun.{Begun}
use Rattle.sending.specs.declared.refusals.BeginRefusal.{BeginRefusal}
use Rattle.sending.specs.declared.refusals.FinishRefusal.{FinishRefusal}
use Rattle.sending.specs.declared.refusals.Unfinished.{Unfinished}
use Rattle.sending.specs.Numbers.{begin_number, finish_number}
use Rattle.sending.specs.Sendings.{begin_answer, begin_buffer, finish_answer, finish_buffer}

-- What `begin` asks: a header, a reference, and the cells of the transmit buffer.
pub record BeginAsked : Type 0 where
  pub header : Header
  pub reference : List ℕ
  pub room : ℕ

abbrev pub begin_asked : BeginRequest → BeginAsked
begin_asked q = record { header = q.header; reference = vec_items q.reference; room = q.room }

-- HEADER CELLS ROOM, and the line's end.
abbrev pub read_begin : List (List ℕ) → Option BeginAsked
read_begin ws =
    then_read (read_header ws)
    (λ h ws1. then_read (read_cells ws1)
    (λ row ws2. then_read (read_number ws2)
    (λ room rest. nothing_behind (record { header = h; reference = row; room = served room }) rest)))

-- What beginning a frame in these cells came to, by what it gave: the answer is that of `begin`, and so
-- are the cells afterwards.
abbrev pub Begins : Header → List ℕ → List ℕ → Result Begun BeginRefusal → List ℕ → Type 0
Begins h row cells (Ok b) after =
    (begin_answer h row (length cells) ≡ Ok b.header) × (after ≡ begin_buffer h row (Ok b.header) cells)
Begins h row cells (Err e) after = begin_answer h row (length cells) ≡ Err e

-- An accepted begin leaves the new buffer and the begun frame; a refused one changes nothing.
abbrev pub begun_turn : DeskView → Result Header BeginRefusal → List ℕ → Turn
begun_turn v (Ok h) cells = (record { receiver = v.receiver; cells = cells; begun = Some h }, codes "begun")
begun_turn v (Err e) cells = (v, refused_text (begin_number e))

-- The transmit buffer is made anew, all 0.
abbrev pub begin_turn : DeskView → BeginAsked → Turn
begin_turn v q =
    begun_turn v
    (begin_answer q.header q.reference q.room)
    (begin_buffer q.header q.reference (begin_answer q.header q.reference q.room) (replicate q.room 0))

-- An accepted finish leaves the buffer and no begun frame, and shows every row; a refused one changes
-- nothing.
abbrev pub finished_turn : DeskView → Result ℕ (FinishRefusal × Header) → List ℕ → Turn
finished_turn v (Ok rows) cells =
    (record { receiver = v.receiver; cells = cells; begun = None }, with_rows (codes "rows") cells rows)
finished_turn v (Err e) cells = (v, refused_text (finish_number e.0))

-- What finishing a begun frame came to, by what it gave back: the answer is that of `finish`, and a
-- refused one hands the frame back and leaves the cells.
abbrev pub Finishes : Header → List ℕ → List ℕ → Result ℕ Unfinished → List ℕ → Type 0
Finishes h bytes cells (Ok rows) after = (finish_answer h bytes cells ≡ Ok rows) × (after ≡ finish_buffer h bytes (Ok rows) cells)
Finishes h bytes cells (Err u) after =
    (finish_answer h bytes cells ≡ Err (u.why, h)) × ((u.begun.header ≡ h) × (after ≡ cells))

-- Without a begun frame there is no such call.
abbrev pub finish_if : DeskView → Option Header → List ℕ → Turn
finish_if v None bytes = (v, codes "unreadable")
finish_if v (Some h) bytes =
    finished_turn v (finish_answer h bytes v.cells) (finish_buffer h bytes (finish_answer h bytes v.cells) v.cells)

abbrev pub finish_turn : DeskView → List ℕ → Turn
finish_turn v bytes = finish_if v v.begun bytes

-- `begin HEADER CELLS ROOM`
abbrev pub begin_reply : DeskView → List (List ℕ) → MaybeTurn
begin_reply v ws = turn_if v (read_begin ws) (begin_turn v)

-- `finish HEX`
abbrev pub finish_reply : DeskView → List (List ℕ) → MaybeTurn
finish_reply v ws = turn_if v (last_list ws) (finish_turn v)
