-- Begin writes the header's rows of a frame into a buffer, finish the payload's, and send both.
use Rattle.std.specs.Prelude.{◌≡◌, ℕ, ◌*◌, ◌≤◌, cond, List, ◌++◌, length, take, drop, Some, None, Ok, Err, Option, Result, ◌==◌, nat_lt}
use Rattle.std.specs.Result.{result_map_both}
use Rattle.stage.specs.Model.{coding}
use Rattle.frame.specs.declared.headers.Header.{Header}
use Rattle.frame.specs.declared.refusals.Refusal.{Refusal}
use Rattle.frame.specs.Answers.{payload, refusal}
use Rattle.frame.specs.Sizes.{payload_rows, row_count}
use Rattle.packing.specs.Bits.{header_bits}
use Rattle.chains.specs.Chains.{header_chain, payload_chain}
use Rattle.rows.specs.Carriers.{carriers, is_reference, row_at, spread}
use Rattle.rows.specs.Rows.{header_cells, last_header_row, payload_reference}
use Rattle.rows.specs.declared.references.Reference.{Reference}
use Rattle.sending.specs.declared.begun.Begun.{Begun}
use Rattle.sending.specs.declared.refusals.BeginRefusal.{BeginRefusal}
use Rattle.sending.specs.declared.refusals.BeginRefusal.TheVariants.{Header as BadHeader, Reference as NoReference, TooShort}
use Rattle.sending.specs.declared.refusals.FinishRefusal.{FinishRefusal}
use Rattle.sending.specs.declared.refusals.FinishRefusal.TheVariants.{PayloadLength, TooShort as RowsTooShort, Reference as RowReference}
use Rattle.sending.specs.declared.refusals.SendRefusal.{SendRefusal}
use Rattle.sending.specs.declared.refusals.SendRefusal.TheVariants.{Begin as NotBegun, PayloadLength as SentLength}
use Rattle.sending.specs.declared.refusals.Unfinished.{Unfinished}

-- The cells of a whole frame.
abbrev pub frame_cells : Header → ℕ
frame_cells h = carriers * row_count h.fl

-- Begin refuses an illegal header, then what is no reference, then a buffer that cannot hold the frame.
abbrev pub begin_legal : Option Refusal → Header → List ℕ → ℕ → Option BeginRefusal
begin_legal (Some e) h reference room = Some (BadHeader e)
begin_legal None h reference room =
    cond (is_reference reference) (cond (nat_lt room (frame_cells h)) (Some TooShort) None) (Some NoReference)

abbrev pub begin_refusal : Header → List ℕ → ℕ → Option BeginRefusal
begin_refusal h reference room = begin_legal (refusal h) h reference room

-- The header of the begun frame, or the refusal.
abbrev pub begin_unless : Option BeginRefusal → Header → Result Header BeginRefusal
begin_unless (Some e) h = Err e
begin_unless None h = Ok h

abbrev pub begin_answer : Header → List ℕ → ℕ → Result Header BeginRefusal
begin_answer h reference room = begin_unless (begin_refusal h reference room) h

-- A frame that can be begun is one of this header, and comes with this reference; another is refused.
abbrev pub CanBegin : Result (Begun × Reference) BeginRefusal → Header → List ℕ → ℕ → Type 0
CanBegin (Ok frame) h reference room =
    (begin_refusal h reference room ≡ None) × ((frame.0.header ≡ h) × ((frame.1.cells ≡ reference) × (frame_cells h ≤ room)))
CanBegin (Err e) h reference room = begin_refusal h reference room ≡ Some e

-- A begun frame by its header.
abbrev pub begun_told : Result Begun BeginRefusal → Result Header BeginRefusal
begun_told r = result_map_both (λ begun. begun.header) (λ e. e) r

-- The header's rows under a reference.
abbrev pub header_part : Header → List ℕ → List ℕ
header_part h reference = coding (header_chain reference) (header_bits h)

-- The buffer after begin: the header's rows in front of what stood there, or all as it was.
abbrev pub begin_buffer : Header → List ℕ → Result Header BeginRefusal → List ℕ → List ℕ
begin_buffer h reference (Ok k) cells = header_part h reference ++ drop header_cells cells
begin_buffer h reference (Err e) cells = cells

-- Finish refuses a payload that has not exactly N bytes, then a buffer that cannot hold the frame, then
-- a last header row that is no reference.
abbrev pub finish_refusal : Header → ℕ → List ℕ → Option FinishRefusal
finish_refusal h count cells =
    cond
    (count == payload h)
    (cond
    (nat_lt (length cells) (frame_cells h))
    (Some RowsTooShort)
    (cond (is_reference (row_at last_header_row cells)) None (Some RowReference)))
    (Some PayloadLength)

-- A frame that can be finished goes on from the last header row in the buffer; another is refused.
abbrev pub CanFinish : Result Reference FinishRefusal → Header → ℕ → List ℕ → Type 0
CanFinish (Ok row) h count cells =
    (finish_refusal h count cells ≡ None) × ((count ≡ payload h) × ((frame_cells h ≤ length cells) × (row.cells ≡ row_at last_header_row cells)))
CanFinish (Err why) h count cells = finish_refusal h count cells ≡ Some why

-- How many rows the frame has, or the refusal with the header of the begun frame that is handed back.
abbrev pub finish_unless : Option FinishRefusal → Header → Result ℕ (FinishRefusal × Header)
finish_unless (Some why) h = Err (why, h)
finish_unless None h = Ok (row_count h.fl)

abbrev pub finish_answer : Header → List ℕ → List ℕ → Result ℕ (FinishRefusal × Header)
finish_answer h bytes cells = finish_unless (finish_refusal h (length bytes) cells) h

-- An unfinished frame by its refusal and the header of what is handed back.
abbrev pub finish_told : Result ℕ Unfinished → Result ℕ (FinishRefusal × Header)
finish_told r = result_map_both (λ rows. rows) (λ unfinished. (unfinished.why, unfinished.begun.header)) r

-- The payload's rows behind the header's: the payload's coding from the last header row on, on live
-- carriers, and silence on the others.
abbrev pub payload_part : Header → List ℕ → List ℕ → List ℕ
payload_part h bytes cells =
    spread h.tm (carriers * payload_rows h.fl) (coding (payload_chain h (payload_reference h cells)) bytes)

-- The buffer after finish: the payload's rows behind the header's, all else as it was.
abbrev pub finish_buffer : Header → List ℕ → Result ℕ (FinishRefusal × Header) → List ℕ → List ℕ
finish_buffer h bytes (Ok rows) cells = take header_cells cells ++ (payload_part h bytes cells ++ drop (frame_cells h) cells)
finish_buffer h bytes (Err e) cells = cells

-- Send refuses as begin does, and then a payload that has not exactly N bytes.
abbrev pub send_begun : Option BeginRefusal → Header → ℕ → Option SendRefusal
send_begun (Some e) h count = Some (NotBegun e)
send_begun None h count = cond (count == payload h) None (Some SentLength)

abbrev pub send_refusal : Header → List ℕ → ℕ → ℕ → Option SendRefusal
send_refusal h reference count room = send_begun (begin_refusal h reference room) h count

-- How many rows the frame has, or the refusal.
abbrev pub send_unless : Option SendRefusal → Header → Result ℕ SendRefusal
send_unless (Some e) h = Err e
send_unless None h = Ok (row_count h.fl)

abbrev pub send_answer : Header → List ℕ → List ℕ → ℕ → Result ℕ SendRefusal
send_answer h reference bytes room = send_unless (send_refusal h reference (length bytes) room) h

-- The cells of a frame as they are sent.
abbrev pub sent : Header → List ℕ → List ℕ → List ℕ
sent h reference bytes = header_part h reference ++ payload_part h bytes (header_part h reference)

-- The buffer after send: the frame's rows in front of what stood there, or all as it was.
abbrev pub send_buffer : Header → List ℕ → List ℕ → Result ℕ SendRefusal → List ℕ → List ℕ
send_buffer h reference bytes (Ok rows) cells = sent h reference bytes ++ drop (frame_cells h) cells
send_buffer h reference bytes (Err e) cells = cells
