-- What each call of a receiver answers, and what the receiver holds afterwards.
use Rattle.std.specs.Prelude.{ℕ, ◌+◌, ◌-◌, cond, List, [], ◌++◌, length, drop, Ok, Err, Result, nat_lt}
use Rattle.frame.specs.declared.headers.Header.{Header}
use Rattle.frame.specs.Sizes.{payload_rows, row_count}
use Rattle.rows.specs.Carriers.{is_reference, row_fits}
use Rattle.rows.specs.Rows.{header_rows}
use Rattle.receiving.specs.declared.refusals.FeedRefusal.{FeedRefusal}
use Rattle.receiving.specs.declared.refusals.FeedRefusal.TheVariants.{NotListening, Row}
use Rattle.receiving.specs.declared.refusals.StartRefusal.{StartRefusal}
use Rattle.receiving.specs.declared.refusals.StartRefusal.TheVariants.{Reference}
use Rattle.receiving.specs.declared.refusals.TakeRefusal.{TakeRefusal}
use Rattle.receiving.specs.declared.refusals.TakeRefusal.TheVariants.{NoFrame, TooShort}
use Rattle.receiving.specs.Decisions.{header_decision, payload_decision}

-- What a receiver holds: it does not listen and has no frame; or it listens to a header's rows under
-- a reference, or to the rows behind a header, with the count of rows and their cells so far; or it
-- has a whole frame that nobody took.
pub data View : Type 0 where
  deaf : View
  heading : List ℕ → ℕ → List ℕ → View
  loading : Header → ℕ → List ℕ → View
  whole : Header → List ℕ → View

-- A new receiver does not listen.
abbrev pub fresh : View
fresh = deaf

-- Start listens afresh under a reference; it refuses what is no reference, and then changes nothing.
abbrev pub start_answer : List ℕ → Result Unit StartRefusal
start_answer cells = cond (is_reference cells) (Ok tt) (Err Reference)

abbrev pub started : View → List ℕ → View
started v cells = cond (is_reference cells) (heading cells 0 []) v

-- What follows from the decision on the header: so many rows of payload are missing, or the end of
-- listening.
abbrev pub headed : ℕ → List ℕ → Result Header FeedRefusal → View × Result ℕ FeedRefusal
headed n cells (Ok h) = (loading h n cells, Ok (payload_rows h.fl))
headed n cells (Err e) = (deaf, Err e)

-- What follows from the decision on the payload: a whole frame, or the end of listening.
abbrev pub loaded : Header → Result (List ℕ) FeedRefusal → View × Result ℕ FeedRefusal
loaded h (Ok bytes) = (whole h bytes, Ok 0)
loaded h (Err e) = (deaf, Err e)

-- A header row is there: so many are missing, or the thirteenth decides.
abbrev pub with_header_row : List ℕ → ℕ → List ℕ → View × Result ℕ FeedRefusal
with_header_row reference n cells =
    cond
    (nat_lt n header_rows)
    (heading reference n cells, Ok (header_rows - n))
    (headed n cells (header_decision reference cells))

-- A payload row is there: so many are missing, or the last decides.
abbrev pub with_payload_row : Header → ℕ → List ℕ → View × Result ℕ FeedRefusal
with_payload_row h n cells =
    cond
    (nat_lt n (row_count h.fl))
    (loading h n cells, Ok (row_count h.fl - n))
    (loaded h (payload_decision h cells))

-- Feed takes one row if the receiver listens and the row can be one of the part in hand.
abbrev pub fed : View → List ℕ → View × Result ℕ FeedRefusal
fed deaf row = (deaf, Err NotListening)
fed (heading reference n cells) row =
    cond (is_reference row) (with_header_row reference (n + 1) (cells ++ row)) (heading reference n cells, Err Row)
fed (loading h n cells) row =
    cond (row_fits h.tm row) (with_payload_row h (n + 1) (cells ++ row)) (loading h n cells, Err Row)
fed (whole h bytes) row = (whole h bytes, Err NotListening)

-- Take hands over the whole frame if the room is enough, and drops it.
abbrev pub taken : View → ℕ → View × Result (Header × List ℕ) TakeRefusal
taken deaf room = (deaf, Err NoFrame)
taken (heading reference n cells) room = (heading reference n cells, Err NoFrame)
taken (loading h n cells) room = (loading h n cells, Err NoFrame)
taken (whole h bytes) room =
    cond (nat_lt room (length bytes)) (whole h bytes, Err TooShort) (deaf, Ok (h, bytes))

-- The caller's answer to a take, which has the frame's length in place of its bytes.
abbrev pub take_told : Result (Header × List ℕ) TakeRefusal → Result (Header × ℕ) TakeRefusal
take_told (Ok frame) = Ok (frame.0, length frame.1)
take_told (Err e) = Err e

-- The caller's buffer after a take: the payload in front of what stood there, or all as it was.
abbrev pub take_buffer : Result (Header × List ℕ) TakeRefusal → List ℕ → List ℕ
take_buffer (Ok frame) buffer = frame.1 ++ drop (length frame.1) buffer
take_buffer (Err e) buffer = buffer
