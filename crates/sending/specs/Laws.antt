-- The law of sending: what is begun and finished are the rows of the frame.
use Rattle.std.specs.Prelude.{◌≡◌, ℕ, true, List, length, drop, Ok, Err, Result}
use Rattle.stage.specs.Plain.{within}
use Rattle.frame.specs.declared.headers.Header.{Header}
use Rattle.frame.specs.Sizes.{row_count}
use Rattle.rows.specs.Carriers.{rows_in}
use Rattle.rows.specs.Rows.{RowsOf}
use Rattle.sending.specs.declared.refusals.SendRefusal.{SendRefusal}
use Rattle.sending.specs.Sendings.{begin_answer, begin_buffer, finish_answer, finish_buffer, frame_cells}

-- The front of the buffer holds the rows of the frame under the reference, and the rest is as it was.
pub record HoldsFrame (reference : List ℕ) (h : Header) (bytes before after : List ℕ) : Type 0 where
  pub rows : RowsOf reference h bytes (rows_in (row_count h.fl) after)
  pub rest : drop (frame_cells h) after ≡ drop (frame_cells h) before
  pub long : length after ≡ length before

-- The buffer of a begun frame that is finished untouched.
abbrev pub begun_and_finished : Header → List ℕ → List ℕ → List ℕ → List ℕ
begun_and_finished h reference bytes cells =
    finish_buffer h bytes
    (finish_answer h bytes (begin_buffer h reference (begin_answer h reference (length cells)) cells))
    (begin_buffer h reference (begin_answer h reference (length cells)) cells)

-- A begin that is accepted, and then a finish that is, the buffer untouched between them, leave the rows
-- of the frame in front.
pub record Begun_and_finished_rows_are_the_frames : Type 0 where
  pub rows : (h : Header) (reference bytes cells : List ℕ) (rows : ℕ) → within 255 bytes ≡ true → begin_answer h reference (length cells) ≡ Ok h
      → finish_answer h bytes (begin_buffer h reference (begin_answer h reference (length cells)) cells) ≡ Ok rows
      → HoldsFrame reference h bytes cells (begun_and_finished h reference bytes cells)

-- What send leaves: the frame's rows, or nothing written.
abbrev pub Sent : List ℕ → Header → List ℕ → Result ℕ SendRefusal → List ℕ → List ℕ → Type 0
Sent reference h bytes (Ok rows) before after = HoldsFrame reference h bytes before after
Sent reference h bytes (Err e) before after = after ≡ before
