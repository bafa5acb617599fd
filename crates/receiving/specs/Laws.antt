-- The laws of receiving: what holds of the next call after any history, and of rows fed in order.
use Rattle.std.specs.Prelude.{◌≡◌, ℕ, ◌-◌, ◌<◌, ◌≤◌, true, false, List, [], ◌∷◌, ◌++◌, length, drop, Some, Ok, Err, Result}
use Rattle.stage.specs.declared.faults.ChainFault.{ChainFault}
use Rattle.stage.specs.Model.{decoding}
use Rattle.frame.specs.declared.headers.Header.{Header}
use Rattle.frame.specs.declared.refusals.Refusal.{Refusal}
use Rattle.frame.specs.Answers.{Legal, payload, refusal}
use Rattle.frame.specs.Sizes.{payload_rows, row_count}
use Rattle.packing.specs.Bits.{header_from}
use Rattle.chains.specs.Chains.{header_chain, payload_chain}
use Rattle.rows.specs.Carriers.{gathered, is_reference}
use Rattle.rows.specs.Rows.{HeaderCells, RowsOf, cells_of, header_cells, header_rows, payload_reference}
use Rattle.receiving.specs.declared.refusals.FeedRefusal.{FeedRefusal}
use Rattle.receiving.specs.declared.refusals.FeedRefusal.TheVariants.{NotListening, Row, Fault, Header as BadHeader}
use Rattle.receiving.specs.declared.refusals.TakeRefusal.TheVariants.{NoFrame, TooShort}
use Rattle.receiving.specs.Decisions.{in_header, in_payload}
use Rattle.receiving.specs.Histories.{Call, Complete, Fed, Feed, Handed, Start, Started, Take, Took, answer, counted, fits_next, header_of, listens, reference_of, run}
use Rattle.receiving.specs.Steps.{View, fed, fresh, start_answer, started, taken}

-- A frame is due to a take: the counted rows are those of the frame, the room is enough, and no
-- earlier take was handed it.
pub record Due (cs : List Call) (room : ℕ) (h : Header) (bytes : List ℕ) : Type 0 where
  pub complete : Complete cs h bytes
  pub room_enough : payload h ≤ room
  pub not_handed : Handed cs → ⊥

-- What a feed tells when its row counts and is the last of `rows`, fed since a start under the
-- reference: how many rows of the part in hand are missing, or what the part's last row decides.
pub record Tells (reference : List ℕ) (rows : List (List ℕ)) (told : Result ℕ FeedRefusal) : Type 0 where
  pub missing_of_header : length rows < header_rows → told ≡ Ok (header_rows - length rows)
  pub header_accepted : length rows ≡ header_rows → (h : Header) → Legal h → HeaderCells reference h (cells_of rows) → told ≡ Ok (payload_rows h.fl)
  pub header_faulty : length rows ≡ header_rows → (f : ChainFault) → decoding (header_chain reference) (cells_of rows) ≡ Err f → told ≡ Err (Fault (in_header f))
  pub header_illegal : length rows ≡ header_rows → (bits : List ℕ) (e : Refusal) → decoding (header_chain reference) (cells_of rows) ≡ Ok bits → refusal (header_from bits) ≡ Some e → told ≡ Err (BadHeader e)
  pub missing_of_payload : (h : Header) → header_of reference rows ≡ Some h → header_rows < length rows → length rows < row_count h.fl → told ≡ Ok (row_count h.fl - length rows)
  pub payload_accepted : (h : Header) (bytes : List ℕ) → RowsOf reference h bytes rows → told ≡ Ok 0
  pub payload_faulty : (h : Header) → header_of reference rows ≡ Some h → length rows ≡ row_count h.fl → (f : ChainFault) → decoding (payload_chain h (payload_reference h (cells_of rows))) (gathered h.tm (drop header_cells (cells_of rows))) ≡ Err f → told ≡ Err (Fault (in_payload f))

-- What holds of the next call on a receiver with this history.
pub record Lawful (cs : List Call) : Type 0 where
  -- a take hands over a frame exactly if it is due
  pub handed_over_is_due : (room : ℕ) (h : Header) (bytes : List ℕ) → answer (run cs) (Take room) ≡ Took (Ok (h, bytes)) → Due cs room h bytes
  pub due_is_handed_over : (room : ℕ) (h : Header) (bytes : List ℕ) → Due cs room h bytes → answer (run cs) (Take room) ≡ Took (Ok (h, bytes))
  -- a take is refused for want of room, and else for want of a frame
  pub too_little_room : (room : ℕ) (h : Header) (bytes : List ℕ) → Complete cs h bytes → (Handed cs → ⊥) → room < payload h → answer (run cs) (Take room) ≡ Took (Err TooShort)
  pub nothing_to_take : (room : ℕ) → ((h : Header) (bytes : List ℕ) → Complete cs h bytes → Handed cs) → answer (run cs) (Take room) ≡ Took (Err NoFrame)
  -- a feed is refused where nobody listens, then for a row that cannot be the next
  pub nobody_listens : (row : List ℕ) → listens (reference_of cs) (counted cs) ≡ false → answer (run cs) (Feed row) ≡ Fed (Err NotListening)
  pub unfit_row : (row : List ℕ) → listens (reference_of cs) (counted cs) ≡ true → fits_next (reference_of cs) (counted cs) row ≡ false → answer (run cs) (Feed row) ≡ Fed (Err Row)
  -- every other feed tells what its part asks for
  pub counted_row : (row reference : List ℕ) → reference_of cs ≡ Some reference → listens (reference_of cs) (counted cs) ≡ true → fits_next (reference_of cs) (counted cs) row ≡ true → Tells reference (counted cs ++ (row ∷ [])) (fed (run cs) row).1
  -- the feed by which the counted rows become complete answers 0, and no other does
  pub zero_completes : (row : List ℕ) → answer (run cs) (Feed row) ≡ Fed (Ok 0) → (h : Header) × ((bytes : List ℕ) × (Complete (Feed row ∷ cs) h bytes × ((k : Header) (others : List ℕ) → Complete cs k others → ⊥)))
  pub completing_is_zero : (row : List ℕ) (h : Header) (bytes : List ℕ) → Complete (Feed row ∷ cs) h bytes → ((k : Header) (others : List ℕ) → Complete cs k others → ⊥) → answer (run cs) (Feed row) ≡ Fed (Ok 0)
  -- a start is accepted with a reference, and refused without one
  pub starts : (cells : List ℕ) → answer (run cs) (Start cells) ≡ Started (start_answer cells)

-- Over any history of calls a receiver loses, alters and invents nothing.
abbrev pub Nothing_lost_altered_or_invented : Type 0
Nothing_lost_altered_or_invented = (cs : List Call) → Lawful cs

-- What a receiver holds after rows fed in order.
abbrev pub fed_all : View → List (List ℕ) → View
fed_all v [] = v
fed_all v (row ∷ rows) = fed_all (fed v row).0 rows

-- None of the rows, fed in order, is refused.
abbrev pub NoneRefused : View → List (List ℕ) → Type 0
NoneRefused v [] = Unit {0}
NoneRefused v (row ∷ rows) = ((missing : ℕ) × ((fed v row).1 ≡ Ok missing)) × NoneRefused (fed v row).0 rows

-- Rows yield a frame: a new receiver, started under the reference and fed them in order, refuses
-- none, and a take with room enough then hands the frame over.
pub record Yields (reference : List ℕ) (rows : List (List ℕ)) (h : Header) (bytes : List ℕ) : Type 0 where
  pub none_refused : NoneRefused (started fresh reference) rows
  pub hands_over : (room : ℕ) → payload h ≤ room → (taken (fed_all (started fresh reference) rows) room).1 ≡ Ok (h, bytes)

-- Rows yield exactly their frame.
pub record Rows_yield_exactly_their_frame : Type 0 where
  pub frame_arrives : (reference : List ℕ) (rows : List (List ℕ)) (h : Header) (bytes : List ℕ) → is_reference reference ≡ true → RowsOf reference h bytes rows → Yields reference rows h bytes
  pub nothing_else_arrives : (reference : List ℕ) (rows : List (List ℕ)) (h : Header) (bytes : List ℕ) → is_reference reference ≡ true → Yields reference rows h bytes → RowsOf reference h bytes rows
  pub one_frame : (reference : List ℕ) (rows : List (List ℕ)) (h k : Header) (bytes others : List ℕ) → is_reference reference ≡ true → RowsOf reference h bytes rows → RowsOf reference k others rows → (h ≡ k) × (bytes ≡ others)
