-- What `start`, `feed` and `take` do at the desk.
use Rattle.std.specs.Prelude.{◌≡◌, ℕ, List, [], ◌++◌, take, Ok, Err, codes, Result}
use Rattle.desk.specs.Views.{DeskView, MaybeTurn, Turn, turn_if}
use Rattle.frame.specs.declared.headers.Header.{Header}
use Rattle.wording.specs.Hexes.{hex_of}
use Rattle.wording.specs.Lasts.{last_cells, last_room}
use Rattle.wording.specs.Texts.{labelled, refused_text, with_chain_fault, with_header}
use Rattle.receiving.specs.Decisions.{feed_number, start_number, take_number}
use Rattle.receiving.specs.declared.refusals.FeedRefusal.{FeedRefusal}
use Rattle.receiving.specs.declared.refusals.FeedRefusal.TheVariants.{NotListening, Row, Fault, Header as BadHeader}
use Rattle.receiving.specs.declared.refusals.Part.{Part}
use Rattle.receiving.specs.declared.refusals.Part.TheVariants.{Header as HeaderPart, Payload as PayloadPart}
use Rattle.receiving.specs.declared.refusals.StartRefusal.{StartRefusal}
use Rattle.receiving.specs.declared.refusals.TakeRefusal.{TakeRefusal}
use Rattle.receiving.specs.Steps.{View, fed, start_answer, started, taken}

-- The desk with its receiver so.
abbrev pub heard : DeskView → View → DeskView
heard v r = record { receiver = r; cells = v.cells; begun = v.begun }

-- The text of what `start` answered.
abbrev pub started_text : Result Unit StartRefusal → List ℕ
started_text (Ok _) = codes "listening"
started_text (Err e) = refused_text (start_number e)

abbrev pub start_turn : DeskView → List ℕ → Turn
start_turn v row = (heard v (started v.receiver row), started_text (start_answer row))

-- The part of the frame in which a fault lies.
abbrev pub part_text : Part → List ℕ
part_text HeaderPart = codes " part header"
part_text PayloadPart = codes " part payload"

-- A text with the fault and its part behind it, if the refusal has one.
abbrev pub with_feed_fault : List ℕ → FeedRefusal → List ℕ
with_feed_fault text (Fault f) = with_chain_fault text f.fault ++ part_text f.part
with_feed_fault text NotListening = text
with_feed_fault text Row = text
with_feed_fault text (BadHeader e) = text

-- The text of what `feed` answered.
abbrev pub fed_text : Result ℕ FeedRefusal → List ℕ
fed_text (Ok missing) = labelled [] (codes "missing ") missing
fed_text (Err e) = with_feed_fault (refused_text (feed_number e)) e

abbrev pub feed_turn : DeskView → List ℕ → Turn
feed_turn v row = (heard v (fed v.receiver row).0, fed_text (fed v.receiver row).1)

-- What a take that answered so leaves in its buffer.
abbrev pub TakesOut : Result (Header × List ℕ) TakeRefusal → Result (Header × ℕ) TakeRefusal → List ℕ → Type 0
TakesOut told (Ok frame) after = told ≡ Ok (frame.0, take frame.1 after)
TakesOut told (Err e) after = told ≡ Err e

-- The text of what `take` answered.
abbrev pub taken_text : Result (Header × List ℕ) TakeRefusal → List ℕ
taken_text (Ok frame) = (with_header (codes "frame") frame.0 ++ codes " ") ++ hex_of frame.1
taken_text (Err e) = refused_text (take_number e)

abbrev pub take_turn : DeskView → ℕ → Turn
take_turn v room = (heard v (taken v.receiver room).0, taken_text (taken v.receiver room).1)

-- `start CELLS`
abbrev pub start_reply : DeskView → List (List ℕ) → MaybeTurn
start_reply v ws = turn_if v (last_cells ws) (start_turn v)

-- `feed CELLS`
abbrev pub feed_reply : DeskView → List (List ℕ) → MaybeTurn
feed_reply v ws = turn_if v (last_cells ws) (feed_turn v)

-- `take ROOM`
abbrev pub take_reply : DeskView → List (List ℕ) → MaybeTurn
take_reply v ws = turn_if v (last_room ws) (take_turn v)
