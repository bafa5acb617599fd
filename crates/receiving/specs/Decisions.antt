-- What a receiver decides when the last row of a part is there.
use Rattle.std.specs.Prelude.{ℕ, List, drop, Some, None, Ok, Err, Option, Result}
use Rattle.stage.specs.declared.faults.ChainFault.{ChainFault}
use Rattle.stage.specs.Model.{decoding}
use Rattle.frame.specs.declared.headers.Header.{Header}
use Rattle.frame.specs.declared.refusals.Refusal.{Refusal}
use Rattle.frame.specs.Answers.{refusal}
use Rattle.frame.specs.Refusals.{number_of}
use Rattle.packing.specs.Bits.{header_from}
use Rattle.chains.specs.Chains.{header_chain, payload_chain}
use Rattle.rows.specs.Carriers.{gathered}
use Rattle.rows.specs.Rows.{header_cells, payload_reference}
use Rattle.receiving.specs.declared.refusals.Part.TheVariants.{Header as HeaderPart, Payload as PayloadPart}
use Rattle.receiving.specs.declared.refusals.ReceiverFault.{ReceiverFault}
use Rattle.receiving.specs.declared.refusals.FeedRefusal.{FeedRefusal}
use Rattle.receiving.specs.declared.refusals.FeedRefusal.TheVariants.{NotListening, Row, Fault, Header as BadHeader}
use Rattle.receiving.specs.declared.refusals.StartRefusal.{StartRefusal}
use Rattle.receiving.specs.declared.refusals.TakeRefusal.{TakeRefusal}
use Rattle.receiving.specs.declared.refusals.TakeRefusal.TheVariants.{NoFrame, TooShort}

-- A chain's fault in the header's rows, and in the payload's.
abbrev pub in_header : ChainFault → ReceiverFault
in_header f = record { part = HeaderPart; fault = f }

abbrev pub in_payload : ChainFault → ReceiverFault
in_payload f = record { part = PayloadPart; fault = f }

-- The numbers of the refusals.
abbrev pub start_number : StartRefusal → ℕ
start_number e = 8

abbrev pub feed_number : FeedRefusal → ℕ
feed_number NotListening = 11
feed_number Row = 9
feed_number (Fault f) = 10
feed_number (BadHeader e) = number_of e

abbrev pub take_number : TakeRefusal → ℕ
take_number NoFrame = 12
take_number TooShort = 7

-- A header from the line, unless one of the refusals 2 to 5 applies to it.
abbrev pub header_unless : Option Refusal → Header → Result Header FeedRefusal
header_unless (Some e) h = Err (BadHeader e)
header_unless None h = Ok h

-- The header by what the header chain makes of its rows.
abbrev pub header_verdict : Result (List ℕ) ChainFault → Result Header FeedRefusal
header_verdict (Err f) = Err (Fault (in_header f))
header_verdict (Ok bits) = header_unless (refusal (header_from bits)) (header_from bits)

-- The header that the cells of thirteen rows hold under a reference.
unfoldable pub header_decision : List ℕ → List ℕ → Result Header FeedRefusal
header_decision reference cells = header_verdict (decoding (header_chain reference) cells)

-- The payload by what the payload chain makes of the live cells.
abbrev pub payload_verdict : Result (List ℕ) ChainFault → Result (List ℕ) FeedRefusal
payload_verdict (Err f) = Err (Fault (in_payload f))
payload_verdict (Ok bytes) = Ok bytes

-- The payload that the cells of all rows of a frame hold: the live ones behind the header's, from
-- the last header row on.
unfoldable pub payload_decision : Header → List ℕ → Result (List ℕ) FeedRefusal
payload_decision h cells =
    payload_verdict (decoding (payload_chain h (payload_reference h cells)) (gathered h.tm (drop header_cells cells)))
