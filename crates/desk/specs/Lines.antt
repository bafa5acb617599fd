-- What each line is answered, and what it does at the desk.
use Rattle.std.specs.Prelude.{ℕ, cond, List, [], Some, None, codes, Option}
use Rattle.desk.specs.Receiving.{feed_reply, start_reply, take_reply}
use Rattle.desk.specs.Records.{record_reply}
use Rattle.desk.specs.Sending.{begin_reply, finish_reply}
use Rattle.desk.specs.Views.{DeskView, MaybeTurn}
use Rattle.wording.specs.Lines.{skipped, without_end}
use Rattle.talk.specs.Replies.{call_reply}
use Rattle.wording.specs.Words.{read_word, words}
use Rattle.receiving.specs.Steps.{fresh}
use Rattle.std.specs.Option.{unwrap_or}
use Rattle.std.specs.Str.{bytes_eq}

-- A new desk: its receiver does not listen, its buffer is empty, and no frame is begun.
abbrev pub new_desk : DeskView
new_desk = record { receiver = fresh; cells = []; begun = None }

-- The answer to a call that changes nothing.
abbrev pub other_reply : List ℕ → List (List ℕ) → Option (List ℕ)
other_reply name ws = cond (bytes_eq name (codes "record")) (record_reply ws) (call_reply name ws)

-- What a call does, by its name and the words behind it.
abbrev pub named_reply : DeskView → List ℕ → List (List ℕ) → MaybeTurn
named_reply v name ws =
    cond (bytes_eq name (codes "begin")) (begin_reply v ws)
    (cond (bytes_eq name (codes "finish")) (finish_reply v ws)
    (cond (bytes_eq name (codes "start")) (start_reply v ws)
    (cond (bytes_eq name (codes "feed")) (feed_reply v ws)
    (cond (bytes_eq name (codes "take")) (take_reply v ws) (v, other_reply name ws)))))

-- What the words of a line do.
abbrev pub read_reply : DeskView → Option (List ℕ × List (List ℕ)) → MaybeTurn
read_reply v None = (v, None)
read_reply v (Some p) = named_reply v p.0 p.1

-- What is no call gets `unreadable`.
abbrev pub answered : MaybeTurn → MaybeTurn
answered t = (t.0, Some (unwrap_or t.1 (codes "unreadable")))

-- A line without its end: a skipped one gets no answer and changes nothing.
abbrev pub body_turn : DeskView → List ℕ → MaybeTurn
body_turn v bs = cond (skipped bs) (v, None) (answered (read_reply v (read_word (words bs))))

-- What a line does.
abbrev pub line_turn : DeskView → List ℕ → MaybeTurn
line_turn v bs = body_turn v (without_end bs)
