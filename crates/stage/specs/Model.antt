-- The meaning of a stage: a plain stage, or a pile of two whose second member is nearer the line.
use Rattle.std.specs.Prelude.{ℕ, ◌+◌, min, Bool, true, ◌&&◌, List, length, is_some, Ok, Err, Option, Result, nat_le}
use Rattle.stage.specs.declared.faults.ChainFault.{ChainFault}
use Rattle.stage.specs.declared.outline.Outline.{Outline}
use Rattle.stage.specs.declared.outline.Span.{Span}
use Rattle.stage.specs.Faults.{deeper_by}
use Rattle.stage.specs.Lengths.{through, longest_with}
use Rattle.stage.specs.Plain.{Plain, within, judged}

-- A stage is a plain stage or a pile; a pile is two stages, the second nearer the line.
pub data Model : Type 0 where
  plain : Plain → Model
  pile : Model → Model → Model

-- The most plain stages that a pile may be made of.
abbrev pub most_members : ℕ
most_members = 65535

-- The longest list that a stage may take or put out.
abbrev pub longest_list : ℕ
longest_list = 65535

-- The highest element that any alphabet may have.
abbrev pub highest_element : ℕ
highest_element = 255

-- The highest element that a stage takes.
abbrev pub takes : Model → ℕ
takes (plain p) = p.takes
takes (pile a b) = takes a

-- The highest element that a stage puts out.
abbrev pub puts : Model → ℕ
puts (plain p) = p.puts
puts (pile a b) = puts b

-- How many plain stages a stage is made of.
abbrev pub members : Model → ℕ
members (plain p) = 1
members (pile a b) = members a + members b

-- Whether the members fit: nowhere does a first member put out more than the second takes, and
-- no pile is made of too many plain stages.
abbrev pub fits : Model → Bool
fits (plain p) = true
fits (pile a b) = (fits a && fits b) && (nat_le (puts a) (takes b) && nat_le (members a + members b) most_members)

-- The length of the coding of a list of n elements; none if n is no legal length.
abbrev pub coded_length : Model → ℕ → Option ℕ
coded_length (plain p) n = p.coded_length n
coded_length (pile a b) n = through (coded_length a n) (coded_length b)

-- The length of the lists whose codings have n elements; none if no coding has.
abbrev pub message_length : Model → ℕ → Option ℕ
message_length (plain p) n = p.message_length n
message_length (pile a b) n = through (message_length b n) (message_length a)

-- Room for coding: the longest list of a call that is given n elements, those included.
abbrev pub code_room : Model → ℕ → ℕ
code_room (plain p) n = longest_with n (p.coded_length n) (λ k. k)
code_room (pile a b) n = longest_with (code_room a n) (coded_length a n) (code_room b)

-- Room for decoding: the longest list of a call that is given n elements, counted from the line
-- inward up to and with the first list whose length no coding of its plain stage has.
abbrev pub decode_room : Model → ℕ → ℕ
decode_room (plain p) n = longest_with n (p.message_length n) (λ k. k)
decode_room (pile a b) n = longest_with (decode_room b n) (message_length b n) (decode_room a)

-- The coding of a legal list.
abbrev pub coding : Model → List ℕ → List ℕ
coding (plain p) xs = p.coding xs
coding (pile a b) xs = coding b (coding a xs)

-- The first member's answer as the pile's: its fault lies deeper by the plain stages nearer the line.
abbrev pub deepened : ℕ → Result (List ℕ) ChainFault → Result (List ℕ) ChainFault
deepened nearer (Ok xs) = Ok xs
deepened nearer (Err f) = Err (deeper_by nearer f)

-- Decoding goes on with the first member where the second accepts, and stops at the second's fault.
abbrev pub inward : ℕ → Result (List ℕ) ChainFault → (List ℕ → Result (List ℕ) ChainFault) → Result (List ℕ) ChainFault
inward nearer (Ok ms) first = deepened nearer (first ms)
inward nearer (Err f) first = Err f

-- The answer to a received list: the list of which it is the coding, or the fault.
abbrev pub decoding : Model → List ℕ → Result (List ℕ) ChainFault
decoding (plain p) ys = judged p ys (p.message_length (length ys))
decoding (pile a b) ys = inward (members b) (decoding b ys) (decoding a)

-- Whether a list is legal: the members fit, and it has a legal length and elements that are taken.
abbrev pub legal : Model → List ℕ → Bool
legal m xs = fits m && (within (takes m) xs && is_some (coded_length m (length xs)))

-- What a stage tells of itself; its count of plain stages stops at one above the most.
abbrev pub outlined : Model → Outline
outlined m = record { takes = takes m; puts = puts m; members = min (members m) (most_members + 1); fit = fits m }

-- How long the lists of a coding become, and those of a decoding.
abbrev pub code_span : Model → ℕ → Span
code_span m n = record { longest = code_room m n; last = coded_length m n }

abbrev pub decode_span : Model → ℕ → Span
decode_span m n = record { longest = decode_room m n; last = message_length m n }
