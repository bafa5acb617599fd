-- The text of answers: refusals, faults, headers, and the answers to stage calls.
use Rattle.std.specs.Prelude.{ℕ, min, List, [], ◌++◌, take, Ok, Err, codes, decimal, Result}
use Rattle.frame.specs.declared.headers.Header.{Header}
use Rattle.wording.specs.Hexes.{hex_of}
use Rattle.stage.specs.Calls.{code_answer, decode_answer}
use Rattle.stage.specs.declared.faults.ChainFault.{ChainFault}
use Rattle.stage.specs.declared.faults.Refusal.{Refusal}
use Rattle.stage.specs.declared.faults.Refusal.TheVariants.{Setting, TooShort, Fault, Illegal, Misfit}
use Rattle.stage.specs.Faults.{number_of}
use Rattle.stage.specs.Model.{Model, coding, decoding}

-- A text with a label more, and behind it a number.
abbrev pub labelled : List ℕ → List ℕ → ℕ → List ℕ
labelled text label n = (text ++ label) ++ decimal n

-- The text of a refusal by its number.
abbrev pub refused_text : ℕ → List ℕ
refused_text n = labelled [] (codes "refused ") n

-- A text with a chain's fault behind it.
abbrev pub with_chain_fault : List ℕ → ChainFault → List ℕ
with_chain_fault text f =
    labelled (labelled (labelled text (codes " stage ") f.fault.number) (codes " place ") f.fault.place) (codes " depth ") f.depth

-- A text with a header's numbers behind it: PDC, MOD, FL, TM and DT.
abbrev pub with_header : List ℕ → Header → List ℕ
with_header text h =
    labelled (labelled (labelled (labelled (labelled text
    (codes " ") h.pdc)
    (codes " ") h.modulation)
    (codes " ") h.fl)
    (codes " ") h.tm)
    (codes " ") h.dt

-- A text with the fault behind it, if the refusal has one.
abbrev pub with_fault : List ℕ → Refusal → List ℕ
with_fault text (Fault f) = with_chain_fault text f
with_fault text Setting = text
with_fault text TooShort = text
with_fault text Illegal = text
with_fault text Misfit = text

-- The text of a refused stage call.
abbrev pub refusal_text : Refusal → List ℕ
refusal_text e = with_fault (refused_text (number_of e)) e

-- The text of a list that a stage call gave.
abbrev pub list_text : List ℕ → List ℕ
list_text xs = codes "list " ++ hex_of xs

-- The text of an answer that left a list in front of its buffer, or none.
abbrev pub answer_text : Result ℕ Refusal → List ℕ → List ℕ
answer_text (Ok n) buffer = list_text (take n buffer)
answer_text (Err e) buffer = refusal_text e

-- The text of the answer to `code`.
abbrev pub coded_text : List ℕ → Result ℕ Refusal → List ℕ
coded_text xs (Ok n) = list_text xs
coded_text xs (Err e) = refusal_text e

abbrev pub code_text : Model → List ℕ → ℕ → ℕ → List ℕ
code_text m xs work result = coded_text (coding m xs) (code_answer m xs work result)

-- The text of the answer to `decode`.
abbrev pub decoded_text : Result (List ℕ) ChainFault → Result ℕ Refusal → List ℕ
decoded_text (Ok xs) (Ok n) = list_text xs
decoded_text (Err f) (Ok n) = []
decoded_text d (Err e) = refusal_text e

abbrev pub decode_text : Model → List ℕ → ℕ → ℕ → List ℕ
decode_text m ys work result = decoded_text (decoding m ys) (decode_answer m ys work result)

-- A buffer is served with at most so many elements: no list or frame is longer.
abbrev pub most_served : ℕ
most_served = 65536

-- The length of the buffer that is lent for a number asked for.
abbrev pub served : ℕ → ℕ
served n = min n most_served
