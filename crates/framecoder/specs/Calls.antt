-- The two calls of a stage that settings make, or refuse to make.
use Rattle.std.specs.Prelude.{ℕ, List, length, Ok, Err, Result}
use Rattle.framecoder.specs.declared.answers.Answer.{Answer}
use Rattle.framecoder.specs.Answers.{refused, told}
use Rattle.stage.specs.Calls.{code_answer, decode_answer, Coded, Decoded, Untouched}
use Rattle.stage.specs.declared.faults.Refusal.{Refusal}
use Rattle.stage.specs.Model.{Model, coding, decoding}

-- What `code` is answered with the stage made of its settings, by the list and the lengths of the
-- work and result buffers; refused settings are told first.
abbrev pub code_told : Result Model Refusal → List ℕ → ℕ → ℕ → Answer
code_told (Ok m) xs work result = told (code_answer m xs work result)
code_told (Err e) xs work result = refused e

-- What `decode` is answered, alike.
abbrev pub decode_told : Result Model Refusal → List ℕ → ℕ → ℕ → Answer
decode_told (Ok m) ys work result = told (decode_answer m ys work result)
decode_told (Err e) ys work result = refused e

-- What `code` leaves in the work and result buffers; refused settings leave them as they were.
abbrev pub CodeLeaves : Result Model Refusal → List ℕ → List ℕ → List ℕ → List ℕ → List ℕ → Type 0
CodeLeaves (Ok m) xs work result work' result' =
    Coded (coding m xs) (code_answer m xs (length work) (length result)) work result work' result'
CodeLeaves (Err e) xs work result work' result' = Untouched work result work' result'

-- What `decode` leaves in them, alike.
abbrev pub DecodeLeaves : Result Model Refusal → List ℕ → List ℕ → List ℕ → List ℕ → List ℕ → Type 0
DecodeLeaves (Ok m) ys work result work' result' =
    Decoded (decoding m ys) (decode_answer m ys (length work) (length result)) work result work' result'
DecodeLeaves (Err e) ys work result work' result' = Untouched work result work' result'
