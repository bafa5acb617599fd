-- The two calls: what they answer, and what the two lent buffers hold then.
use Rattle.std.specs.Prelude.{◌≡◌, ℕ, ◌≤◌, cond, List, length, take, drop, Ok, Err, Result}
use Rattle.stage.specs.declared.faults.ChainFault.{ChainFault}
use Rattle.stage.specs.declared.faults.Refusal.{Refusal}
use Rattle.stage.specs.declared.faults.Refusal.TheVariants.{Setting, TooShort, Fault, Illegal, Misfit}
use Rattle.stage.specs.Lengths.{roomy}
use Rattle.stage.specs.Model.{Model, fits, legal, coding, decoding, code_room, decode_room}

-- The answer to `code`: 14 where the members do not fit, then 13 for an illegal list, then 7 for a
-- buffer that is too short, else the length of the coding. Lengths of the buffers are given.
abbrev pub code_answer : Model → List ℕ → ℕ → ℕ → Result ℕ Refusal
code_answer m xs work result =
    cond
    (fits m)
    (cond (legal m xs) (cond (roomy (code_room m (length xs)) work result) (Ok (length (coding m xs))) (Err TooShort)) (Err Illegal))
    (Err Misfit)

-- The answer to a received list by the length of the list it leads to, or by the fault.
abbrev pub counted : Result (List ℕ) ChainFault → Result ℕ Refusal
counted (Ok xs) = Ok (length xs)
counted (Err f) = Err (Fault f)

-- The answer to `decode`: 14 where the members do not fit, then 7 for a buffer that is too short,
-- then 10 with the fault where the list is no coding, else the length of the list coded.
abbrev pub decode_answer : Model → List ℕ → ℕ → ℕ → Result ℕ Refusal
decode_answer m ys work result =
    cond (fits m) (cond (roomy (decode_room m (length ys)) work result) (counted (decoding m ys)) (Err TooShort)) (Err Misfit)

-- Working memory is a part of a buffer that a call may leave with anything in it. All that is
-- known of it is that it is as long as before.
abbrev pub WorkingMemory : List ℕ → List ℕ → Type 0
WorkingMemory before after = length after ≡ length before

-- Nothing was written: both buffers are as they were.
abbrev pub Untouched : List ℕ → List ℕ → List ℕ → List ℕ → Type 0
Untouched work result work' result' = (work' ≡ work) × (result' ≡ result)

-- What a successful call leaves beside its list of n elements, which lie inside the result buffer:
-- the result buffer behind them and the work buffer are working memory.
pub record Beside (n : ℕ) (work result work' result' : List ℕ) : Type 0 where
  pub inside : n ≤ length result
  pub behind : WorkingMemory (drop n result) (drop n result')
  pub scratch : WorkingMemory work work'

-- The buffers after `code` with an answer: the coding in front, or nothing written.
abbrev pub Coded : List ℕ → Result ℕ Refusal → List ℕ → List ℕ → List ℕ → List ℕ → Type 0
Coded coded (Ok n) work result work' result' = (take n result' ≡ coded) × Beside n work result work' result'
Coded coded (Err e) work result work' result' = Untouched work result work' result'

-- The buffers after a refused `decode`: working memory, whole, after a fault, and else untouched.
abbrev pub Refused : Refusal → List ℕ → List ℕ → List ℕ → List ℕ → Type 0
Refused (Fault f) work result work' result' = WorkingMemory work work' × WorkingMemory result result'
Refused Setting work result work' result' = Untouched work result work' result'
Refused TooShort work result work' result' = Untouched work result work' result'
Refused Illegal work result work' result' = Untouched work result work' result'
Refused Misfit work result work' result' = Untouched work result work' result'

-- The buffers after `decode` with an answer: the list in front, or as a refusal leaves them.
abbrev pub Decoded : Result (List ℕ) ChainFault → Result ℕ Refusal → List ℕ → List ℕ → List ℕ → List ℕ → Type 0
Decoded decoded (Ok n) work result work' result' = (decoded ≡ Ok (take n result')) × Beside n work result work' result'
Decoded decoded (Err e) work result work' result' = Refused e work result work' result'

-- The first n elements of a buffer, which has as many, are `xs`.
pub record Holds (buffer : List ℕ) (n : ℕ) (xs : List ℕ) : Type 0 where
  pub long : n ≤ length buffer
  pub front : take n buffer ≡ xs

-- What an in-place decoding leaves: the list at the front of the buffer, or its fault.
abbrev pub Leaves : Result (List ℕ) ChainFault → Result ℕ ChainFault → List ℕ → Type 0
Leaves decoded (Ok n) buffer = (decoded ≡ Ok (take n buffer)) × (n ≤ length buffer)
Leaves decoded (Err f) buffer = decoded ≡ Err f

-- Both buffers have room for a stage to decode the list that an earlier one left, if it left one.
abbrev pub HasRoom : Model → Result ℕ ChainFault → List ℕ → List ℕ → Type 0
HasRoom m (Ok n) work result = (decode_room m n ≤ length work) × (decode_room m n ≤ length result)
HasRoom m (Err f) work result = Unit {0}
