-- What each line is answered.
use Rattle.std.specs.Prelude.{ℕ, cond, List, Some, None, codes, Option}
use Rattle.protocol.specs.Stages.{stage_reply}
use Rattle.wording.specs.Calls.{then_read}
use Rattle.wording.specs.declared.requests.Direction.TheVariants.{Code, Decode}
use Rattle.wording.specs.Lines.{skipped, without_end}
use Rattle.wording.specs.Sizes.{size_reply}
use Rattle.wording.specs.Words.{read_word, words}
use Rattle.std.specs.Option.{unwrap_or}
use Rattle.std.specs.Str.{bytes_eq}

-- The answer to the words of a call, if they are one.
abbrev pub call_reply : List (List ℕ) → Option (List ℕ)
call_reply ws =
    then_read (read_word ws)
    (λ name rest. cond (bytes_eq name (codes "size")) (size_reply rest)
    (cond (bytes_eq name (codes "code")) (stage_reply Code rest)
    (cond (bytes_eq name (codes "decode")) (stage_reply Decode rest) None)))

-- What a line without its end is answered: nothing, if it is skipped.
abbrev pub body_reply : List ℕ → Option (List ℕ)
body_reply bs = cond (skipped bs) None (Some (unwrap_or (call_reply (words bs)) (codes "unreadable")))

-- What a line is answered.
abbrev pub reply_of : List ℕ → Option (List ℕ)
reply_of bs = body_reply (without_end bs)
