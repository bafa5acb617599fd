-- What calls that depend on none before them are answered.
use Rattle.std.specs.Prelude.{ℕ, cond, List, None, codes, Option}
use Rattle.talk.specs.Packs.{pack_reply, unpack_reply}
use Rattle.talk.specs.Stages.{stage_reply}
use Rattle.wording.specs.declared.requests.Direction.TheVariants.{Code, Decode}
use Rattle.wording.specs.Sizes.{size_reply}
use Rattle.std.specs.Str.{bytes_eq}

-- The answer to a call that depends on none before it, by its name and the words behind it.
abbrev pub call_reply : List ℕ → List (List ℕ) → Option (List ℕ)
call_reply name ws =
    cond (bytes_eq name (codes "size")) (size_reply ws)
    (cond (bytes_eq name (codes "pack")) (pack_reply ws)
    (cond (bytes_eq name (codes "unpack")) (unpack_reply ws)
    (cond (bytes_eq name (codes "code")) (stage_reply Code ws)
    (cond (bytes_eq name (codes "decode")) (stage_reply Decode ws) None))))
