-- The words that name a stage with its settings, and what its calls are answered.
use Rattle.std.specs.Prelude.{ℕ, cond, List, None, codes, Option}
use Rattle.codings.specs.Checks.{checking}
use Rattle.codings.specs.Repeats.{made_repeat}
use Rattle.codings.specs.Scramblers.{scrambling}
use Rattle.codings.specs.Unpackers.{unpacking}
use Rattle.phases.specs.Maps.{made_map}
use Rattle.wording.specs.Calls.{then_read}
use Rattle.wording.specs.declared.requests.Direction.{Direction}
use Rattle.wording.specs.Stages.{difference_reply, fill_reply, number_reply, plain_reply}
use Rattle.wording.specs.Words.{read_word}
use Rattle.stage.specs.Model.{plain}
use Rattle.std.specs.Str.{bytes_eq}

-- What the calls of a stage are answered, by its name and the words behind it.
abbrev pub named_reply : Direction → List ℕ → List (List ℕ) → Option (List ℕ)
named_reply d name ws =
    cond (bytes_eq name (codes "check")) (plain_reply (plain checking) d ws)
    (cond (bytes_eq name (codes "scramble")) (plain_reply (plain (scrambling 0)) d ws)
    (cond (bytes_eq name (codes "unpack-bits")) (plain_reply (plain unpacking) d ws)
    (cond (bytes_eq name (codes "fill")) (fill_reply d ws)
    (cond (bytes_eq name (codes "repeat")) (number_reply made_repeat d ws)
    (cond (bytes_eq name (codes "map")) (number_reply made_map d ws)
    (cond (bytes_eq name (codes "difference")) (difference_reply d ws) None))))))

-- The name of a stage, its settings, and what is asked of it.
abbrev pub stage_reply : Direction → List (List ℕ) → Option (List ℕ)
stage_reply d ws = then_read (read_word ws) (λ name rest. named_reply d name rest)
