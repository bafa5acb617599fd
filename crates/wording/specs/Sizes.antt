-- What `size` is answered.
use Rattle.std.specs.Prelude.{ℕ, List, [], Ok, Err, codes, Option, Result}
use Rattle.frame.specs.Answers.{size_answer}
use Rattle.frame.specs.declared.refusals.Refusal.{Refusal}
use Rattle.frame.specs.Refusals.{number_of}
use Rattle.wording.specs.Lasts.{last_header}
use Rattle.wording.specs.Texts.{labelled, refused_text}
use Rattle.std.specs.Option.{option_map}

-- The text of what `size` answered.
abbrev pub sized_text : Result (ℕ × ℕ) Refusal → List ℕ
sized_text (Ok p) = labelled (labelled [] (codes "size ") p.0) (codes " ") p.1
sized_text (Err e) = refused_text (number_of e)

-- The words of `size HEADER`, and its answer.
abbrev pub size_reply : List (List ℕ) → Option (List ℕ)
size_reply ws = option_map (λ h. sized_text (size_answer h)) (last_header ws)
