-- A chain as a stage of its own.
use Rattle.chains.specs.declared.wholes.Chain.{Chain}
use Rattle.stage.specs.Model.{Model, fits}
use Rattle.stage.specs.Promise.{Promise}
use Rattle.std.specs.Prelude.{◌≡◌, true}

-- It means what its pile means.
abbrev pub of_whole : {P : Type 0} → (P → Model) → Chain P → Model
of_whole meaning c = meaning c.pile

-- It keeps the promise as its pile does.
pub whole_keeps : {P : Type 0} (meaning : P → Model) → ((p : P) → fits (meaning p) ≡ true → Promise (meaning p)) → (c : Chain P) → fits (of_whole meaning c) ≡ true → Promise (of_whole meaning c)
whole_keeps meaning keeps c fit = keeps c.pile fit
