-- A stage that is one of two.
use Rattle.chains.specs.declared.choices.Choice.{Choice}
use Rattle.chains.specs.declared.choices.Choice.TheVariants.{First, Second}
use Rattle.stage.specs.Model.{Model, fits}
use Rattle.stage.specs.Promise.{Promise}
use Rattle.std.specs.Prelude.{◌≡◌, true}

-- The meaning of the one that it is.
abbrev pub one_of : {A B : Type 0} → (A → Model) → (B → Model) → Choice A B → Model
one_of first second (First a) = first a
one_of first second (Second b) = second b

-- It keeps the promise if both would.
pub one_of_keeps : {A B : Type 0} (first : A → Model) (second : B → Model) → ((a : A) → fits (first a) ≡ true → Promise (first a)) → ((b : B) → fits (second b) ≡ true → Promise (second b)) → (c : Choice A B) → fits (one_of first second c) ≡ true → Promise (one_of first second c)
one_of_keeps first second one other (First a) fit = one a fit
one_of_keeps first second one other (Second b) fit = other b fit
