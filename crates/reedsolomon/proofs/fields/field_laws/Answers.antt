use Rattle.reedsolomon.specs.FieldFacts.{field_laws}
use Rattle.reedsolomon.proofs.fields.field_laws.Goals as goal

pub returns : goal.returns
returns c = field_laws
