-- What a receiver holds, as the calls tell it.
use Rattle.std.specs.Prelude.{ℕ, List, take}
use Rattle.receiving.specs.declared.states.Phase.{Phase}
use Rattle.receiving.specs.declared.states.Phase.TheVariants.{Deaf, Heading, Loading, Whole}
use Rattle.receiving.specs.declared.receivers.Receiver.{Receiver}
use Rattle.receiving.specs.Keeping.{kept, rows_kept}
use Rattle.receiving.specs.Steps.{View, deaf, heading, loading, whole}

-- By the phase, with the count and the cells of the rows kept, and the bytes decoded.
abbrev pub view_at : Phase → ℕ → List ℕ → List ℕ → View
view_at Deaf rows cells bytes = deaf
view_at (Heading reference) rows cells bytes = heading reference.cells rows cells
view_at (Loading l) rows cells bytes = loading l.header rows cells
view_at (Whole h n) rows cells bytes = whole h (take n bytes)

-- What a receiver holds.
abbrev pub view : Receiver → View
view r = view_at r.phase (rows_kept r.kept) (kept r.kept) r.bytes
