-- A desk, as its calls tell it.
use Rattle.desk.specs.declared.desks.Desk.{Desk}
use Rattle.desk.specs.Views.{DeskView}
use Rattle.receiving.specs.Receivers.{view}
use Rattle.std.specs.Prelude.{vec_items}
use Rattle.std.specs.Option.{option_map}

abbrev pub desk_view : Desk → DeskView
desk_view d =
    record {
      receiver = view d.receiver;
      cells = vec_items d.cells;
      begun = option_map (λ b. b.header) d.begun;
    }
