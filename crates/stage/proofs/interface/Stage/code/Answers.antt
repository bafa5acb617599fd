use Rattle.std.proofs.Common.{◌≡◌, ℕ, true, List, length, sym, ap, ◌∙◌, subst, arith}
use Rattle.stage.specs.declared.outline.Span.{Span}
use Rattle.stage.specs.Model.{legal, coding}
use Rattle.stage.specs.Rooms.{given_fits_code_room}
use Rattle.stage.proofs.Calling.{outline_legal, copied_whole, beside, room_tested, code_answered}
use Rattle.stage.proofs.interface.Stage.code.Goals as goal

pub copy_front-requires : goal.copy_front-requires
copy_front-requires g c =
    let given = given_fits_code_room (g.Self.Stage.model c.args.self.now) (length c.args.list.now) in
    let room = room_tested _ _ _ c.coded_span-span.result c.fits_in.result (ap (λ (s : Span). s.longest) c.coded_span-span.ensures) c.fits_in.ensures c.if-not-fits_in.false in
    record { source = omega arith; target = omega (arith, given, room.1) }

pub code_in-requires : goal.code_in-requires
code_in-requires g c =
    let m = g.Self.Stage.model c.args.self.now in
    let list = c.args.list.now in
    let room = room_tested _ _ _ c.coded_span-span.result c.fits_in.result (ap (λ (s : Span). s.longest) c.coded_span-span.ensures) c.fits_in.ensures c.if-not-fits_in.false in
    let given = given_fits_code_room m (length list) in
    let whole = copied_whole list c.copy_front.new.to c.copy_front.ensures.front in
    let good = outline_legal m list c.outline-outline.result c.coded_span-span.result c.all_within.result c.outline-outline.ensures c.if-not-outline.false c.all_within.ensures c.if-not-all_within.false c.coded_span-span.ensures c.if-is_none.ensures in
    record {
      list = subst (λ (xs : List ℕ). legal m xs ≡ true) (sym whole) good;
      front = omega (arith, given, room.1, c.copy_front.auto.to);
      work_room = room.0;
      result_room = omega (arith, room.1, c.copy_front.auto.to);
    }

pub returns : goal.returns
returns g c =
    let m = g.Self.Stage.model c.args.self.now in
    let list = c.args.list.now in
    let room = room_tested _ _ _ c.coded_span-span.result c.fits_in.result (ap (λ (s : Span). s.longest) c.coded_span-span.ensures) c.fits_in.ensures c.if-not-fits_in.false in
    let whole = copied_whole list c.copy_front.new.to c.copy_front.ensures.front in
    let good = outline_legal m list c.outline-outline.result c.coded_span-span.result c.all_within.result c.outline-outline.ensures c.if-not-outline.false c.all_within.ensures c.if-not-all_within.false c.coded_span-span.ensures c.if-is_none.ensures in
    record {
      answer = code_answered m list c.copy_front.new.to c.code_in.new.res c.code_in.result _ _ good room.0 room.1 whole c.code_in.ensures;
      buffers = (c.code_in.ensures.front ∙ ap (coding m) whole, beside c.code_in.result _ _ _ _ c.code_in.ensures.long c.code_in.auto.work (c.code_in.auto.res ∙ c.copy_front.auto.to));
    }
