use Rattle.std.proofs.Common.{length, Err, sym, ap, ◌∙◌, arith}
use Rattle.std.proofs.lemmas.Result.{err_from_is_err_and}
use Rattle.stage.specs.declared.outline.Span.{Span}
use Rattle.stage.specs.Model.{decoding}
use Rattle.stage.specs.Rooms.{given_fits_decode_room}
use Rattle.stage.proofs.Calling.{outline_fits, copied_whole, beside, room_tested, decode_answered, decode_refused, fault_leaves}
use Rattle.stage.proofs.interface.Stage.decode.Goals as goal

pub copy_front-requires : goal.copy_front-requires
copy_front-requires g c =
    let given = given_fits_decode_room (g.Self.Stage.model c.args.self.now) (length c.args.list.now) in
    let room = room_tested _ _ _ c.decoded_span-span.result c.fits_in.result (ap (λ (s : Span). s.longest) c.decoded_span-span.ensures) c.fits_in.ensures c.if-not-fits_in.false in
    record { source = omega arith; target = omega (arith, given, room.1) }

pub decode_in-requires : goal.decode_in-requires
decode_in-requires g c =
    let m = g.Self.Stage.model c.args.self.now in
    let room = room_tested _ _ _ c.decoded_span-span.result c.fits_in.result (ap (λ (s : Span). s.longest) c.decoded_span-span.ensures) c.fits_in.ensures c.if-not-fits_in.false in
    let given = given_fits_decode_room m (length c.args.list.now) in
    record {
      fit = outline_fits m c.outline.result c.outline.ensures c.if-not-outline.false;
      front = omega (arith, given, room.1, c.copy_front.auto.to);
      work_room = room.0;
      result_room = omega (arith, room.1, c.copy_front.auto.to);
    }

pub returns-in_err-length : goal.returns-in_err-length
returns-in_err-length g c =
    let m = g.Self.Stage.model c.args.self.now in
    let list = c.args.list.now in
    let fit = outline_fits m c.outline.result c.outline.ensures c.if-not-outline.false in
    let room = room_tested _ _ _ c.decoded_span-span.result c.fits_in.result (ap (λ (s : Span). s.longest) c.decoded_span-span.ensures) c.fits_in.ensures c.if-not-fits_in.false in
    let whole = copied_whole list c.copy_front.new.to c.copy_front.ensures.front in
    let fault = c.in_err-length.field-0.0 in
    let p = err_from_is_err_and c.from_residual.result c.from_residual.ensures.1 in
    let turned = p.1 ∙ ap Err p.2 in
    let no_list = ap (decoding m) (sym whole) ∙ c.in_err-length.ensures in
    record {
      answer = turned ∙ decode_refused m list fault _ _ fit room.0 room.1 no_list;
      buffers = fault_leaves (decoding m list) _ fault _ _ _ _ turned c.decode_in.auto.work (c.decode_in.auto.res ∙ c.copy_front.auto.to);
    }

pub returns : goal.returns
returns g c =
    let m = g.Self.Stage.model c.args.self.now in
    let list = c.args.list.now in
    let fit = outline_fits m c.outline.result c.outline.ensures c.if-not-outline.false in
    let room = room_tested _ _ _ c.decoded_span-span.result c.fits_in.result (ap (λ (s : Span). s.longest) c.decoded_span-span.ensures) c.fits_in.ensures c.if-not-fits_in.false in
    let whole = copied_whole list c.copy_front.new.to c.copy_front.ensures.front in
    let left = c.in_ok-length.ensures in
    let the_list = ap (decoding m) (sym whole) ∙ left.0 in
    record {
      answer = decode_answered m list c.decode_in.new.res c.in_ok-length.length _ _ fit room.0 room.1 the_list left.1;
      buffers = (the_list, beside c.in_ok-length.length _ _ _ _ left.1 c.decode_in.auto.work (c.decode_in.auto.res ∙ c.copy_front.auto.to));
    }
