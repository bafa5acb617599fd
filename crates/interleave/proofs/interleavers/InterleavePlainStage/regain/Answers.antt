use Rattle.std.proofs.Common.{◌≡◌, ◌*◌, length, sym, ◌∙◌, arith}
use Rattle.interleave.specs.Interleavings.{goes_to}
use Rattle.interleave.specs.MoveLaws.{exactly_is, known_few, known_one_to_one}
use Rattle.interleave.proofs.CallLaws.{all_bits, fetch_more, fetch_all, agrees_to}
use Rattle.interleave.proofs.interleavers.InterleavePlainStage.regain.Goals as goal

pub returns-in-Some : goal.returns-in-Some
returns-in-Some c =
    let m = c.args.self.now.block.width in
    let n = c.args.self.now.block.rows in
    let b = c.args.self.now.blocks in
    let same = exactly_is (m * n * b) (length c.args.received.now) (length c.args.list.now) c.requires in
    let h = c.in-Some.ensures in
    (agrees_to (m * n * b) (length c.args.list.now) (goes_to m n) c.args.received.now c.in-Some.place (known_one_to_one m n b c.args.self.now.known) (sym same.1) same.0 (omega (arith, h.0)) h.1 (λ _. h.2), h.0)

pub bounds-received-place : goal.bounds-received-place
bounds-received-place c =
    let m = c.args.self.now.block.width in
    let n = c.args.self.now.block.rows in
    let b = c.args.self.now.blocks in
    let same = exactly_is (m * n * b) (length c.args.received.now) (length c.args.list.now) c.requires in
    let goes : c.place.result ≡ goes_to m n c.loop-bit.bit-index = cc in
    omega (arith, goes, same.0, same.1, (known_one_to_one m n b c.args.self.now.known).inside c.loop-bit.bit-index (omega arith))

pub onward-walk-requires : goal.onward-walk-requires
onward-walk-requires c =
    let m = c.args.self.now.block.width in
    let n = c.args.self.now.block.rows in
    let b = c.args.self.now.blocks in
    let same = exactly_is (m * n * b) (length c.args.received.now) (length c.args.list.now) c.requires in
    let few = known_few m n b c.args.self.now.known in
    omega (arith, same.0, same.1, c.loop-bit.invariant.place)

pub loop-bit-preserved : goal.loop-bit-preserved
loop-bit-preserved c =
    let m = c.args.self.now.block.width in
    let n = c.args.self.now.block.rows in
    let goes : c.place.result ≡ goes_to m n c.loop-bit.bit-index = cc in
    record {
      block = c.onward-walk.ensures.block ∙ c.loop-bit.invariant.block;
      place = omega (arith, c.onward-walk.ensures.bit, c.loop-bit.invariant.place);
      fetched = fetch_more (goes_to m n) c.args.received.now c.loop-bit.list c.loop-bit.bit-index c.place.result (omega arith) goes c.loop-bit.invariant.fetched;
    }

pub returns : goal.returns
returns c =
    let m = c.args.self.now.block.width in
    let n = c.args.self.now.block.rows in
    let b = c.args.self.now.blocks in
    let same = exactly_is (m * n * b) (length c.args.received.now) (length c.args.list.now) c.requires in
    let one = known_one_to_one m n b c.args.self.now.known in
    let bits = all_bits c.args.received.now c.first_above.result c.first_above.ensures c.in_default.not-Some in (
      agrees_to (m * n * b) (length c.loop-bit.list) (goes_to m n) c.args.received.now (length c.args.received.now) one (omega (arith, same.1, c.loop-bit.auto.list)) same.0 (omega arith) bits (λ l. absurd (omega arith)),
      fetch_all (m * n * b) (goes_to m n) c.args.received.now c.loop-bit.list c.loop-bit.bit-index one same.0 (omega (arith, same.1, c.loop-bit.auto.list)) (omega arith) bits c.loop-bit.invariant.fetched,
    )
