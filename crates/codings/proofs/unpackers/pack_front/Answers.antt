use Rattle.std.proofs.Common.{ℕ, ◌≤◌, ◌*◌, length, ◌∙◌, rules, subst, arith}
use Rattle.codings.specs.GroupLaws.{part_long}
use Rattle.codings.specs.Unpackers.{byte_at}
use Rattle.codings.proofs.InPlace.{Gathered, gathered_more, gathered_in_front}
use Rattle.codings.proofs.UnpackInPlace.{bits_of_part, byte_of_part}
use Rattle.codings.proofs.unpackers.pack_front.Goals as goal

pub byte_from_bits-requires : goal.byte_from_bits-requires
byte_from_bits-requires c =
    let room : c.args.count * 8 ≤ length c.loop-i.buffer = omega (arith, c.requires.room, c.loop-i.invariant.0) in
    let long = part_long c.loop-i.i 8 c.loop-i.buffer (omega (arith, c.requires.room, c.loop-i.invariant.0)) in
    record {
      eight = long;
      bits = λ k l. bits_of_part c.args.buffer.now c.loop-i.buffer c.loop-i.i c.args.count (omega arith) room c.requires.bits c.loop-i.invariant.1 k (omega (arith, long));
    }

pub loop-i-preserved : goal.loop-i-preserved
loop-i-preserved c =
    let room : c.args.count * 8 ≤ length c.loop-i.buffer = omega (arith, c.requires.room, c.loop-i.invariant.0) in (
      search rules,
      gathered_more
          (λ k. byte_at c.args.buffer.now (k * 8))
          c.args.buffer.now
          c.loop-i.buffer
          c.loop-i.i
          c.byte_from_bits.result
          (omega (arith, room))
          (c.byte_from_bits.ensures ∙ byte_of_part c.args.buffer.now c.loop-i.buffer c.loop-i.i c.args.count (omega arith) room c.requires.bits c.loop-i.invariant.1)
          c.loop-i.invariant.1,
    )

pub returns : goal.returns
returns c =
    gathered_in_front
    (λ k. byte_at c.args.buffer.now (k * 8))
    c.args.count
    c.args.buffer.now
    c.loop-i.buffer
    (omega (arith, c.requires.room, c.loop-i.invariant.0))
    (subst (λ (m : ℕ). Gathered (λ k. byte_at c.args.buffer.now (k * 8)) c.args.buffer.now c.loop-i.buffer m) (omega arith) c.loop-i.invariant.1)
