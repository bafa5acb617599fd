use Rattle.std.proofs.Common.{◌*◌, ◌∙◌, length, rules, arith}
use Rattle.codings.specs.Unpackers.{byte_at}
use Rattle.codings.specs.GroupLaws.{chunk_next, chunks_done, written_more}
use Rattle.codings.specs.UnpackLaws.{byte_of_chunk, packed_all}
use Rattle.codings.proofs.unpackers.pack.Goals as goal

pub byte_from_bits-requires : goal.byte_from_bits-requires
byte_from_bits-requires c =
    let chunk = chunk_next c.args.bits.now _ c.in-Some.eight.now _ 8 _ _ (omega arith) c.loop-i.invariant.2 c.loop-i.invariant.3 c.in-Some.ensures.steps.0.1 in
    record { eight = chunk.long; bits = λ k l. omega (arith, chunk.at k (omega (arith, chunk.long)), chunk.inside, chunk.long, c.requires.bits) }

pub bounds-bytes-i : goal.bounds-bytes-i
bounds-bytes-i c =
    let chunk = chunk_next c.args.bits.now _ c.in-Some.eight.now _ 8 _ _ (omega arith) c.loop-i.invariant.2 c.loop-i.invariant.3 c.in-Some.ensures.steps.0.1 in
    omega (arith, chunk.inside, c.in-Some.ensures.steps.1, c.requires.eights, c.loop-i.auto.bytes)

pub loop-i-preserved : goal.loop-i-preserved
loop-i-preserved c =
    let steps = c.in-Some.ensures.steps in
    let chunk = chunk_next c.args.bits.now _ c.in-Some.eight.now _ 8 _ _ (omega arith) c.loop-i.invariant.2 c.loop-i.invariant.3 steps.0.1 in
    let made = c.byte_from_bits.ensures ∙ byte_of_chunk _ _ _ _ chunk c.requires.bits in (
      search rules,
      search rules,
      steps.0.0 ∙ c.loop-i.invariant.2,
      chunk.behind _ steps.2,
      written_more (λ k. byte_at c.args.bits.now (k * 8)) c.loop-i.bytes _ _ _ _ steps.1 (omega (arith, chunk.inside, c.requires.eights, c.loop-i.auto.bytes)) steps.2 made c.loop-i.invariant.4,
    )

pub returns : goal.returns
returns c =
    let done = chunks_done c.args.bits.now _ 8 _ (length c.args.bytes.now) c.loop-i.invariant.3 (omega (arith, c.in-None.ensures.steps.0.1.0, c.loop-i.invariant.2)) c.requires.eights in
    packed_all (length c.args.bytes.now) _ c.args.bits.now c.loop-i.bytes done c.loop-i.auto.bytes c.loop-i.invariant.4
