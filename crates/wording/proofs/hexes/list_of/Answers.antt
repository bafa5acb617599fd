use Rattle.std.proofs.Common.{sym, arith}
use Rattle.wording.proofs.HexLaws.{byte_is, digit_at, one_more_byte}
use Rattle.wording.proofs.hexes.list_of.Goals as goal

pub byte_of-requires-clause-high : goal.byte_of-requires-clause-high
byte_of-requires-clause-high c =
    digit_at c.args.word.now _ _ 0 c.as_chunks.ensures.front c.as_chunks.ensures.front_len (sym c.if-not-all_hex.ensures)
    c.loop-high-test.true
    (omega arith)

pub byte_of-requires-clause-low : goal.byte_of-requires-clause-low
byte_of-requires-clause-low c =
    digit_at c.args.word.now _ _ 1 c.as_chunks.ensures.front c.as_chunks.ensures.front_len (sym c.if-not-all_hex.ensures)
    c.loop-high-test.true
    (omega arith)

pub loop-high-preserved : goal.loop-high-preserved
loop-high-preserved c =
    one_more_byte c.args.word.now _ _ _ c.loop-high.high-index c.loop-high.invariant
    (byte_is c.args.word.now _ _ _ c.as_chunks.ensures.front c.as_chunks.ensures.front_len c.loop-high-test.true c.byte_of.ensures)
    c.in_ok-push.ensures.items
