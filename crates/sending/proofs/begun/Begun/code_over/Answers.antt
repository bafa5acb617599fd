use Rattle.std.proofs.Common.{ℕ, replicate, arith}
use lib.ListN.{length-replicate}
use Rattle.stage.specs.Lists.{within_from}
use Rattle.sending.proofs.CallLaws.{payload_never_refused}
use Rattle.sending.proofs.begun.Begun.code_over.Goals as goal

pub unreachable-requires : goal.unreachable-requires
unreachable-requires c =
    payload_never_refused
    c.args.self.now.header
    c.args.row.now.cells
    c.args.live.now
    c.args.bytes.now
    (replicate {A = ℕ} 9072 0)
    _
    c.code_payload.result
    _
    c.args.self.now.legal
    c.args.row.now.phases
    c.requires.live
    c.requires.exactly
    (within_from 255 c.args.bytes.now (λ i l. omega (arith, c.type_inv.bytes i)))
    (length-replicate {A = ℕ} 9072 0)
    c.told-coded
    c.code_payload.ensures.answer
    c.in_default.is
