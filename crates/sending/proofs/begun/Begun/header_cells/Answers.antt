use Rattle.std.proofs.Common.{ap, ◌∙◌, rules}
use Rattle.rows.specs.Carriers.{is_reference}
use Rattle.sending.specs.Sendings.{header_part}
use Rattle.sending.proofs.CallLaws.{header_filled}
use Rattle.sending.proofs.begun.Begun.header_cells.Goals as goal

pub returns : goal.returns
returns c =
    header_filled
    c.args.self.now.header
    c.cells.result.now
    c.header_bits-bits.result
    _
    _
    _
    _
    c.code_header.result
    (ap is_reference c.cells.ensures ∙ c.args.reference.now.phases)
    c.header_bits-bits.ensures
    (search rules)
    (search rules)
    (search rules)
    c.code_header.ensures.answer
    c.code_header.ensures.buffers
    ∙ ap (header_part c.args.self.now.header) c.cells.ensures
