use Rattle.std.proofs.Common.{take, sym, ap, ◌∙◌, arith}
use Rattle.reedsolomon.specs.Codes.{remainder}
use Rattle.reedsolomon.proofs.RegisterLaws.{dividing_start, dividing_more, dividing_all, tabled_generator}
use Rattle.reedsolomon.proofs.words.ReedSolomon.parity.Goals as goal

pub loop-byte-init : goal.loop-byte-init
loop-byte-init c =
    let g = c.generator-generator.result.now in
    let is = tabled_generator c.args.self.now.strength g c.args.self.now.known c.generator-generator.ensures in
    dividing_start g c.args.message.now 17 is.3

pub shift-requires : goal.shift-requires
shift-requires c =
    let is = tabled_generator c.args.self.now.strength c.generator-generator.result.now c.args.self.now.known c.generator-generator.ensures in
    omega (arith, is.3)

pub loop-byte-preserved : goal.loop-byte-preserved
loop-byte-preserved c =
    let g = c.generator-generator.result.now in
    let is = tabled_generator c.args.self.now.strength g c.args.self.now.known c.generator-generator.ensures in
    dividing_more g c.loop-byte.byte-index c.args.message.now c.loop-byte.register c.shift.new.register is.2 (omega arith) (omega (arith, is.3)) (omega arith) c.shift.ensures c.loop-byte.invariant

pub returns : goal.returns
returns c =
    let g = c.generator-generator.result.now in
    let is = tabled_generator c.args.self.now.strength g c.args.self.now.known c.generator-generator.ensures in
    ap (λ k. take k c.loop-byte.register) (sym is.1)
    ∙ dividing_all g c.loop-byte.byte-index c.args.message.now c.loop-byte.register (omega arith) c.loop-byte.invariant
    ∙ ap (λ r. remainder r c.args.message.now) is.0
