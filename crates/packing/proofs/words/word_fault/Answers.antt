use Rattle.std.proofs.Common.{◌≡◌, List, ℕ, length, ap, sym, subst, ◌∙◌, arith}
use Rattle.stage.specs.Model.{plain, coding, decoding}
use Rattle.codings.specs.Unpackers.{unpacking}
use Rattle.packing.specs.Packings.{fault_in, header_word}
use Rattle.packing.proofs.WordCalls.{length_unpacked}
use Rattle.packing.proofs.WordFaults.{word_fault_by_parts}
use Rattle.packing.proofs.words.word_fault.Goals as goal

pub returns : goal.returns
returns c =
    let bytes = c.in-Some.bytes.now in
    let same : bytes ≡ c.args.bytes.now = c.in-Some.ensures.cases.same in
    let long : length bytes ≡ 5 = ap length same ∙ c.requires in
    subst (λ (bs : List ℕ). c.parts_fault.result ≡ fault_in (decoding (plain header_word) (coding (plain unpacking) bs))) same
    (c.parts_fault.ensures ∙ sym (word_fault_by_parts (coding (plain unpacking) bytes) (omega (arith, long, length_unpacked bytes))))
