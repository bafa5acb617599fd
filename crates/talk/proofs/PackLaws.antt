-- The bytes in front of a buffer after packing.
use Rattle.std.proofs.Common.{◌≡◌, ℕ, ◌*◌, Bool, true, false, cond, ltb, List, length, take, drop, Some, None, Ok, Err, Option, Result, sym, ap, ◌∙◌, arith}
use Rattle.frame.specs.Answers.{refusal}
use Rattle.frame.specs.declared.headers.Header.{Header}
use Rattle.frame.specs.declared.refusals.Refusal.{Refusal}
use Rattle.packing.specs.declared.refusals.PackRefusal.{PackRefusal}
use Rattle.packing.specs.Bits.{header_bits, part, value}
use Rattle.packing.specs.Packings.{Packed, header_word, pack_answer, pack_unless, packed, packed_length}
use Rattle.talk.specs.Packs.{Leaves, header_bytes}
use Rattle.std.proofs.lemmas.List.FromFn.{length-map-range_with_len}
use Rattle.std.proofs.lemmas.List.{take_at}
use Rattle.stage.specs.Model.{coding, plain}

-- a packing that answers a number answers five
five_of : (short : Bool) (e : PackRefusal) (n : ℕ) → Ok n ≡ cond short (Err e) (Ok packed_length) → n ≡ packed_length
five_of true e n h = let z : ◌≡◌ {A = ℕ} 0 1 = cc in let w : ⊥ = omega arith in absurd w
five_of false e n h = cc

answered_five : (o : Option Refusal) (room n : ℕ) → Ok n ≡ pack_unless o room → n ≡ packed_length
answered_five (Some e) room n h = let z : ◌≡◌ {A = ℕ} 0 1 = cc in let w : ⊥ = omega arith in absurd w
answered_five None room n h = five_of (ltb room packed_length) _ n h

length_packed : (h : Header) → length (packed h) ≡ packed_length
length_packed h = length-map-range_with_len (λ i. value (part (8 * i) 8 (coding (plain header_word) (header_bits h)))) 0 packed_length

pub leaves : (h : Header) (room : ℕ) (r : Result ℕ PackRefusal) (before after : List ℕ) → r ≡ pack_answer h room → Packed h r before after → Leaves h room r after
unfolding header_bytes
leaves h room (Ok n) before after e b = (
  sym e,
  ap (λ k. take k after) (answered_five (refusal h) room n e) ∙ ap (take packed_length) b ∙ take_at (packed h) (drop packed_length before) packed_length (length_packed h),
)
leaves h room (Err x) before after e b = sym e
