-- What holds of a stage that works in place, on the elements at the front of a buffer.
use Rattle.std.specs.Prelude.{◌≡◌, ℕ, ◌+◌, ◌*◌, ◌%◌, ◌<◌, ◌≤◌, List, [], ◌∷◌, length, take, set, Some, None, Ok, Err, Result, slice_index, refl}
use Rattle.std.proofs.Common.{sym, subst, ◌∙◌, get_or, arith}
use Rattle.std.proofs.lemmas.List.{length-take-le, get_or-take, get_or-set_other}
use Rattle.stage.specs.declared.faults.StageFault.{StageFault}
use Rattle.stage.specs.declared.faults.ChainFault.{ChainFault}
use Rattle.stage.specs.Faults.{fault_at}
use Rattle.stage.specs.Calls.{Leaves}
use Rattle.stage.specs.Agreement.{Agrees, AgreesUpTo, Regains}
use Rattle.convolution.specs.Convolutions.{tail, convolved, nearest, convolution}
use Rattle.convolution.specs.Words.{word_x, word_y}
use Rattle.convolution.proofs.RegainingLaws.{Taking, Ready, Turn, bit_written, take_more, take_all}

-- An answer with a stage's fault as one with that of a chain in which the stage is next to the line.
abbrev pub at_the_line : Result ℕ StageFault → Result ℕ ChainFault
at_the_line (Ok n) = Ok n
at_the_line (Err f) = Err (fault_at f.number f.place)

-- What an in-place decoding with a stage's own fault leaves: the list in front, or the fault.
abbrev pub Takes : Result (List ℕ) ChainFault → Result ℕ StageFault → List ℕ → Type 0
Takes decoded answer buffer = Leaves decoded (at_the_line answer) buffer

-- Behind the first n elements of a buffer stands the tail of zeros.
abbrev pub ZeroTail : ℕ → List ℕ → Type 0
ZeroTail n buffer = (k : ℕ) → n ≤ k → k < n + tail → slice_index buffer k ≡ 0

-- How far a received list agrees with the coding of the message nearest to it; where it wholly
-- does, the message stands in front of the buffer afterwards.
pub record Regained (count : ℕ) (before : List ℕ) (after : List ℕ) (place : ℕ) : Type 0 where
  pub agrees : Agrees (convolved (nearest count (take (2 * (count + tail)) before))) (take (2 * (count + tail)) before) place
  pub front : 2 * (count + tail) ≤ place → take count after ≡ nearest count (take (2 * (count + tail)) before)

-- The pairs in front of a buffer are taken up to a place: the bits before it are written, and from
-- it on the buffer is as it was.
pub record TakingFront (count n : ℕ) (before buffer : List ℕ) (i register : ℕ) : Type 0 where
  pub taken : Taking count (take n before) buffer i register
  pub rest : (k : ℕ) → i ≤ k → get_or buffer k 0 ≡ get_or before k 0

-- the pair at a place of a buffer
abbrev pub pair_of : List ℕ → ℕ → List ℕ
pair_of buffer i = get_or buffer (2 * i) 0 ∷ get_or buffer (2 * i + 1) 0 ∷ []

pub front_ready : (count n : ℕ) (before buffer : List ℕ) (i register : ℕ) → 2 * (count + tail) ≡ n → n ≤ length before → i < count + tail → TakingFront count n before buffer i register → Ready count (take n before) buffer (pair_of buffer i) i register
front_ready count n before buffer i register whole room l t =
    record {
      at = record {
        inside = omega (arith, length-take-le n before room);
        long = refl;
        first = t.rest (2 * i) (omega arith) ∙ sym (get_or-take n before (2 * i) 0 (omega arith));
        second = t.rest (2 * i + 1) (omega arith) ∙ sym (get_or-take n before (2 * i + 1) 0 (omega arith));
      };
      taken = t.taken;
    }

-- both elements of the pair agree
pub front_more : (count n : ℕ) (before buffer : List ℕ) (i register bit word x y : ℕ) → i < length buffer → Ready count (take n before) buffer (pair_of buffer i) i register → Turn count (take n before) i bit word → x ≡ word_x word → get_or buffer (2 * i) 0 ≡ x → y ≡ word_y word → get_or buffer (2 * i + 1) 0 ≡ y → TakingFront count n before buffer i register → TakingFront count n before (set buffer i bit) (i + 1) (word % 64)
front_more count n before buffer i register bit word x y l r u ex right ey also t =
    let written = bit_written count (take n before) buffer i register bit word l u t.taken in
    record {
      taken = take_more count count (take n before) buffer (set buffer i bit) (pair_of buffer i) i (i + 1) register bit word x y refl refl written r u ex right ey also;
      rest = λ k h. get_or-set_other buffer i k bit 0 (λ q. omega arith) ∙ t.rest k (omega arith);
    }

-- where a pair does not agree, the place is answered
pub front_stops : (count n place : ℕ) (before buffer : List ℕ) → count ≤ length buffer → AgreesUpTo convolution count (take n before) place × (place < length (take n before)) → Regains convolution (take n before) (Some place) (take count buffer)
front_stops count n place before buffer room stop =
    subst (λ (c : ℕ). AgreesUpTo convolution c (take n before) place × (place < length (take n before))) (sym (length-take-le count buffer room)) stop

-- where all agree, the message stands in front
pub front_regained : (count n : ℕ) (before buffer : List ℕ) (i register : ℕ) → 2 * (count + tail) ≡ n → n ≤ length before → count ≤ length buffer → count + tail ≤ i → TakingFront count n before buffer i register → Regains convolution (take n before) None (take count buffer)
front_regained count n before buffer i register whole room wide most t =
    let short = length-take-le count buffer wide in
    let cut : Taking count (take n before) (take count buffer) i register = record {
      small = t.taken.small;
      held = t.taken.held;
      bits = λ k h l. get_or-take count buffer k 0 l ∙ t.taken.bits k h l;
      same = t.taken.same;
    } in
    take_all (take n before) (take count buffer) i register (omega (arith, short, length-take-le n before room)) (omega (arith, short)) (subst (λ (c : ℕ). Taking c (take n before) (take count buffer) i register) (sym short) cut)
