-- What holds of a stage that works in place, on the elements at the front of a buffer.
use Rattle.std.specs.Prelude.{◌≡◌, ℕ, ◌+◌, ◌-◌, ◌*◌, ◌<◌, ◌≤◌, true, List, [], ◌++◌, map, length, take, drop, Some, None, Ok, Err, Result, ◌≢◌, bit_xor, slice_index, slice_index_or, slice_set, refl}
use Rattle.std.proofs.Common.{Fits, w8, sym, ap, subst, ◌∙◌, arith, below_more}
use borrow.Rule.Slice.PartMut.{put_mid}
use Rattle.std.proofs.Math.Seq.{paste}
use Rattle.std.specs.List.{range_with_len, flat_map}
use Rattle.std.proofs.lemmas.List.{length-take, length-take-le, get_or-take, get_or-drop, get_or-set_same, get_or-set_other, take_all, take_more, flat_map_more, at_drop_all}
use Rattle.std.proofs.lemmas.List.FromFn.{fill_by_all}
use Rattle.std.proofs.lemmas.List.Edits.{take-paste}
use Rattle.std.proofs.lemmas.Slice.{take-put_mid}
use Rattle.std.proofs.lemmas.Nat.{mul-le}
use Rattle.stage.specs.declared.faults.StageFault.{StageFault}
use Rattle.stage.specs.declared.faults.ChainFault.{ChainFault}
use Rattle.stage.specs.Faults.{fault_at}
use Rattle.stage.specs.Plain.{within}
use Rattle.stage.specs.Model.{plain, legal, decoding}
use Rattle.stage.specs.Calls.{Holds, Leaves}
use Rattle.stage.specs.Lists.{some_is_there, within_at, within_from, same_by_places}
use Rattle.stage.specs.Legality.{legal_from_parts}
use Rattle.stage.specs.Plains.{plain_accepts}
use Rattle.stage.specs.Agreement.{Regains}
use Rattle.codings.specs.declared.checks.Register.{Register}
use Rattle.codings.specs.Polynomials.{fed_all, remainder}
use Rattle.codings.specs.Checks.{message_bits, check_bits, generator, checking, cells}
use Rattle.codings.specs.GroupLaws.{group_inside, part_long, Chunk}
use Rattle.codings.specs.Scramblers.{byte, scrambled, longest, short_length, scrambling}
use Rattle.codings.specs.ScrambleLaws.{short_is, short_legal, scrambled_twice, scrambled_bytes, length_scrambled, scrambled_at, scrambled_again, scrambling_sound}

-- An answer with a stage's fault as one with that of a chain in which the stage is next to the line.
abbrev pub at_the_line : Result ℕ StageFault → Result ℕ ChainFault
at_the_line (Ok n) = Ok n
at_the_line (Err f) = Err (fault_at f.number f.place)

-- What an in-place decoding with a stage's own fault leaves: the list in front, or the fault.
abbrev pub Takes : Result (List ℕ) ChainFault → Result ℕ StageFault → List ℕ → Type 0
Takes decoded answer buffer = Leaves decoded (at_the_line answer) buffer

-- Of `most` elements from `at` on, the first `count` are the given bit; the next, if there is one,
-- is not.
pub record Run (bit at most : ℕ) (buffer : List ℕ) (count : ℕ) : Type 0 where
  pub few : count ≤ most
  pub same : (k : ℕ) → k < count → slice_index buffer (at + k) ≡ bit
  pub stop : count < most → slice_index buffer (at + count) ≢ bit

-- The first `count` of n elements are bits; the next of them, if there is one, is not.
pub record Leading (n : ℕ) (buffer : List ℕ) (count : ℕ) : Type 0 where
  pub few : count ≤ n
  pub bits : (k : ℕ) → k < count → slice_index buffer k ≤ 1
  pub stop : count < n → 1 < slice_index buffer count

-- The first `count` of the check's bits stand behind the message; the next, if there is one, does not.
pub record Agreeing (check : List ℕ) (buffer : List ℕ) (count : ℕ) : Type 0 where
  pub few : count ≤ check_bits
  pub same : (k : ℕ) → k < count → slice_index buffer (message_bits + k) ≡ slice_index check k
  pub stop : count < check_bits → slice_index buffer (message_bits + count) ≢ slice_index check count

-- The message before the check, or the stage's fault.
abbrev pub Unchecked : ℕ → List ℕ → Result ℕ StageFault → Type 0
Unchecked n buffer (Ok count) = (decoding (plain checking) (take n buffer) ≡ Ok (take count buffer)) × (count ≤ length buffer)
Unchecked n buffer (Err f) = decoding (plain checking) (take n buffer) ≡ Err (fault_at f.number f.place)

-- when all bits are in the register, it holds the remainder
pub divided_all : (message : List ℕ) (i : ℕ) (r : Register) → length message ≤ i → fed_all generator (cells r) (drop i message) ≡ remainder generator message → cells r ≡ remainder generator message
divided_all message i r l inv = sym (at_drop_all (fed_all generator (cells r)) message i l) ∙ inv

-- one group more, written behind those before
pub groups_more : (f : ℕ → List ℕ) (t : ℕ) → ((x : ℕ) → length (f x) ≡ t) → (i : ℕ) (xs buffer : List ℕ)
    → i < length xs → i * t + t ≤ length buffer → take (i * t) buffer ≡ flat_map f (take i xs)
    → take ((i + 1) * t) (paste buffer (i * t) (f (slice_index xs i)) t) ≡ flat_map f (take (i + 1) xs)
groups_more f t each i xs buffer l r e =
    let x = slice_index_or xs i 0 in
    let long = each x in
    let at : (i + 1) * t ≡ i * t + t = omega arith in
    ap (λ m. take m (paste buffer (i * t) (f x) t)) at
    ∙ take-paste buffer (i * t) (f x) t (omega arith) (omega arith)
    ∙ ap (λ zs. take (i * t) buffer ++ zs) (take_all t (f x) (omega arith))
    ∙ ap (λ zs. zs ++ f x) e
    ∙ flat_map_more f [] (take i xs) x
    ∙ ap (flat_map f) (sym (take_more xs i 0 l))

-- one element for each group: those before i are gathered in front, the rest is as it was
pub record Gathered (f : ℕ → ℕ) (before : List ℕ) (buffer : List ℕ) (i : ℕ) : Type 0 where
  pub moved : (k : ℕ) → k < i → slice_index buffer k ≡ f k
  pub rest : (k : ℕ) → i ≤ k → slice_index buffer k ≡ slice_index before k

-- one element more
pub gathered_more : (f : ℕ → ℕ) (before buffer : List ℕ) (i x : ℕ) → i < length buffer → x ≡ f i → Gathered f before buffer i → Gathered f before (slice_set buffer i x) (i + 1)
gathered_more f before buffer i x l e h =
    record {
      moved = below_more
          (λ k. slice_index (slice_set buffer i x) k ≡ f k)
          i
          (λ k s. get_or-set_other buffer i k x 0 (omega arith) ∙ h.moved k s)
          (get_or-set_same buffer i x 0 l ∙ e);
      rest = λ k s. get_or-set_other buffer i k x 0 (omega arith) ∙ h.rest k (omega arith);
    }

-- when all are gathered, they stand in front, in their order
pub gathered_in_front : (f : ℕ → ℕ) (count : ℕ) (before buffer : List ℕ) → count ≤ length buffer → Gathered f before buffer count → take count buffer ≡ map f (range_with_len 0 count)
gathered_in_front f count before buffer l h =
    fill_by_all f (take count buffer) count 0 (length-take-le count buffer l) (λ k s. get_or-take count buffer k 0 s ∙ h.moved k s)

-- where the next group stands in the buffer
pub part_next : (f : ℕ → ℕ) (before buffer : List ℕ) (n t i count : ℕ) → 0 < t → i < count → n ≡ count * t → n ≤ length before → length buffer ≡ length before
    → Gathered f before buffer i → Chunk (take n before) t i (take ((i + 1) * t - i * t) (drop (i * t) buffer)) (drop ((i + 1) * t) (take n before))
part_next f before buffer n t i count p l e r same h =
    let inside : i * t + t ≤ n = omega (arith, e, group_inside i count t l) in
    let wide : (i + 1) * t - i * t ≡ t = omega arith in
    let many : i ≤ i * t = omega (arith, mul-le i 1 i t (omega arith) p) in
    record {
      long = part_long i t buffer (omega (arith, inside, same));
      inside = omega (arith, inside, length-take-le n before r);
      at = λ k s.
          get_or-take ((i + 1) * t - i * t) (drop (i * t) buffer) k 0 (omega (arith, wide))
          ∙ get_or-drop (i * t) buffer k 0
          ∙ h.rest (i * t + k) (omega (arith, many))
          ∙ sym (get_or-take n before (i * t + k) 0 (omega (arith, inside)));
      behind = λ j on. ap (λ m. drop (m * t) (take n before)) (sym on);
    }

-- The first `count` elements of a buffer are XORed with the sequence from its start on, and the
-- rest is as it was.
pub record Scrambling (before : List ℕ) (after : List ℕ) (count : ℕ) : Type 0 where
  pub mixed : (k : ℕ) → k < count → slice_index after k ≡ bit_xor (slice_index before k) (byte (8 * k))
  pub rest : (k : ℕ) → count ≤ k → slice_index after k ≡ slice_index before k

-- The first n elements are scrambled, or the fault is the stage's.
abbrev pub Unscrambled : ℕ → List ℕ → List ℕ → Result ℕ StageFault → Type 0
Unscrambled n before after (Ok count) = (decoding (plain (scrambling 0)) (take n before) ≡ Ok (take count after)) × (count ≤ length after)
Unscrambled n before after (Err f) = decoding (plain (scrambling 0)) (take n before) ≡ Err (fault_at f.number f.place)

-- one element more
pub mixed_more : (before buffer : List ℕ) (i u : ℕ) → i < length buffer → u ≡ byte (8 * i) → Scrambling before buffer i → Scrambling before (slice_set buffer i (bit_xor (slice_index buffer i) u)) (i + 1)
mixed_more before buffer i u l e f =
    let same = f.rest i (omega arith) in
    record {
      mixed = below_more
          (λ k. slice_index (slice_set buffer i (bit_xor (slice_index buffer i) u)) k ≡ bit_xor (slice_index before k) (byte (8 * k)))
          i
          (λ k h. get_or-set_other buffer i k (bit_xor (slice_index buffer i) u) 0 (omega arith) ∙ f.mixed k h)
          (get_or-set_same buffer i (bit_xor (slice_index buffer i) u) 0 l ∙ ap (λ x. bit_xor x u) same ∙ ap (bit_xor (slice_index before i)) e);
      rest = λ k h. get_or-set_other buffer i k (bit_xor (slice_index buffer i) u) 0 (omega arith) ∙ f.rest k (omega arith);
    }

-- a front that is wholly XORed is the coding
pub mixed_front : (n : ℕ) (before after : List ℕ) → n ≤ length before → length after ≡ length before → Scrambling before after n → Holds after n (scrambled 0 (take n before))
mixed_front n before after l long f =
    let la : length (take n after) ≡ n = length-take-le n after (omega arith) in
    let lb : length (take n before) ≡ n = length-take-le n before l in
    let ls = length_scrambled 0 (take n before) in
    record {
      long = omega arith;
      front = same_by_places (take n after) (scrambled 0 (take n before)) (omega arith) (λ i h.
          let short : i < n = omega arith in
          let z : 0 + 8 * i ≡ 8 * i = omega arith in
          get_or-take n after i 0 short
          ∙ f.mixed i short
          ∙ ap (λ x. bit_xor x (byte (8 * i))) (sym (get_or-take n before i 0 short))
          ∙ ap (λ m. bit_xor (slice_index (take n before) i) (byte m)) (sym z)
          ∙ sym (scrambled_at 0 (take n before) i (omega arith)));
    }

-- a list that is wholly XORed is the coding
pub mixed_whole : (count : ℕ) (before after : List ℕ) → length before ≤ count → length after ≡ length before → Scrambling before after count → after ≡ scrambled 0 before
mixed_whole count before after l long f =
    let ls = length_scrambled 0 before in
    same_by_places after (scrambled 0 before) (omega arith) (λ i h.
    let z : 0 + 8 * i ≡ 8 * i = omega arith in
    f.mixed i (omega arith) ∙ ap (λ m. bit_xor (slice_index before i) (byte m)) (sym z) ∙ sym (scrambled_at 0 before i (omega arith)))

-- where the front of a buffer is XORed, it is the coding of the front, and what its coding regains
pub mixed_coded : (n reach m k : ℕ) (before mixed : List ℕ) → short_length n ≡ Some reach → n ≤ length before → m ≡ n → mixed ≡ scrambled 0 (take m before) → take reach (put_mid 0 k before mixed) ≡ scrambled 0 (take n before)
mixed_coded n reach m k before mixed e l same made =
    let front : mixed ≡ scrambled 0 (take n before) = made ∙ ap (λ i. scrambled 0 (take i before)) same in
    take-put_mid 0 k before mixed reach (omega (arith, (short_is n reach e).1, ap length front, length_scrambled 0 (take n before), length-take-le n before l)) (omega arith) ∙ front

pub mixed_regained : (n reach k : ℕ) (before mixed : List ℕ) → short_length n ≡ Some reach → n ≤ length before → ((i : ℕ) → Fits w8 (slice_index (put_mid 0 k before mixed) i)) → mixed ≡ scrambled 0 (take (n - 0) before)
    → Regains (scrambling 0) (take n before) None (take reach (put_mid 0 k before mixed))
mixed_regained n reach k before mixed e l small made =
    scrambled_again (take n before) (take reach (put_mid 0 k before mixed)) (λ i. omega (arith, within_at 255 (take n before) i bytes)) coded
  where
    coded : take reach (put_mid 0 k before mixed) ≡ scrambled 0 (take n before)
    coded = mixed_coded n reach (n - 0) k before mixed e l (omega arith) made

    left : within 255 (take reach (put_mid 0 k before mixed)) ≡ true
    left = within_from 255 (take reach (put_mid 0 k before mixed)) (λ i h. omega (arith, get_or-take reach (put_mid 0 k before mixed) i 0 (omega (arith, length-take reach (put_mid 0 k before mixed))), small i))

    bytes : within 255 (take n before) ≡ true
    bytes = subst (λ (zs : List ℕ). within 255 zs ≡ true) (ap (scrambled 0) coded ∙ scrambled_twice 0 (take n before)) (scrambled_bytes 0 (take reach (put_mid 0 k before mixed)) left)

-- what is left by scrambling again is the list that was scrambled
pub unscrambled : (n count : ℕ) (before after : List ℕ) → n ≤ longest → n ≤ length before → ((i : ℕ) → slice_index after i < 256) → Holds after count (scrambled 0 (take n before)) → decoding (plain (scrambling 0)) (take n before) ≡ Ok (take count after)
unscrambled n count before after short l bytes h =
    let lb : length (take n before) ≡ n = length-take-le n before l in
    let lt : length (take count after) ≡ count = length-take-le count after h.long in
    let lc : length (take count after) ≡ n = ap length h.front ∙ length_scrambled 0 (take n before) ∙ lb in
    let small : within 255 (take count after) ≡ true = within_from 255 (take count after) (λ i k. omega (arith, get_or-take count after i 0 (omega arith), bytes i)) in
    let legal_list : legal (plain (scrambling 0)) (take count after) ≡ true =
    legal_from_parts (plain (scrambling 0)) (take count after) refl small (some_is_there (short_length (length (take count after))) n (ap short_length lc ∙ short_legal n short)) in
    plain_accepts (scrambling 0) (scrambling_sound 0) (take n before) (take count after) legal_list (ap (scrambled 0) h.front ∙ scrambled_twice 0 (take n before))
