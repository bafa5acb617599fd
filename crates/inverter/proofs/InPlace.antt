-- What holds of a stage that works in place, on the elements at the front of a buffer.
use Rattle.std.specs.Prelude.{◌≡◌, ℕ, ◌+◌, ◌-◌, ◌<◌, ◌≤◌, true, ◌⊎◌, List, [], ◌∷◌, ◌++◌, map, length, take, Some, Ok, Err, Result, ◌≢◌, slice_index, slice_set, refl}
use Rattle.std.proofs.Common.{sym, ap, subst, ◌∙◌, inl, inr, arith, below_more, length-set}
use borrow.Rule.Slice.PartMut.{put_mid}
use Rattle.std.proofs.lemmas.List.{length-map, length-take-le, get_or-take, get_or-set_same, get_or-set_other, take_more, take_more_set}
use Rattle.std.proofs.lemmas.Slice.{take-put_mid}
use Rattle.std.proofs.lemmas.Bool.{cases_lt}
use Rattle.stage.specs.declared.faults.StageFault.{StageFault}
use Rattle.stage.specs.Faults.{fault_at}
use Rattle.stage.specs.Plain.{within}
use Rattle.stage.specs.Model.{plain, legal, decoding, longest_list}
use Rattle.stage.specs.Calls.{Holds}
use Rattle.stage.specs.Lists.{within_at, within_from, same_by_places, some_is_there}
use Rattle.stage.specs.Legality.{legal_within, legal_from_parts}
use Rattle.stage.specs.Plains.{plain_accepts, plain_refuses}
use Rattle.inverter.specs.Complement.{flip, any_length, complement}
use Rattle.inverter.specs.Complements.{any_length_is, any_length_legal, flipped_bits, flip_twice, flipped_at, twice_at, complement_sound}
use Rattle.inverter.specs.Mark.{nearest_bit, mark, marked_length, unmarked_length, marking}
use Rattle.inverter.specs.Marks.{unmarked_is, back, guess_at, guess_mark, marking_sound}

-- The first `count` elements of a buffer were bits and are complemented; the rest is as it was.
pub record Flipping (before : List ℕ) (after : List ℕ) (count : ℕ) : Type 0 where
  pub bits : (k : ℕ) → k < count → slice_index before k ≤ 1
  pub flipped : (k : ℕ) → k < count → slice_index after k ≡ flip (slice_index before k)
  pub rest : (k : ℕ) → count ≤ k → slice_index after k ≡ slice_index before k

-- Of n elements the first `count` are complemented; the next of them, if there is one, is no bit.
pub record Flipped (n : ℕ) (before : List ℕ) (after : List ℕ) (count : ℕ) : Type 0 where
  pub few : count ≤ n
  pub done : Flipping before after count
  pub stop : count < n → 1 < slice_index before count

-- The first n elements are complemented, or the fault is the stage's.
abbrev pub Restored : ℕ → List ℕ → List ℕ → Result ℕ StageFault → Type 0
Restored n before after (Ok count) = (decoding (plain complement) (take n before) ≡ Ok (take count after)) × (count ≤ length after)
Restored n before after (Err f) = (decoding (plain complement) (take n before) ≡ Err (fault_at f.number f.place))

-- a front that is wholly complemented is the coding
flipped_front : (n : ℕ) (before after : List ℕ) → n ≤ length before → length after ≡ length before → Flipped n before after n → take n after ≡ map flip (take n before)
flipped_front n before after l long f =
    let la : length (take n after) ≡ n = length-take-le n after (omega arith) in
    let lb : length (take n before) ≡ n = length-take-le n before l in
    let lm = length-map (take n before) flip in
    same_by_places (take n after) (map flip (take n before)) (omega arith) (λ i h.
    let short : i < n = omega arith in
    get_or-take n after i 0 short ∙ f.done.flipped i short ∙ ap (λ x. 1 - x) (sym (get_or-take n before i 0 short)) ∙ sym (flipped_at (take n before) i (omega arith)))

-- one element more
pub flip_more : (before buffer : List ℕ) (i other : ℕ) → i < length buffer → slice_index buffer i ≤ 1 → other ≡ flip (slice_index buffer i) → Flipping before buffer i → Flipping before (slice_set buffer i other) (i + 1)
flip_more before buffer i other l small e f =
    let same = f.rest i (omega arith) in
    record {
      bits = below_more (λ k. slice_index before k ≤ 1) i f.bits (omega arith);
      flipped = below_more
          (λ k. slice_index (slice_set buffer i other) k ≡ 1 - slice_index before k)
          i
          (λ k h. get_or-set_other buffer i k other 0 (omega arith) ∙ f.flipped k h)
          (get_or-set_same buffer i other 0 l ∙ e ∙ ap flip same);
      rest = λ k h. get_or-set_other buffer i k other 0 (omega arith) ∙ f.rest k (omega arith);
    }

-- a list that is wholly complemented is the coding
pub flipped_whole : (count : ℕ) (before after : List ℕ) → length before ≤ count → length after ≡ length before → Flipping before after count → after ≡ map flip before
flipped_whole count before after l long f =
    let lm = length-map before flip in
    same_by_places after (map flip before) (omega arith) (λ i h. f.flipped i (omega arith) ∙ sym (flipped_at before i (omega arith)))

-- the same of the front of a buffer
pub flipped_coded : (n reach m k : ℕ) (before flipped : List ℕ) → any_length n ≡ Some reach → n ≤ length before → m ≡ n → flipped ≡ map flip (take m before) → take reach (put_mid 0 k before flipped) ≡ map flip (take n before)
flipped_coded n reach m k before flipped e l same made =
    let front : flipped ≡ map flip (take n before) = made ∙ ap (λ i. map flip (take i before)) same in
    take-put_mid 0 k before flipped reach (omega (arith, (any_length_is n reach e).1, ap length front, length-map (take n before) flip, length-take-le n before l)) (omega arith) ∙ front

-- the elements of a list of bits are all complemented
all_flipped : (n count : ℕ) (before after : List ℕ) → within 1 (take n before) ≡ true → Flipped n before after count → count ≡ n
all_flipped n count before after w f = of (cases_lt count n)
  where
    of : (count < n) ⊎ (n ≤ count) → count ≡ n
    of (inl l) = absurd (omega (arith, f.stop l, within_at 1 (take n before) count w, get_or-take n before count 0 l))
    of (inr l) = omega (arith, f.few)

-- coding complements every element of a legal list
pub coded : (n count : ℕ) (before after : List ℕ) → n ≤ length before → length after ≡ length before → legal (plain complement) (take n before) ≡ true → Flipped n before after count → Holds after count (map flip (take n before))
coded n count before after l long legal_list f =
    let whole = all_flipped n count before after (legal_within (plain complement) (take n before) legal_list) f in
    let all = subst (λ (k : ℕ). Flipped n before after k) whole f in
    record { long = omega arith; front = ap (λ k. take k after) whole ∙ flipped_front n before after l long all }

-- a list of bits is the coding of its complement
pub restored : (n count : ℕ) (before after : List ℕ) → n ≤ longest_list → n ≤ length before → length after ≡ length before → n ≤ count → Flipped n before after count → decoding (plain complement) (take n before) ≡ Ok (take n after)
restored n count before after short l long most some =
    let f : Flipped n before after n = subst (λ (k : ℕ). Flipped n before after k) (omega (arith, some.few)) some in
    let front : take n after ≡ map flip (take n before) = flipped_front n before after l long f in
    let la : length (take n after) ≡ n = length-take-le n after (omega arith) in
    let lb : length (take n before) ≡ n = length-take-le n before l in
    let bits : within 1 (take n before) ≡ true = within_from 1 (take n before) (λ i h. subst (λ (x : ℕ). x ≤ 1) (sym (get_or-take n before i 0 (omega arith))) (f.done.bits i (omega arith))) in
    let legal_list : legal (plain complement) (take n after) ≡ true =
    legal_from_parts (plain complement) (take n after) refl (ap (within 1) front ∙ flipped_bits (take n before)) (some_is_there (any_length (length (take n after))) n (ap any_length la ∙ any_length_legal n short)) in
    plain_accepts complement complement_sound (take n before) (take n after) legal_list (ap (map flip) front ∙ flip_twice (take n before) bits)

-- the first element that is no bit is the place of the fault
pub not_restored : (n place : ℕ) (before after : List ℕ) → n ≤ longest_list → n ≤ length before → place < n → Flipped n before after place → decoding (plain complement) (take n before) ≡ Err (fault_at 101 place)
not_restored n place before after short l p f =
    let ys = take n before in
    let lb : length ys ≡ n = length-take-le n before l in
    plain_refuses complement complement_sound ys n place (ap any_length lb ∙ any_length_legal n short) (omega arith)
    (λ j h. twice_at ys j (omega arith) (omega (arith, get_or-take n before j 0 (omega arith), f.done.bits j h)))
    (λ e. omega (arith, f.stop p, get_or-take n before place 0 p, twice_small ys place (omega arith)))
  where
    twice_small : (ys : List ℕ) (k : ℕ) → k < length ys → slice_index (map flip (map flip ys)) k ≤ 1
    twice_small ys k h = omega (arith, flipped_at (map flip ys) k (omega (arith, length-map ys flip)))

-- The first `count` of n elements are bits; the next of them, if there is one, is not.
pub record Leading (n : ℕ) (buffer : List ℕ) (count : ℕ) : Type 0 where
  pub few : count ≤ n
  pub bits : (k : ℕ) → k < count → slice_index buffer k ≤ 1
  pub stop : count < n → 1 < slice_index buffer count

-- The list before the mark, or the stage's fault.
abbrev pub Unmarked : ℕ → List ℕ → Result ℕ StageFault → Type 0
Unmarked n buffer (Ok count) = (decoding (plain marking) (take n buffer) ≡ Ok (take count buffer)) × (count ≤ length buffer)
Unmarked n buffer (Err f) = decoding (plain marking) (take n buffer) ≡ Err (fault_at f.number f.place)

-- what stands in front after the mark is set is the coding
pub mark_set : (n : ℕ) (buffer : List ℕ) → n < length buffer → Holds (slice_set buffer n 1) (n + 1) (take n buffer ++ mark)
mark_set n buffer l = record { long = omega (arith, length-set buffer n 1); front = take_more_set buffer n 1 l }

-- bits with a mark behind them are the coding of the bits
pub unmarked : (n count place : ℕ) (buffer : List ℕ) → unmarked_length n ≡ Some count → n ≤ length buffer → Leading count buffer place → count ≤ place → slice_index buffer count ≡ 1 → decoding (plain marking) (take n buffer) ≡ Ok (take count buffer)
unmarked n count place buffer e l f most right =
    let t = unmarked_is count n e in
    let lc : length (take count buffer) ≡ count = length-take-le count buffer (omega arith) in
    let bits : within 1 (take count buffer) ≡ true = within_from 1 (take count buffer) (λ i h. subst (λ (x : ℕ). x ≤ 1) (sym (get_or-take count buffer i 0 (omega arith))) (f.bits i (omega arith))) in
    let legal_list : legal (plain marking) (take count buffer) ≡ true =
    legal_from_parts (plain marking) (take count buffer) refl bits (some_is_there (marked_length (length (take count buffer))) n (ap marked_length lc ∙ back count n e)) in
    let whole : take count buffer ++ mark ≡ take n buffer =
    ap (λ x. take count buffer ++ x ∷ []) (sym right) ∙ sym (take_more buffer count 0 (omega arith)) ∙ ap (λ k. take k buffer) t.1 in
    plain_accepts marking marking_sound (take n buffer) (take count buffer) legal_list whole

-- the first element that is no bit, or a wrong mark behind the bits, is the place of the fault
pub not_unmarked : (n count place : ℕ) (buffer : List ℕ) → unmarked_length n ≡ Some count → n ≤ length buffer → Leading count buffer place → (place < count) ⊎ (slice_index buffer count ≢ 1) → decoding (plain marking) (take n buffer) ≡ Err (fault_at 102 place)
not_unmarked n count place buffer e l f wrong =
    plain_refuses marking marking_sound (take n buffer) count place (ap unmarked_length long ∙ e) (omega (arith, t.1, f.few, long)) before (λ same. of (cases_lt place count) wrong same)
  where
    t : (n ≤ longest_list) × (count + 1 ≡ n)
    t = unmarked_is count n e

    long : length (take n buffer) ≡ n
    long = length-take-le n buffer l

    whole : count + 1 ≡ length (take n buffer)
    whole = omega (arith, t.1, long)

    before : (j : ℕ) → j < place → slice_index (map nearest_bit (take count (take n buffer)) ++ mark) j ≡ slice_index (take n buffer) j
    before j h = omega (arith, guess_at count (take n buffer) j whole (omega (arith, f.few)), get_or-take n buffer j 0 (omega (arith, f.few, t.1)), f.bits j h)

    of : (place < count) ⊎ (count ≤ place) → (place < count) ⊎ (slice_index buffer count ≢ 1) → slice_index (map nearest_bit (take count (take n buffer)) ++ mark) place ≢ slice_index (take n buffer) place
    of (inl h) w same = omega (arith, guess_at count (take n buffer) place whole h, get_or-take n buffer place 0 (omega (arith, t.1)), f.stop h)
    of (inr h) (inl w) same = omega arith
    of (inr h) (inr w) same =
        let at_end : place ≡ count = omega (arith, f.few) in
        w (sym (get_or-take n buffer count 0 (omega (arith, t.1))) ∙ ap (λ k. slice_index (take n buffer) k) (sym at_end) ∙ sym same ∙ ap (λ k. slice_index (map nearest_bit (take count (take n buffer)) ++ mark) k) at_end ∙ guess_mark count (take n buffer) whole)
