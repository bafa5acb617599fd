-- What holds of the stage that fills up with zeros where it works in place, at the front of a buffer.
use Rattle.std.specs.Prelude.{◌≡◌, ℕ, ◌+◌, ◌-◌, ◌<◌, ◌≤◌, max, true, ◌⊎◌, List, ◌++◌, map, length, take, replicate, Ok, Err, slice_index}
use Rattle.std.proofs.Common.{sym, ap, ◌∙◌, inl, inr, arith}
use Rattle.std.proofs.Math.Seq.{paste}
use Rattle.std.proofs.lemmas.List.{length-replicate, length-take-le, get_or-take, get_or-map, get_or_append_left, get_or-append_right, get_or-replicate, take_all, take-take}
use Rattle.std.proofs.lemmas.List.Edits.{take-paste}
use Rattle.std.proofs.lemmas.Bool.{cases_lt}
use Rattle.stage.specs.Plain.{within}
use Rattle.stage.specs.Lengths.{longest_with}
use Rattle.stage.specs.Model.{plain, legal, decoding, code_room}
use Rattle.stage.specs.Faults.{fault_at}
use Rattle.stage.specs.Calls.{Holds}
use Rattle.stage.specs.Lists.{within_at, within_from}
use Rattle.stage.specs.Agreement.{AgreesUpTo}
use Rattle.stage.specs.AgreementLaws.{agrees_wholly_accepts, agrees_partly_refuses}
use Rattle.codings.specs.NearestBits.{nearest_bit}
use Rattle.codings.specs.Fills.{fillable, filled, filling}
use Rattle.codings.specs.NearestBitLaws.{bits_are_nearest}
use Rattle.codings.specs.FrontLaws.{length_legal, front_long}
use Rattle.codings.specs.FillLaws.{fillable_is, legal_many, length_filled, filling_sound}
use Rattle.codings.proofs.InPlace.{Run, Leading}

-- what stands behind the bits
zero_behind : (bits total : ℕ) (xs : List ℕ) (k : ℕ) → length xs ≡ bits → bits ≤ k → k < total → slice_index (filled bits total xs) k ≡ 0
zero_behind bits total xs k e l h =
    get_or-append_right xs (replicate (total - bits) 0) bits k 0 e l ∙ get_or-replicate (total - bits) (k - bits) 0 0 (omega arith)

-- the guess and its coding by index: the bits, and the zeros behind them
guess_at : (bits total : ℕ) (ys : List ℕ) (k : ℕ) → bits ≤ length ys → k < bits → slice_index (filled bits total (map nearest_bit (take bits ys))) k ≡ nearest_bit (slice_index ys k)
guess_at bits total ys k l h =
    let long = front_long bits ys l in
    let lt = length-take-le bits ys l in
    get_or_append_left (map nearest_bit (take bits ys)) (replicate (total - bits) 0) 0 k (omega arith)
    ∙ get_or-map nearest_bit (take bits ys) k 0 0 (omega arith)
    ∙ ap nearest_bit (get_or-take bits ys k 0 h)

guess_behind : (bits total : ℕ) (ys : List ℕ) (k : ℕ) → bits ≤ length ys → bits ≤ k → k < total → slice_index (filled bits total (map nearest_bit (take bits ys))) k ≡ 0
guess_behind bits total ys k l h s = zero_behind bits total (map nearest_bit (take bits ys)) k (front_long bits ys l) h s

-- where the coding of any bits is right, that of the guess is right
pub best : (bits total : ℕ) (xs ys : List ℕ) (k : ℕ) → bits ≤ total → length xs ≡ bits → within 1 xs ≡ true
    → length (filled bits total xs) ≡ length ys → k < length ys → slice_index (filled bits total xs) k ≡ slice_index ys k
    → slice_index (filled bits total (map nearest_bit (take bits ys))) k ≡ slice_index ys k
best bits total xs ys k le e w long l same = of (cases_lt k bits)
  where
    whole : length ys ≡ total
    whole = sym long ∙ length_filled bits total xs le e

    of : (k < bits) ⊎ (bits ≤ k) → slice_index (filled bits total (map nearest_bit (take bits ys))) k ≡ slice_index ys k
    of (inl h) =
        omega (arith, guess_at bits total ys k (omega (arith, whole)) h, same, get_or_append_left xs (replicate (total - bits) 0) 0 k (omega arith), within_at 1 xs k w)
    of (inr h) =
        guess_behind bits total ys k (omega (arith, whole)) h (omega (arith, whole)) ∙ sym (zero_behind bits total xs k e h (omega (arith, whole))) ∙ same

-- the room of a legal list holds the total
pub fill_room : (bits total n room : ℕ) (buffer : List ℕ)
    → legal (plain (filling bits total)) (take n buffer) ≡ true → n ≤ length buffer
    → code_room (plain (filling bits total)) n ≤ room → (n ≡ bits) × (total ≤ room)
fill_room bits total n room buffer l h r =
    let same : n ≡ bits = omega (arith, legal_many bits total (take n buffer) l, length-take-le n buffer h) in
    let e : code_room (plain (filling bits total)) n ≡ max n total = ap (λ o. longest_with n o (λ k. k)) (length_legal bits total n same) in
    (same, omega arith)

-- zeros set behind the bits make the coding
pub zeros_set : (bits total n : ℕ) (before after : List ℕ) → n ≡ bits → bits ≤ total → total ≤ length before
    → length after ≡ length before → after ≡ paste before bits (replicate (total - bits) 0) (total - bits)
    → Holds after total (filled bits total (take n before))
zeros_set bits total n before after e l r long made =
    let many : length {A = ℕ} (replicate (total - bits) 0) ≡ total - bits = length-replicate {A = ℕ} (total - bits) 0 in
    let whole : total ≡ bits + (total - bits) = omega arith in
    record {
      long = omega arith;
      front = ap (take total) made
          ∙ ap (λ m. take m (paste before bits (replicate (total - bits) 0) (total - bits))) whole
          ∙ take-paste before bits (replicate (total - bits) 0) (total - bits) (omega arith) (omega arith)
          ∙ ap (λ zs. take bits before ++ zs) (take_all (total - bits) (replicate (total - bits) 0) (omega arith))
          ∙ ap (λ m. take m before ++ replicate (total - bits) 0) (sym e);
    }

-- how far bits with zeros behind them agree, over the whole buffer
front_at : (bits total : ℕ) (buffer : List ℕ) (k : ℕ) → bits ≤ total → total ≤ length buffer → k < bits
    → slice_index (filled bits total (map nearest_bit (take bits (take total buffer)))) k ≡ nearest_bit (slice_index (take total buffer) k)
front_at bits total buffer k l r h = guess_at bits total (take total buffer) k (omega (arith, length-take-le total buffer r)) h

-- an element in front that is no bit ends the agreement
pub ends_in_the_bits : (bits total place : ℕ) (buffer : List ℕ) → bits ≤ total → total ≤ length buffer
    → Leading bits buffer place → place < bits → AgreesUpTo (filling bits total) bits (take total buffer) place
ends_in_the_bits bits total place buffer l r f h =
    let long = length-take-le total buffer r in
    record {
      few = omega arith;
      same = λ k s. omega (arith, front_at bits total buffer k l r (omega arith), get_or-take total buffer k 0 (omega arith), f.bits k s);
      stop = λ _ e. omega (arith, front_at bits total buffer place l r h, e, get_or-take total buffer place 0 (omega arith), f.stop h);
    }

-- behind the bits, an element that is no zero ends it
pub ends_in_the_zeros : (bits total place zeros : ℕ) (buffer : List ℕ) → bits ≤ total → total ≤ length buffer
    → Leading bits buffer place → bits ≤ place → Run 0 bits (total - bits) buffer zeros
    → AgreesUpTo (filling bits total) bits (take total buffer) (bits + zeros)
ends_in_the_zeros bits total place zeros buffer l r f most run =
    record {
      few = omega (arith, run.few, long);
      same = λ k s. of k s (cases_lt k bits);
      stop = λ h e. run.stop (omega (arith, long)) (sym (get_or-take total buffer (bits + zeros) 0 (omega (arith, long))) ∙ sym e ∙ behind (bits + zeros) (omega arith) (omega (arith, long)));
    }
  where
    long : length (take total buffer) ≡ total
    long = length-take-le total buffer r

    behind : (k : ℕ) → bits ≤ k → k < total → slice_index (filled bits total (map nearest_bit (take bits (take total buffer)))) k ≡ 0
    behind k h s = guess_behind bits total (take total buffer) k (omega (arith, long)) h s

    of : (k : ℕ) → k < bits + zeros → (k < bits) ⊎ (bits ≤ k) → slice_index (filled bits total (map nearest_bit (take bits (take total buffer)))) k ≡ slice_index (take total buffer) k
    of k s (inl h) = omega (arith, front_at bits total buffer k l r h, get_or-take total buffer k 0 (omega arith), f.bits k (omega arith))
    of k s (inr h) =
        let at : bits + (k - bits) ≡ k = omega arith in
        behind k h (omega (arith, run.few))
        ∙ sym (run.same (k - bits) (omega arith))
        ∙ ap (λ m. slice_index buffer m) at
        ∙ sym (get_or-take total buffer k 0 (omega (arith, run.few)))

-- bits with zeros behind them are the coding of the bits
pub taken_back : (bits total n place : ℕ) (buffer : List ℕ) → n ≡ total → fillable bits total ≡ true
    → total ≤ length buffer → AgreesUpTo (filling bits total) bits (take total buffer) place → total ≤ place
    → decoding (plain (filling bits total)) (take n buffer) ≡ Ok (take bits buffer)
taken_back bits total n place buffer e range r a most =
    ap (λ m. decoding (plain (filling bits total)) (take m buffer)) e
    ∙ agrees_wholly_accepts (filling bits total) (filling_sound bits total range) (take total buffer) bits place (length_legal total bits _ long) a (omega (arith, long))
    ∙ ap Ok (ap (map nearest_bit) (take-take bits total buffer l) ∙ bits_are_nearest (take bits buffer) small)
  where
    l : bits ≤ total
    l = (fillable_is bits total range).0

    long : length (take total buffer) ≡ total
    long = length-take-le total buffer r

    small : within 1 (take bits buffer) ≡ true
    small = within_from 1 (take bits buffer) (λ i h.
        let s : i < bits = omega (arith, length-take-le bits buffer (omega (arith, l))) in
        omega (arith, get_or-take bits buffer i 0 s, get_or-take total buffer i 0 (omega (arith, l)), front_at bits total buffer i l r s, a.same i (omega (arith, l))))

-- where the agreement ends is the place of the fault
pub not_taken_back : (bits total n place : ℕ) (buffer : List ℕ) → n ≡ total → fillable bits total ≡ true
    → total ≤ length buffer → AgreesUpTo (filling bits total) bits (take total buffer) place → place < total
    → decoding (plain (filling bits total)) (take n buffer) ≡ Err (fault_at 6 place)
not_taken_back bits total n place buffer e range r a h =
    let long = length-take-le total buffer r in
    ap (λ m. decoding (plain (filling bits total)) (take m buffer)) e
    ∙ agrees_partly_refuses (filling bits total) (filling_sound bits total range) (take total buffer) bits place (length_legal total bits _ long) a (omega arith)
