-- The turns of the loop that codes.
use Rattle.std.proofs.Common.{◌≡◌, ℕ, ◌+◌, ◌*◌, ◌%◌, ◌<◌, ◌≤◌, true, ◌⊎◌, List, ◌++◌, length, get_or, set, sym, refl, ap, ◌∙◌, inl, inr, arith, subst, ◌-◌, false, Some, None, Option, Bor, Iter, replicate}
use Rattle.std.specs.declared.iter.Enumerate.{Enumerate}
use Rattle.std.specs.declared.iter.Chain.{Chain}
use Rattle.std.specs.Iterator.{Yields}
use Rattle.std.specs.Iterator.Adapters.{enumerate_source, enumerate_count, enumerate_steps, chain_first, chain_second, chain_first_done, chain_second_done, chain_steps}
use Rattle.std.specs.List.{enumerate_from}
use Rattle.std.specs.Slice.Iter.{iter_rest}
use Rattle.std.proofs.iter.Yields.{fronts}
use Rattle.std.proofs.lemmas.Iterator.{YieldsList, YieldsList-from_slice}
use Rattle.std.proofs.lemmas.Iterator.Consumers.{YieldsList-turn, YieldsList-end, YieldsList-from_enumerate, YieldsList-from_chain}
use Rattle.std.proofs.lemmas.List.FromFn.{length-enumerate_from, get_or-enumerate_from}
use Rattle.std.proofs.lemmas.List.{get_or-append_right, get_or-replicate, get_or_default, get_or_past, get_or_append_left, length-append, length-set}
use Rattle.std.proofs.lemmas.List.Edits.{fill_by_more}
use Rattle.std.proofs.lemmas.Nat.{mod_below}
use Rattle.std.proofs.lemmas.Bool.{cases_lt}
use Rattle.stage.specs.Plain.{within}
use Rattle.stage.specs.Lists.{same_by_places}
use Rattle.convolution.specs.Convolutions.{tail, output, convolved}
use Rattle.convolution.specs.Words.{past, word_x, word_y}
use Rattle.convolution.specs.BitLaws.{length_convolved, convolved_at}
use Rattle.convolution.proofs.WordLaws.{turn_x, turn_y, turn_register}

-- the message, and the tail of zeros behind it
abbrev pub with_tail : List ℕ → List ℕ
with_tail xs = xs ++ replicate tail 0

-- past the end of a message stands 0, as in the tail behind it
at_with_tail : (xs : List ℕ) (i : ℕ) → i < length xs + tail → get_or (with_tail xs) i 0 ≡ get_or xs i 0
at_with_tail xs i l = of (cases_lt i (length xs))
  where
    of : (i < length xs) ⊎ (length xs ≤ i) → get_or (with_tail xs) i 0 ≡ get_or xs i 0
    of (inl m) = get_or_append_left xs (replicate tail 0) 0 i m
    of (inr m) =
        get_or-append_right xs (replicate tail 0) (length xs) i 0 refl m
        ∙ get_or-replicate tail (i - length xs) 0 0 (omega arith)
        ∙ sym (get_or_past xs i 0 m)

-- an iterator that gives the message and its tail, with their places
abbrev pub Numbered : Type 0
Numbered = Enumerate (Chain (Iter ℕ) (Iter ℕ))

abbrev pub gives : Numbered → Option (ℕ × Bor ℕ) → Numbered → Type 0
gives = enumerate_steps (chain_steps fronts fronts)

pub record Message (xs : List ℕ) (s : Numbered) : Type 0 where
  pub front : iter_rest (chain_first (enumerate_source s)) ≡ xs
  pub back : iter_rest (chain_second (enumerate_source s)) ≡ replicate tail 0
  pub front_left : chain_first_done (enumerate_source s) ≡ false
  pub back_left : chain_second_done (enumerate_source s) ≡ false
  pub none_yet : enumerate_count s ≡ 0

road : (xs : List ℕ) (s : Numbered) → Message xs s → YieldsList gives (λ p. (p.0, p.1.now)) s (enumerate_from 0 (with_tail xs))
road xs s m =
    YieldsList-from_enumerate (YieldsList-from_chain (YieldsList-from_slice xs m.front) (YieldsList-from_slice (replicate tail 0) m.back) m.front_left m.back_left) m.none_yet

-- the place and the bit in hand
pub record InHand (xs : List ℕ) (k i bit : ℕ) : Type 0 where
  pub inside : i < length xs + tail
  pub place : i ≡ k
  pub value : bit ≡ get_or xs i 0

pub in_hand : (xs : List ℕ) (s t u : Numbered) (yielded : List (ℕ × Bor ℕ)) (r : Option (ℕ × Bor ℕ)) (i : ℕ) (bit : Bor ℕ) → Message xs s → Yields gives s yielded t → r ≡ Some (i, bit) → gives t r u → InHand xs (length yielded) i bit.now
in_hand xs s t u yielded r i bit m y e g =
    let turn = YieldsList-turn (road xs s m) yielded t y r u (i, bit) e g in
    let long : length yielded < length xs + tail = omega (arith, turn.0, length-enumerate_from 0 (with_tail xs), length-append xs (replicate tail 0)) in
    let in_both : length yielded < length (with_tail xs) = omega (arith, length-append xs (replicate tail 0)) in
    let item = turn.1 ∙ get_or-enumerate_from 0 (with_tail xs) (length yielded) (i, bit.now) in_both in
    let place : i ≡ 0 + length yielded = ap (λ (p : ℕ × ℕ). p.0) item in
    let value : bit.now ≡ get_or (with_tail xs) (length yielded) bit.now = ap (λ (p : ℕ × ℕ). p.1) item in
    record {
      inside = omega arith;
      place = omega arith;
      value = value ∙ get_or_default (with_tail xs) (length yielded) bit.now 0 in_both ∙ at_with_tail xs (length yielded) long ∙ ap (λ k. get_or xs k 0) (omega arith);
    }

pub all_given : (xs : List ℕ) (s t u : Numbered) (yielded : List (ℕ × Bor ℕ)) (r : Option (ℕ × Bor ℕ)) → Message xs s → Yields gives s yielded t → r ≡ None → gives t r u → length yielded ≡ length xs + tail
all_given xs s t u yielded r m y e g =
    let end = YieldsList-end (road xs s m) yielded t y r u e g in
    omega (arith, end.1, length-enumerate_from 0 (with_tail xs), length-append xs (replicate tail 0))

-- the pairs of the first places are put, and the register holds the bits before the next
pub record Putting (xs : List ℕ) (coded : List ℕ) (i : ℕ) (register : ℕ) : Type 0 where
  pub small : register < 64
  pub held : register ≡ past xs i
  pub put : (k : ℕ) → k < 2 * i → get_or coded k 0 ≡ output xs k

put_two : (f : ℕ → ℕ) (coded : List ℕ) (i x y : ℕ) → 2 * i + 1 < length coded → x ≡ f (2 * i) → y ≡ f (2 * i + 1) → ((k : ℕ) → k < 2 * i → get_or coded k 0 ≡ f k) → (k : ℕ) → k < 2 * (i + 1) → get_or (set (set coded (2 * i) x) (2 * i + 1) y) k 0 ≡ f k
put_two f coded i x y l ex ey before k h =
    let one = fill_by_more f coded (2 * i) 0 (omega arith) before in
    let two = fill_by_more f (set coded (2 * i) (f (2 * i))) (2 * i + 1) 0 (omega (arith, length-set coded (2 * i) (f (2 * i)))) one in
    ap (λ v. get_or (set (set coded (2 * i) v) (2 * i + 1) y) k 0) ex
    ∙ ap (λ v. get_or (set (set coded (2 * i) (f (2 * i))) (2 * i + 1) v) k 0) ey
    ∙ two k (omega arith)

pub put_more : (xs coded : List ℕ) (i register b word x y k k' : ℕ) → within 1 xs ≡ true → 2 * i + 1 < length coded → InHand xs k i b → word ≡ 2 * register + b → x ≡ word_x word → y ≡ word_y word → k' ≡ k + 1 → Putting xs coded k register → Putting xs (set (set coded (2 * i) x) (2 * i + 1) y) k' (word % 64)
put_more xs coded i register b word x y k k' w l h m ex ey next before =
    let p = subst (λ (c : ℕ). Putting xs coded c register) (sym h.place) before in
    let e = h.value in
    let after : Putting xs (set (set coded (2 * i) x) (2 * i + 1) y) (i + 1) (word % 64) =
    record {
      small = mod_below word 64 (omega arith);
      held = turn_register xs i register b word w p.held e m;
      put = put_two (output xs) coded i x y l (ex ∙ turn_x xs i register b word w p.held e m) (ey ∙ turn_y xs i register b word w p.held e m) p.put;
    } in
    subst (λ (c : ℕ). Putting xs (set (set coded (2 * i) x) (2 * i + 1) y) c (word % 64)) (omega (arith, h.place)) after

-- and a turn that writes a pair and answers the next register
pub pair_more : (xs coded coded' : List ℕ) (i register register' b word : ℕ) → within 1 xs ≡ true → 2 * i + 1 < length coded → InHand xs i i b → word ≡ 2 * register + b → register' ≡ word % 64 → coded' ≡ set (set coded (2 * i) (word_x word)) (2 * i + 1) (word_y word) → Putting xs coded i register → Putting xs coded' (i + 1) register'
pair_more xs coded coded' i register register' b word w l h m next pair before =
    let after = put_more xs coded i register b word (word_x word) (word_y word) i (i + 1) w l h m refl refl refl before in
    subst (λ (r : ℕ). Putting xs coded' (i + 1) r) (sym next) (subst (λ (zs : List ℕ). Putting xs zs (i + 1) (word % 64)) (sym pair) after)

pub put_all : (xs coded : List ℕ) (i register : ℕ) → length coded ≡ 2 * (length xs + tail) → length xs + tail ≤ i → Putting xs coded i register → coded ≡ convolved xs
put_all xs coded i register room most p =
    same_by_places coded (convolved xs) (room ∙ sym (length_convolved xs)) (λ k h.
    p.put k (omega arith) ∙ sym (convolved_at xs k (omega arith)))
