-- The turns of the loop that decodes.
use Rattle.std.proofs.Common.{◌≡◌, ℕ, ◌+◌, ◌*◌, ◌%◌, ◌<◌, ◌≤◌, ltb, ◌⊎◌, List, ◌++◌, length, get_or, drop, set, sym, ap, ◌∙◌, inl, inr, arith, below_more, subst}
use lib.Bits.{bit_xor}
use Rattle.std.proofs.lemmas.List.{get_or_past, get_or_append_left, get_or-drop, drop-drop, drop_at, length-drop, length-append, get_or-set_same, get_or-set_other}
use Rattle.std.proofs.lemmas.Nat.{mod_below}
use Rattle.std.proofs.lemmas.Bool.{lt-ltb, le-ltb, cond-true, cond-false, cases_lt}
use Rattle.stage.specs.Agreement.{AgreesUpTo}
use Rattle.stage.specs.Lists.{within_at, same_by_places}
use Rattle.convolution.specs.Convolutions.{tail, output, nearest_bit, nearest, convolution}
use Rattle.convolution.specs.Words.{past, word_x, word_y, fitting_bit}
use Rattle.convolution.specs.BitLaws.{convolved_at}
use Rattle.convolution.proofs.WordLaws.{register_gives_x, turn_x, turn_y, turn_register}
use Rattle.convolution.specs.NearestLaws.{nearest_length, nearest_at, nearest_bits}

-- pairs of received elements are left from some place on
pub record Pairs (ys left : List ℕ) (size i : ℕ) : Type 0 where
  pub two : size ≡ 2
  pub left_is : left ≡ drop (2 * i) ys

-- the next of them
pub record PairAt (ys pair : List ℕ) (i : ℕ) : Type 0 where
  pub inside : 2 * i + 1 < length ys
  pub long : length pair ≡ 2
  pub first : get_or pair 0 0 ≡ get_or ys (2 * i) 0
  pub second : get_or pair 1 0 ≡ get_or ys (2 * i + 1) 0

next_pair : (ys left rest pair : List ℕ) (size i : ℕ) → Pairs ys left size i → left ≡ pair ++ rest → length pair ≡ size → PairAt ys pair i
next_pair ys left rest pair size i p e long =
    record {
      inside = omega (arith, size_left, length-drop (2 * i) ys, length-append pair rest, p.two);
      long = long ∙ p.two;
      first = at 0 (omega (arith, p.two)) ∙ ap (λ k. get_or ys k 0) {x = 2 * i + 0} {y = 2 * i} (omega arith);
      second = at 1 (omega (arith, p.two));
    }
  where
    size_left : length (drop (2 * i) ys) ≡ length (pair ++ rest)
    size_left = ap (λ (zs : List ℕ). length zs) (sym p.left_is ∙ e)

    at : (k : ℕ) → k < length pair → get_or pair k 0 ≡ get_or ys (2 * i + k) 0
    at k h = sym (get_or_append_left pair rest 0 k h) ∙ ap (λ (zs : List ℕ). get_or zs k 0) (sym e ∙ p.left_is) ∙ get_or-drop (2 * i) ys k 0

pub pairs_on : (ys left rest pair : List ℕ) (size size' i i' : ℕ) → Pairs ys left size i → left ≡ pair ++ rest → length pair ≡ size → size' ≡ size → i' ≡ i + 1 → Pairs ys rest size' i'
pairs_on ys left rest pair size size' i i' p e long same next =
    record {
      two = same ∙ p.two;
      left_is = sym (drop_at pair rest 2 (long ∙ p.two))
          ∙ ap (drop 2) (sym e ∙ p.left_is)
          ∙ drop-drop 2 (2 * i) ys
          ∙ ap (λ k. drop k ys) {x = 2 * i + 2} {y = 2 * i'} (omega arith);
    }

-- where no pair is left, all are taken
pub pairs_end : (ys left : List ℕ) (size i n : ℕ) → Pairs ys left size i → length left < size → 2 * (n + tail) ≡ length ys → n + tail ≤ i
pairs_end ys left size i n p few long =
    omega (arith, p.two, ap (λ (zs : List ℕ). length zs) p.left_is, length-drop (2 * i) ys)

-- the first places are taken: their pairs agree and their bits stand in front
pub record Taking (n : ℕ) (ys list : List ℕ) (i register : ℕ) : Type 0 where
  pub small : register < 64
  pub held : register ≡ past (nearest n ys) i
  pub bits : (k : ℕ) → k < i → k < n → get_or list k 0 ≡ get_or (nearest n ys) k 0
  pub same : (k : ℕ) → k < 2 * i → output (nearest n ys) k ≡ get_or ys k 0

-- the bit in hand is that of the nearest message
pub fitting_is : (n : ℕ) (ys : List ℕ) (i register x b : ℕ) → register ≡ past (nearest n ys) i → x ≡ get_or ys (2 * i) 0 → b ≡ fitting_bit i n register x → b ≡ get_or (nearest n ys) i 0
fitting_is n ys i register x b held ex e = of (cases_lt i n)
  where
    of : (i < n) ⊎ (n ≤ i) → b ≡ get_or (nearest n ys) i 0
    of (inl h) =
        e
        ∙ cond-true (ltb i n) _ _ (lt-ltb i n h)
        ∙ ap (λ v. bit_xor (nearest_bit v) (word_x (2 * register))) ex
        ∙ ap (λ v. bit_xor (nearest_bit (get_or ys (2 * i) 0)) v) (ap (λ r. word_x (2 * r)) held ∙ register_gives_x (nearest n ys) i (nearest_bits n ys))
        ∙ sym (nearest_at n ys i h)
    of (inr h) =
        e ∙ cond-false (ltb i n) _ _ (le-ltb i n h) ∙ sym (get_or_past (nearest n ys) i 0 (omega (arith, nearest_length n ys)))

-- a pair is in hand, and those before it are taken
pub record Ready (n : ℕ) (ys list pair : List ℕ) (i register : ℕ) : Type 0 where
  pub at : PairAt ys pair i
  pub taken : Taking n ys list i register

pub ready : (n : ℕ) (ys list pair left rest : List ℕ) (size count i register : ℕ) → Pairs ys left size count → Taking n ys list count register → i ≡ count → left ≡ pair ++ rest → length pair ≡ size → Ready n ys list pair i register
ready n ys list pair left rest size count i register p t same e long =
    subst (λ (k : ℕ). Ready n ys list pair k register) (sym same) (record { at = next_pair ys left rest pair size count p e long; taken = t })

-- what a turn finds: the bit in hand is the nearest, and the word puts out what its place does
pub record Turn (n : ℕ) (ys : List ℕ) (i bit word : ℕ) : Type 0 where
  pub is : bit ≡ get_or (nearest n ys) i 0
  pub x_is : word_x word ≡ output (nearest n ys) (2 * i)
  pub y_is : word_y word ≡ output (nearest n ys) (2 * i + 1)
  pub next : word % 64 ≡ past (nearest n ys) (i + 1)

pub turn_is : (n : ℕ) (ys list pair : List ℕ) (i register bit word : ℕ) → Ready n ys list pair i register → bit ≡ fitting_bit i n register (get_or pair 0 0) → word ≡ 2 * register + bit → Turn n ys i bit word
turn_is n ys list pair i register bit word r e m =
    let w = nearest_bits n ys in
    let is = fitting_is n ys i register (get_or pair 0 0) bit r.taken.held r.at.first e in
    record {
      is = is;
      x_is = turn_x (nearest n ys) i register bit word w r.taken.held is m;
      y_is = turn_y (nearest n ys) i register bit word w r.taken.held is m;
      next = turn_register (nearest n ys) i register bit word w r.taken.held is m;
    }

-- and the bit in hand is a bit
pub bit_small : (n : ℕ) (ys list pair : List ℕ) (i register bit : ℕ) → Ready n ys list pair i register → bit ≡ fitting_bit i n register (get_or pair 0 0) → bit ≤ 1
bit_small n ys list pair i register bit r e =
    omega (arith, fitting_is n ys i register (get_or pair 0 0) bit r.taken.held r.at.first e, within_at 1 (nearest n ys) i (nearest_bits n ys))

-- an agreement, by what the coding of the nearest message puts out
agreement : (n : ℕ) (ys : List ℕ) (place : ℕ) → 2 * (n + tail) ≡ length ys → place ≤ length ys → ((k : ℕ) → k < place → output (nearest n ys) k ≡ get_or ys k 0) → (place < length ys → output (nearest n ys) place ≡ get_or ys place 0 → ⊥) → AgreesUpTo convolution n ys place
agreement n ys place long l same stop =
    let ln = nearest_length n ys in
    record {
      few = l;
      same = λ k h. convolved_at (nearest n ys) k (omega arith) ∙ same k h;
      stop = λ h e. stop h (sym (convolved_at (nearest n ys) place (omega arith)) ∙ e);
    }

-- X does not agree: the place is that of X
pub stop_at_x : (n : ℕ) (ys list pair : List ℕ) (i register bit word x : ℕ) → 2 * (n + tail) ≡ length ys → Ready n ys list pair i register → Turn n ys i bit word → x ≡ word_x word → (get_or pair 0 0 ≡ x → ⊥) → AgreesUpTo convolution n ys (2 * i) × (2 * i < length ys)
stop_at_x n ys list pair i register bit word x long r u ex wrong =
    let inside = r.at.inside in
    (agreement n ys (2 * i) long (omega arith) r.taken.same (λ _ s. wrong (r.at.first ∙ sym s ∙ sym u.x_is ∙ sym ex)), omega arith)

x_agrees : (n : ℕ) (ys list pair : List ℕ) (i register bit word x : ℕ) → Ready n ys list pair i register → Turn n ys i bit word → x ≡ word_x word → get_or pair 0 0 ≡ x → (k : ℕ) → k < 2 * i + 1 → output (nearest n ys) k ≡ get_or ys k 0
x_agrees n ys list pair i register bit word x r u ex right =
    below_more (λ k. output (nearest n ys) k ≡ get_or ys k 0) (2 * i) r.taken.same (sym u.x_is ∙ sym ex ∙ sym right ∙ r.at.first)

-- X agrees and Y does not: the place is that of Y
pub stop_at_y : (n : ℕ) (ys list pair : List ℕ) (i register bit word x y : ℕ) → 2 * (n + tail) ≡ length ys → Ready n ys list pair i register → Turn n ys i bit word → x ≡ word_x word → get_or pair 0 0 ≡ x → y ≡ word_y word → (get_or pair 1 0 ≡ y → ⊥) → AgreesUpTo convolution n ys (2 * i + 1) × (2 * i + 1 < length ys)
stop_at_y n ys list pair i register bit word x y long r u ex right ey wrong =
    let inside = r.at.inside in
    (agreement n ys (2 * i + 1) long (omega arith) (x_agrees n ys list pair i register bit word x r u ex right) (λ _ s. wrong (r.at.second ∙ sym s ∙ sym u.y_is ∙ sym ey)), inside)

-- the bit in hand is written where it is one of the message, and the list is left where it is not
pub bit_written : (n : ℕ) (ys list : List ℕ) (i register bit word : ℕ) → i < length list → Turn n ys i bit word → Taking n ys list i register → (k : ℕ) → k < i + 1 → k < n → get_or (set list i bit) k 0 ≡ get_or (nearest n ys) k 0
bit_written n ys list i register bit word l u t k b h =
    below_more (λ j. j < n → get_or (set list i bit) j 0 ≡ get_or (nearest n ys) j 0) i (λ j c d. get_or-set_other list i j bit 0 (λ q. omega arith) ∙ t.bits j c d) (λ _. get_or-set_same list i bit 0 l ∙ u.is) k b h

pub bit_kept : (n : ℕ) (ys list : List ℕ) (i register : ℕ) → n ≤ i → Taking n ys list i register → (k : ℕ) → k < i + 1 → k < n → get_or list k 0 ≡ get_or (nearest n ys) k 0
bit_kept n ys list i register l t k b h = t.bits k (omega arith) h

-- both agree
pub take_more : (n m : ℕ) (ys list list' pair : List ℕ) (i i' register bit word x y : ℕ) → m ≡ n → i' ≡ i + 1 → ((k : ℕ) → k < i + 1 → k < n → get_or list' k 0 ≡ get_or (nearest n ys) k 0) → Ready n ys list pair i register → Turn n ys i bit word → x ≡ word_x word → get_or pair 0 0 ≡ x → y ≡ word_y word → get_or pair 1 0 ≡ y → Taking m ys list' i' (word % 64)
take_more n m ys list list' pair i i' register bit word x y kept next written r u ex right ey also =
    let same = below_more (λ k. output (nearest n ys) k ≡ get_or ys k 0) (2 * i + 1) (x_agrees n ys list pair i register bit word x r u ex right) (sym u.y_is ∙ sym ey ∙ sym also ∙ r.at.second) in
    let after : Taking n ys list' (i + 1) (word % 64) = record { small = mod_below word 64 (omega arith); held = u.next; bits = written; same = λ k h. same k (omega arith) } in
    subst (λ (k : ℕ). Taking m ys list' k (word % 64)) (sym next) (subst (λ (c : ℕ). Taking c ys list' (i + 1) (word % 64)) (sym kept) after)

-- all pairs agree: the received list is the coding of the bits taken
pub take_all : (ys list : List ℕ) (i register : ℕ) → 2 * (length list + tail) ≡ length ys → length list + tail ≤ i → Taking (length list) ys list i register → AgreesUpTo convolution (length list) ys (length ys) × (list ≡ nearest (length list) ys)
take_all ys list i register long most t = (
  agreement (length list) ys (length ys) long (omega arith) (λ k h. t.same k (omega arith)) (λ h. absurd (omega arith)),
  same_by_places list (nearest (length list) ys) (sym (nearest_length (length list) ys)) (λ k h. t.bits k (omega arith) h),
)
