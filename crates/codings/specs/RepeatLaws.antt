-- The stage that repeats bits is sound.
use Rattle.std.specs.Prelude.{◌≡◌, ℕ, ◌+◌, ◌-◌, ◌*◌, ◌/◌, ◌%◌, ◌<◌, ◌≤◌, true, ◌⊎◌, List, length, replicate, Some, None, ◌==◌, slice_index, slice_index_or}
use Rattle.std.proofs.Common.{sym, ap, subst, ◌∙◌, inl, inr, arith}
use Rattle.std.proofs.lemmas.List.{length-replicate, get_or-replicate}
use Rattle.std.proofs.lemmas.List.FromFn.{length-map-range_with_len, get_or-map-range_with_len, fill_by_all}
use Rattle.std.proofs.lemmas.Nat.{div-add-mod', div-mul-add, div_below, mod_below, mul-le}
use Rattle.std.proofs.lemmas.Bool.{or_cases, eqb-true, cases_lt}
use Rattle.stage.specs.Plain.{within}
use Rattle.stage.specs.Model.{plain, legal}
use Rattle.stage.specs.Sound.{Sound}
use Rattle.stage.specs.Agreement.{AgreesUpTo, Regains}
use Rattle.stage.specs.Lists.{value_of_some, within_at, within_from, same_by_places}
use Rattle.stage.specs.Legality.{legal_within, legal_length}
use Rattle.codings.specs.NearestBits.{nearest_bit}
use Rattle.codings.specs.Repeats.{known_times, most_bits, repeated, repeated_length, single_length, group_heads, repetition, FirstOther}
use Rattle.codings.specs.GroupLaws.{length_groups, group_at_place, groups_within, group_inside, grouped_is, grouped_legal, grouped_there, grouped_back, grouped_short, counted_is, Chunk}

pub known_is_small : (t : ℕ) → known_times t ≡ true → (0 < t) × (t ≤ 6)
known_is_small t h = of (or_cases (t == 4) (t == 6) h)
  where
    of : ((t == 4) ≡ true) ⊎ ((t == 6) ≡ true) → (0 < t) × (t ≤ 6)
    of (inl e) = let q = eqb-true t 4 e in (omega arith, omega arith)
    of (inr e) = let q = eqb-true t 6 e in (omega arith, omega arith)

length_repeated : (t : ℕ) (xs : List ℕ) → length (repeated t xs) ≡ length xs * t
length_repeated t xs = length_groups (replicate t) t (λ x. length-replicate t x) xs

-- by index: at place j stands the bit j / t
pub repeated_at : (t : ℕ) (xs : List ℕ) (j : ℕ) → 0 < t → j < length xs * t → slice_index (repeated t xs) j ≡ slice_index xs (j / t)
repeated_at t xs j p l =
    group_at_place (replicate t) t (λ x. length-replicate t x) xs j p l
    ∙ get_or-replicate t (j % t) (slice_index xs (j / t)) 0 (mod_below j t p)

pub legal_few : (t : ℕ) (xs : List ℕ) → legal (plain (repetition t)) xs ≡ true → length xs ≤ most_bits
legal_few t xs l =
    let v = value_of_some (repeated_length t (length xs)) (legal_length (plain (repetition t)) xs l) in
    (grouped_is most_bits t (length xs) v.0 v.1).0

copies_are_bits : (t : ℕ) (xs : List ℕ) → within 1 xs ≡ true → within 1 (repeated t xs) ≡ true
copies_are_bits t xs w =
    groups_within 1 (replicate t) xs (λ i l. within_from 1 (replicate t (slice_index xs i)) (λ k h.
    omega (arith, get_or-replicate t k (slice_index xs i) 0 (omega (arith, length-replicate t (slice_index xs i))), within_at 1 xs i w)))

-- the guess and its coding by index
pub heads_at : (t n : ℕ) (ys : List ℕ) (i : ℕ) → i < n → slice_index (group_heads t n ys) i ≡ nearest_bit (slice_index ys (i * t))
heads_at t n ys i l = get_or-map-range_with_len (λ i. nearest_bit (slice_index ys (i * t))) 0 n i i 0 l (omega arith)

pub length_heads : (t n : ℕ) (ys : List ℕ) → length (group_heads t n ys) ≡ n
length_heads t n ys = length-map-range_with_len (λ i. nearest_bit (slice_index ys (i * t))) 0 n

pub coded_heads_at : (t n : ℕ) (ys : List ℕ) (j : ℕ) → 0 < t → j < n * t → slice_index (repeated t (group_heads t n ys)) j ≡ nearest_bit (slice_index ys (j / t * t))
coded_heads_at t n ys j p l =
    let long : length (group_heads t n ys) * t ≡ n * t = ap (λ m. m * t) (length_heads t n ys) in
    repeated_at t (group_heads t n ys) j p (omega arith)
    ∙ heads_at t n ys (j / t) (div_below j t n p l)

heads_are_bits : (t n : ℕ) (ys : List ℕ) → within 1 (group_heads t n ys) ≡ true
heads_are_bits t n ys =
    within_from 1 (group_heads t n ys) (λ i l. omega (arith, heads_at t n ys i (omega (arith, length_heads t n ys))))

-- the first place of a group
pub head_place : (t n i : ℕ) → 0 < t → i < n → (i * t / t ≡ i) × (i * t < n * t)
head_place t n i p l =
    let none : i * t + 0 ≡ i * t = omega arith in
    (ap (λ m. m / t) (sym none) ∙ div-mul-add i t 0 p, omega (arith, group_inside i n t l))

heads_of_copies : (t : ℕ) (xs : List ℕ) → 0 < t → within 1 xs ≡ true → group_heads t (length xs) (repeated t xs) ≡ xs
heads_of_copies t xs p w =
    same_by_places _ xs (length_heads t (length xs) (repeated t xs)) (λ i l.
    let h : i < length xs = omega (arith, length_heads t (length xs) (repeated t xs)) in
    let at = head_place t (length xs) i p h in
    let e : slice_index_or (repeated t xs) (i * t) 0 ≡ slice_index_or xs i 0 = repeated_at t xs (i * t) p at.1 ∙ ap (λ k. slice_index xs k) at.0 in
    omega (arith, heads_at t (length xs) (repeated t xs) i h, within_at 1 xs i w))

best : (t : ℕ) (xs ys : List ℕ) (k : ℕ) → 0 < t → within 1 xs ≡ true → length (repeated t xs) ≡ length ys
    → k < length ys → ((j : ℕ) → j < k + 1 → slice_index (repeated t xs) j ≡ slice_index ys j)
    → slice_index (repeated t (group_heads t (length xs) ys)) k ≡ slice_index ys k
best t xs ys k p w long l same =
    let inside : k < length xs * t = omega (arith, length_repeated t xs) in
    let split = div-add-mod' k t in
    let below : k / t < length xs = div_below k t (length xs) p inside in
    let at = head_place t (length xs) (k / t) p below in
    let first : slice_index_or (repeated t xs) (k / t * t) 0 ≡ slice_index_or xs (k / t) 0 = repeated_at t xs (k / t * t) p at.1 ∙ ap (λ m. slice_index xs m) at.0 in
    omega (arith, coded_heads_at t (length xs) ys k p inside, first, same (k / t * t) (omega arith), same k (omega arith), repeated_at t xs k p inside, within_at 1 xs (k / t) w)

pub repetition_sound : (t : ℕ) → known_times t ≡ true → Sound (repetition t)
repetition_sound t known =
    let small = known_is_small t known in
    record {
      takes_bytes = omega arith;
      puts_bytes = omega arith;
      short_lists = λ n k h. (omega (arith, (grouped_is most_bits t n k h).0), omega (arith, grouped_short most_bits 6 t n k small.1 h));
      lengths_there = λ n k h. grouped_there most_bits t n k small.0 h;
      lengths_back = λ n k h. grouped_back most_bits t n k small.0 h;
      stated_length = λ xs l. grouped_legal most_bits t (length xs) (legal_few t xs l) ∙ ap Some (sym (length_repeated t xs));
      stated_alphabet = λ xs l. copies_are_bits t xs (legal_within (plain (repetition t)) xs l);
      guess_length = λ n ys h. length_heads t n ys;
      guess_within = λ n ys h. heads_are_bits t n ys;
      guess_back = λ xs l. heads_of_copies t xs small.0 (legal_within (plain (repetition t)) xs l);
      guess_best = λ xs ys k l long i same. best t xs ys k small.0 (legal_within (plain (repetition t)) xs l) long i same;
    }

-- all elements before a place are copies of the nearest bit to the head of their group
abbrev pub Copies : ℕ → List ℕ → ℕ → Type 0
Copies t received place = (j : ℕ) → j < place → nearest_bit (slice_index received (j / t * t)) ≡ slice_index received j

-- a place in the group i
in_group : (t i j : ℕ) → 0 < t → i * t ≤ j → j < i * t + t → j / t ≡ i
in_group t i j p l h =
    let at : i * t + (j - i * t) ≡ j = omega arith in
    ap (λ m. m / t) (sym at) ∙ div-mul-add i t (j - i * t) (omega arith)

-- the bit nearest to the head of a group
pub head_bit : (t i bit : ℕ) (received copies rest : List ℕ) → 0 < t → Chunk received t i copies rest → bit ≡ nearest_bit (slice_index copies 0) → bit ≡ nearest_bit (slice_index received (i * t))
head_bit t i bit received copies rest p chunk e =
    let here : i * t + 0 ≡ i * t = omega arith in e ∙ ap nearest_bit (chunk.at 0 p) ∙ ap (λ m. nearest_bit (slice_index received m)) here

-- copies before the group i, and so many in it
copies_on : (t i bit many : ℕ) (received copies rest : List ℕ) → 0 < t → many ≤ t → Chunk received t i copies rest
    → bit ≡ nearest_bit (slice_index received (i * t)) → ((k : ℕ) → k < many → slice_index copies k ≡ bit)
    → Copies t received (i * t) → Copies t received (i * t + many)
copies_on t i bit many received copies rest p few chunk head same before j l = of (cases_lt j (i * t))
  where
    of : (j < i * t) ⊎ (i * t ≤ j) → nearest_bit (slice_index received (j / t * t)) ≡ slice_index received j
    of (inl h) = before j h
    of (inr h) =
        let at : i * t + (j - i * t) ≡ j = omega arith in
        ap (λ m. nearest_bit (slice_index received (m * t))) (in_group t i j p h (omega arith))
        ∙ sym head
        ∙ sym (same (j - i * t) (omega arith))
        ∙ chunk.at (j - i * t) (omega arith)
        ∙ ap (λ m. slice_index received m) at

pub copies_next : (t i j bit : ℕ) (received copies rest : List ℕ) → 0 < t → j ≡ i + 1 → Chunk received t i copies rest
    → bit ≡ nearest_bit (slice_index received (i * t)) → FirstOther bit copies None
    → Copies t received (i * t) → Copies t received (j * t)
copies_next t i j bit received copies rest p e chunk head same before k l =
    let on : j * t ≡ i * t + t = omega (arith, ap (λ m. m * t) e) in
    copies_on t i bit t received copies rest p (omega arith) chunk head (λ m h. same m (omega (arith, chunk.long))) before k (omega arith)

-- copies of the heads of all groups are the coding of the heads
pub heads_regained : (t count done : ℕ) (received list : List ℕ) → 0 < t → count ≤ done → length list ≡ count → length received ≡ count * t
    → ((k : ℕ) → k < done → slice_index list k ≡ nearest_bit (slice_index received (k * t)))
    → Copies t received (done * t) → Regains (repetition t) received None list
heads_regained t count done received list p most long whole heads copies =
    let all : count * t ≤ done * t = mul-le count t done t most (omega arith) in
    let made = fill_by_all (λ i. nearest_bit (slice_index received (i * t))) list count 0 long (λ k s. heads k (omega arith)) in
    let guess : list ≡ group_heads t (length list) received = made ∙ ap (λ m. group_heads t m received) (sym long) in
    let whole' : length received ≡ length list * t = whole ∙ ap (λ m. m * t) (sym long) in (
      record {
        few = omega arith;
        same = λ k h. coded_heads_at t (length list) received k p (omega arith) ∙ copies k (omega arith);
        stop = λ h _. absurd (omega arith);
      },
      guess,
    )

-- the first element of a group that is no copy is the place of the fault
pub no_copy_found : (t i count place bit many : ℕ) (received list copies rest : List ℕ) → 0 < t → place ≡ i → length list ≡ count → length received ≡ count * t → Chunk received t i copies rest
    → bit ≡ nearest_bit (slice_index received (i * t)) → FirstOther bit copies (Some many)
    → Copies t received (i * t) → Regains (repetition t) received (Some (place * t + many)) list
no_copy_found t i count place bit many received list copies rest p e long total chunk head f before =
    subst (λ (j : ℕ). Regains (repetition t) received (Some (j * t + many)) list) (sym e) (agreed, inside)
  where
    whole : length received ≡ length list * t
    whole = total ∙ ap (λ m. m * t) (sym long)

    few : many < t
    few = omega (arith, f.0, chunk.long)

    inside : i * t + many < length received
    inside = omega (arith, chunk.inside, few)

    on : Copies t received (i * t + many)
    on = copies_on t i bit many received copies rest p (omega (arith, few)) chunk head f.1 before

    coded : (k : ℕ) → k < length received → slice_index (repeated t (group_heads t (length list) received)) k ≡ nearest_bit (slice_index received (k / t * t))
    coded k h = coded_heads_at t (length list) received k p (omega (arith, whole))

    agreed : AgreesUpTo (repetition t) (length list) received (i * t + many)
    agreed =
        record {
          few = omega (arith, inside);
          same = λ k h. coded k (omega (arith, inside)) ∙ on k h;
          stop = λ h same.
              f.2 (chunk.at many few
              ∙ sym same
              ∙ coded (i * t + many) inside
              ∙ ap (λ m. nearest_bit (slice_index received (m * t))) (in_group t i (i * t + many) p (omega arith) (omega (arith, few)))
              ∙ sym head);
        }

pub copies_of : (t n count : ℕ) → known_times t ≡ true → single_length t n ≡ Some count → n ≡ count * t
copies_of t n count known e = sym (counted_is most_bits t count n (known_is_small t known).0 e).1
