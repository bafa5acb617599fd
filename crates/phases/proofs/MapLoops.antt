-- Mapping and taking back, step by step.
use Rattle.std.proofs.Common.{◌≡◌, ℕ, ◌+◌, ◌-◌, ◌*◌, ◌/◌, ◌%◌, ◌<◌, ◌≤◌, true, ◌⊎◌, List, ◌++◌, length, get_or, take, drop, set, Some, None, sym, ap, ◌∙◌, subst, inl, inr, arith, below_more}
use borrow.Rule.Slice.PartMut.{put_mid, post_of}
use Rattle.std.proofs.lemmas.Nat.{div-mul-add, mod-mul-add, div_below, mul-le}
use Rattle.std.proofs.lemmas.List.{length-append, length-drop, length-take-le, get_or-take, get_or-drop, get_or_append_left, get_or-append_right, get_or-set_same, get_or-set_other, take-append-drop, drop-drop, drop_at}
use Rattle.std.proofs.lemmas.Bool.{cases_lt}
use Rattle.stage.specs.Agreement.{Regains}
use Rattle.stage.specs.Plain.{within}
use Rattle.stage.specs.Lists.{within_at, within_from, same_by_places}
use Rattle.phases.specs.Maps.{is_width, increment_of, number_of, written, bit_of, increments, bits, unmapped_length, mapping, Written, Unmapping}
use Rattle.phases.specs.Widths.{width_some, same_written}
use Rattle.phases.specs.MapLengths.{Whole, mapped_is, unmapped_is, lengths_back, whole_bits, bits_inside}
use Rattle.phases.specs.MapLaws.{increments_length, increments_at, bits_length, bits_at, guess_coded_at}

-- behind `count` groups of b elements comes one more of a list
pub record Group (b : ℕ) (count : ℕ) (xs : List ℕ) (group : List ℕ) (after : List ℕ) : Type 0 where
  pub long : length group ≡ b
  pub parts : drop (count * b) xs ≡ group ++ after

-- a group of whole increments, as the part of the list that it is
pub group_there : (b count size k : ℕ) (xs : List ℕ) → size ≡ b → Whole b (length xs) k → count < k
    → Group b count xs (take size (drop (count * b) xs)) (drop size (drop (count * b) xs))
group_there b count size k xs e w l =
    let whole : k * b ≡ length xs = ap (λ m. m * b) (sym w.count) ∙ whole_bits b (length xs) w.rest in
    record {
      long = length-take-le size (drop (count * b) xs) (omega (arith, bits_inside b count k l, length-drop (count * b) xs)) ∙ e;
      parts = sym (take-append-drop size (drop (count * b) xs));
    }

pub group_after : (b count : ℕ) (xs group after : List ℕ) → Group b count xs group after → after ≡ drop ((count + 1) * b) xs
group_after b count xs group after g =
    let e : count * b + b ≡ (count + 1) * b = omega arith in
    sym (drop_at group after b g.long) ∙ ap (drop b) (sym g.parts) ∙ drop-drop b (count * b) xs ∙ ap (λ k. drop k xs) e

pub group_inside : (b count : ℕ) (xs group after : List ℕ) → Group b count xs group after → 0 < b → (count + 1) * b ≤ length xs
group_inside b count xs group after g p =
    omega (arith, g.long, ap length g.parts, length-drop (count * b) xs, length-append group after)

group_at : (b count : ℕ) (xs group after : List ℕ) → Group b count xs group after → (j : ℕ) → j < b → get_or group j 0 ≡ get_or xs (count * b + j) 0
group_at b count xs group after g j l =
    let long = g.long in
    sym (get_or_append_left group after 0 j (omega arith)) ∙ ap (λ zs. get_or zs j 0) (sym g.parts) ∙ get_or-drop (count * b) xs j 0

pub group_bits : (b count : ℕ) (xs group after : List ℕ) → Group b count xs group after → within 1 xs ≡ true → within 1 group ≡ true
group_bits b count xs group after g w =
    let long = g.long in
    within_from 1 group (λ j l. omega (arith, group_at b count xs group after g j (omega arith), within_at 1 xs (count * b + j) w))

group_written : (b count : ℕ) (xs group after : List ℕ) → Group b count xs group after → written group 0 b ≡ written xs (count * b) b
group_written b count xs group after g =
    same_written group xs 0 (count * b) b (λ j l. let e : 0 + j ≡ j = omega arith in ap (λ k. get_or group k 0) e ∙ group_at b count xs group after g j l)

-- as many groups as there are increments
below_count : (b n k count : ℕ) → 0 < b → Whole b n k → (count + 1) * b ≤ n → count < k
below_count b n k count p w l =
    let whole = whole_bits b n w.rest in
    let same = w.count in
    let e : count * b + 0 ≡ count * b = omega arith in
    let q : count * b / b ≡ count = ap (λ m. m / b) (sym e) ∙ div-mul-add count b 0 p in
    omega (arith, div_below (count * b) b (n / b) p (omega arith))

-- the first `count` increments are put out
abbrev pub Mapping : ℕ → List ℕ → List ℕ → ℕ → Type 0
Mapping b xs coded count = (k : ℕ) → k < count → get_or coded k 0 ≡ increment_of b (written xs (k * b) b)

-- one increment more
pub map_more : (b : ℕ) (xs coded group after : List ℕ) (i count next w value : ℕ) → is_width b ≡ true → Whole b (length xs) (length coded)
    → Group b count xs group after → i ≡ count → next ≡ count + 1 → w ≡ written group 0 b → value ≡ increment_of b w
    → Mapping b xs coded count → Mapping b xs (set coded i value) next
map_more b xs coded group after i count next w value known whole g ei en e v f =
    let p = width_some b known in
    let inside = below_count b (length xs) (length coded) count p whole (group_inside b count xs group after g p) in
    subst (λ (m : ℕ). Mapping b xs (set coded i value) m) (sym en)
    (subst (λ (m : ℕ). Mapping b xs (set coded m value) (count + 1)) (sym ei)
    (below_more
    (λ k. get_or (set coded count value) k 0 ≡ increment_of b (written xs (k * b) b))
    count
    (λ k h. get_or-set_other coded count k value 0 (omega arith) ∙ f k h)
    (get_or-set_same coded count value 0 inside ∙ v ∙ ap (increment_of b) (e ∙ group_written b count xs group after g))))

-- as many as there are increments are the coding
pub mapped_all : (b : ℕ) (xs coded : List ℕ) (count : ℕ) → Whole b (length xs) (length coded) → length coded ≤ count
    → Mapping b xs coded count → coded ≡ increments b xs
mapped_all b xs coded count whole all f =
    let same = whole.count in
    same_by_places coded (increments b xs) (omega (arith, increments_length b xs)) (λ k h. f k (omega arith) ∙ sym (increments_at b xs k (omega arith)))

-- where no group is left, the increments of all bits are the coding
pub mapped : (b : ℕ) (xs coded : List ℕ) (count : ℕ) → is_width b ≡ true → Whole b (length xs) (length coded) → length (drop (count * b) xs) < b
    → Mapping b xs coded count → coded ≡ increments b xs
mapped b xs coded count known whole last f =
    let p = width_some b known in
    let li = increments_length b xs in
    let same = whole.count in
    same_by_places coded (increments b xs) (omega arith) (λ k h. f k (of k h (cases_lt k count)) ∙ sym (increments_at b xs k (omega arith)))
  where
    of : (k : ℕ) → k < length coded → (k < count) ⊎ (count ≤ k) → k < count
    of k h (inl l) = l
    of k h (inr l) =
        let inside = bits_inside b k (length xs / b) (omega (arith, whole.count)) in
        absurd (omega (arith, inside, whole_bits b (length xs) whole.rest, mul-le count b k b l (omega arith), length-drop (count * b) xs, last))

-- the bits of one increment more are put down
pub unmap_more : (b : ℕ) (ys before list group : List ℕ) (i size w : ℕ) → unmapped_length b (length ys) ≡ Some (length before) → length list ≡ length before
    → i < length ys → length group ≡ b → w ≡ number_of b (get_or ys i 0) → increment_of b w ≡ get_or ys i 0 → Written b w group
    → Unmapping b ys list i → Unmapping b ys (put_mid (i * b) size list group) (i + 1)
unmap_more b ys before list group i size w lengths kept next long e known put f =
    record {
      in_table = below_more (λ k. increment_of b (number_of b (get_or ys k 0)) ≡ get_or ys k 0) i f.in_table (ap (increment_of b) (sym e) ∙ known);
      unmapped = λ k h. of k h (cases_lt k (i * b));
    }
  where
    lt : length (take (i * b) list) ≡ i * b
    lt = length-take-le (i * b) list (omega (arith, kept, bits_inside b i (length ys) next, (unmapped_is b (length before) (length ys) lengths).1))

    of : (k : ℕ) → k < (i + 1) * b → (k < i * b) ⊎ (i * b ≤ k) → get_or (put_mid (i * b) size list group) k 0 ≡ bit_of b (number_of b (get_or ys (k / b) 0)) (k % b)
    of k h (inl l) =
        get_or_append_left (take (i * b) list) (group ++ post_of (i * b) size list) 0 k (omega (arith, lt))
        ∙ get_or-take (i * b) list k 0 l
        ∙ f.unmapped k l
    of k h (inr l) =
        let j = k - i * b in
        let place : i * b + (k - i * b) ≡ k = omega arith in
        let short : k - i * b < b = omega arith in
        let q : k / b ≡ i = ap (λ m. m / b) (sym place) ∙ div-mul-add i b j short in
        let r : k % b ≡ j = ap (λ m. m % b) (sym place) ∙ mod-mul-add i b j short in
        get_or-append_right (take (i * b) list) (group ++ post_of (i * b) size list) (i * b) k 0 lt l
        ∙ get_or_append_left group (post_of (i * b) size list) 0 j (omega (arith, long))
        ∙ put j short
        ∙ ap (λ x. bit_of b x j) e
        ∙ ap (λ m. bit_of b (number_of b (get_or ys m 0)) j) (sym q)
        ∙ ap (bit_of b (number_of b (get_or ys (k / b) 0))) (sym r)

-- the coding of the nearest bits, at a place
nearest_at : (b : ℕ) (ys list : List ℕ) → is_width b ≡ true → unmapped_length b (length ys) ≡ Some (length list) → (k : ℕ) → k < length ys
    → get_or (increments b (bits b (length list) ys)) k 0 ≡ increment_of b (number_of b (get_or ys k 0))
nearest_at b ys list known long k l =
    let w = mapped_is b (length list) (length ys) (lengths_back b known (length list) (length ys) long) in
    guess_coded_at b (length list) ys k known w.rest (omega (arith, w.count))

-- increments in use are the coding of their bits
pub unmapped : (b : ℕ) (ys list : List ℕ) (i : ℕ) → is_width b ≡ true → unmapped_length b (length ys) ≡ Some (length list)
    → length ys ≤ i → i ≤ length ys → Unmapping b ys list i → Regains (mapping b) ys None list
unmapped b ys list i known long most few f =
    let lb = bits_length b (length list) ys in
    let t = unmapped_is b (length list) (length ys) long in
    let all : i ≡ length ys = omega arith in (
      record {
        few = omega arith;
        same = λ k h. nearest_at b ys list known long k h ∙ f.in_table k (omega arith);
        stop = λ h. absurd (omega arith);
      },
      same_by_places list (bits b (length list) ys) (omega arith) (λ k h. f.unmapped k (omega (arith, t.1, ap (λ m. m * b) all)) ∙ sym (bits_at b (length list) ys k h)),
    )

-- the first increment that is not in use is where the coding differs
pub not_unmapped : (b : ℕ) (ys list : List ℕ) (i : ℕ) → is_width b ≡ true → unmapped_length b (length ys) ≡ Some (length list)
    → i < length ys → (increment_of b (number_of b (get_or ys i 0)) ≡ get_or ys i 0 → ⊥) → Unmapping b ys list i → Regains (mapping b) ys (Some i) list
not_unmapped b ys list i known long l other f = (
  record {
    few = omega arith;
    same = λ k h. nearest_at b ys list known long k (omega arith) ∙ f.in_table k h;
    stop = λ h e. other (sym (nearest_at b ys list known long i h) ∙ e);
  },
  l,
)
