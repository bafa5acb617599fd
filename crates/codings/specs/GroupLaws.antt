-- Lists made of groups of one length.
use Rattle.std.specs.Prelude.{◌≡◌, ℕ, zero, suc, ◌+◌, ◌-◌, ◌*◌, ◌/◌, ◌%◌, ◌<◌, ◌≤◌, true, ◌&&◌, ◌⊎◌, List, [], ◌∷◌, ◌++◌, length, take, drop, Some, None, ◌==◌, nat_le, slice_index, slice_index_or, slice_set, refl}
use Rattle.std.proofs.Common.{sym, ap, ◌∙◌, inl, inr, arith}
use borrow.Rule.Slice.PartMut.{put_mid}
use Rattle.std.specs.List.{flat_map}
use Rattle.std.proofs.lemmas.List.{length-append, length-take-le, length-drop, get_or-drop, get_or_append_left, get_or-append-add, take_all, take_more, flat_map_more, drop_at, drop-drop}
use Rattle.std.proofs.lemmas.List.Edits.{fill_by_more}
use Rattle.std.proofs.lemmas.Slice.{take-put_mid}
use Rattle.std.proofs.lemmas.Nat.{div-add-mod', div-mul-add, mod-mul-add, div_below, mod_below, mul-le}
use Rattle.std.proofs.lemmas.Bool.{and_parts, and_from, eqb-true, eq-eqb, leb-true, le-leb, cond-true, cases_lt}
use Rattle.stage.specs.Plain.{within}
use Rattle.codings.specs.Groups.{grouped_length, group_count}
use Rattle.stage.specs.AgreementLaws.{some_under_test}
use Rattle.codings.specs.NearestBitLaws.{within_append}

pub length_groups : (f : ℕ → List ℕ) (t : ℕ) → ((x : ℕ) → length (f x) ≡ t) → (xs : List ℕ) → length (flat_map f xs) ≡ length xs * t
length_groups f t each [] = omega arith
length_groups f t each (x ∷ xs) = omega (arith, length-append (f x) (flat_map f xs), each x, length_groups f t each xs)

-- the element k of the group i
group_at : (f : ℕ → List ℕ) (t : ℕ) → ((x : ℕ) → length (f x) ≡ t) → (xs : List ℕ) (i k : ℕ) → i < length xs → k < t → slice_index (flat_map f xs) (i * t + k) ≡ slice_index (f (slice_index xs i)) k
group_at f t each [] i k l h = absurd (omega arith)
group_at f t each (x ∷ xs) zero k l h =
    let at : 0 * t + k ≡ k = omega arith in
    ap (λ j. slice_index (f x ++ flat_map f xs) j) at ∙ get_or_append_left (f x) (flat_map f xs) 0 k (omega (arith, each x))
group_at f t each (x ∷ xs) (suc i) k l h =
    let at : suc i * t + k ≡ length (f x) + (i * t + k) = omega (arith, each x) in
    ap (λ j. slice_index (f x ++ flat_map f xs) j) at
    ∙ get_or-append-add (f x) (flat_map f xs) (i * t + k) 0
    ∙ group_at f t each xs i k (omega arith) h

-- the element at a place is that of a group
pub group_at_place : (f : ℕ → List ℕ) (t : ℕ) → ((x : ℕ) → length (f x) ≡ t) → (xs : List ℕ) (j : ℕ) → 0 < t → j < length xs * t → slice_index (flat_map f xs) j ≡ slice_index (f (slice_index xs (j / t))) (j % t)
group_at_place f t each xs j p l =
    ap (λ k. slice_index (flat_map f xs) k) (sym (div-add-mod' j t))
    ∙ group_at f t each xs (j / t) (j % t) (div_below j t (length xs) p l) (mod_below j t p)

-- a group inside a list of groups
pub group_inside : (i n t : ℕ) → i < n → i * t + t ≤ n * t
group_inside i n t l = omega (arith, mul-le (i + 1) t n t (omega arith) (omega arith))

pub groups_within : (high : ℕ) (f : ℕ → List ℕ) (xs : List ℕ) → ((i : ℕ) → i < length xs → within high (f (slice_index xs i)) ≡ true) → within high (flat_map f xs) ≡ true
groups_within high f [] h = refl
groups_within high f (x ∷ xs) h =
    within_append high (f x) (flat_map f xs) (h 0 (omega arith)) (groups_within high f xs (λ i l. h (suc i) (omega arith)))

-- lengths there and back
pub grouped_is : (most t n k : ℕ) → grouped_length most t n ≡ Some k → (n ≤ most) × (n * t ≡ k)
grouped_is most t n k h =
    let u = some_under_test (nat_le n most) (n * t) k h in (leb-true n most u.0, u.1)

pub grouped_legal : (most t n : ℕ) → n ≤ most → grouped_length most t n ≡ Some (n * t)
grouped_legal most t n l = cond-true (nat_le n most) (Some (n * t)) None (le-leb n most l)

pub counted_is : (most t n k : ℕ) → 0 < t → group_count most t k ≡ Some n → (n ≤ most) × (n * t ≡ k)
counted_is most t n k p h =
    let u = some_under_test (k % t == 0 && nat_le k (most * t)) (k / t) n h in
    let parts = and_parts (k % t == 0) (nat_le k (most * t)) u.0 in
    let whole = eqb-true (k % t) 0 parts.0 in
    let short = leb-true k (most * t) parts.1 in
    let few = div_below k t (most + 1) p (omega arith) in
    let back = div-add-mod' k t in
    let same : n * t ≡ k / t * t = ap (λ m. m * t) (sym u.1) in
    (omega (arith, u.1), omega arith)

counted_legal : (most t n k : ℕ) → 0 < t → n ≤ most → n * t ≡ k → group_count most t k ≡ Some n
counted_legal most t n k p l e =
    let none : n * t + 0 ≡ k = omega arith in
    let whole : k % t ≡ 0 = ap (λ m. m % t) (sym none) ∙ mod-mul-add n t 0 p in
    let back : k / t ≡ n = ap (λ m. m / t) (sym none) ∙ div-mul-add n t 0 p in
    let short : k ≤ most * t = omega (arith, mul-le n t most t l (omega arith)) in
    cond-true
    (k % t == 0 && nat_le k (most * t))
    (Some (k / t))
    None
    (and_from (k % t == 0) (nat_le k (most * t)) (eq-eqb (k % t) 0 whole) (le-leb k (most * t) short))
    ∙ ap Some back

pub grouped_there : (most t n k : ℕ) → 0 < t → grouped_length most t n ≡ Some k → group_count most t k ≡ Some n
grouped_there most t n k p h = let u = grouped_is most t n k h in counted_legal most t n k p u.0 u.1

pub grouped_back : (most t n k : ℕ) → 0 < t → group_count most t k ≡ Some n → grouped_length most t n ≡ Some k
grouped_back most t n k p h = let u = counted_is most t n k p h in grouped_legal most t n u.0 ∙ ap Some u.1

-- so many groups are no longer than the most of the widest
pub grouped_short : (most wide t n k : ℕ) → t ≤ wide → grouped_length most t n ≡ Some k → k ≤ most * wide
grouped_short most wide t n k l h =
    let u = grouped_is most t n k h in omega (arith, u.1, mul-le n t most wide u.0 l)

-- the part of a list where a group goes
pub part_long : (i t : ℕ) (xs : List ℕ) → i * t + t ≤ length xs → length (take ((i + 1) * t - i * t) (drop (i * t) xs)) ≡ t
part_long i t xs l =
    let wide : (i + 1) * t - i * t ≡ t = omega arith in
    ap (λ m. length (take m (drop (i * t) xs))) wide ∙ length-take-le t (drop (i * t) xs) (omega (arith, length-drop (i * t) xs))

-- one group more, written behind those before
pub groups_more : (f : ℕ → List ℕ) (t : ℕ) → ((x : ℕ) → length (f x) ≡ t) → (i k : ℕ) (xs buffer group : List ℕ)
    → i < length xs → i * t + t ≤ length buffer → group ≡ f (slice_index xs i) → take (i * t) buffer ≡ flat_map f (take i xs)
    → take ((i + 1) * t) (put_mid (i * t) k buffer group) ≡ flat_map f (take (i + 1) xs)
groups_more f t each i k xs buffer group l r made e =
    let x = slice_index_or xs i 0 in
    let long : length group ≡ t = ap length made ∙ each x in
    take-put_mid (i * t) k buffer group ((i + 1) * t) (omega arith) (omega arith)
    ∙ ap (λ zs. zs ++ group) e
    ∙ ap (λ zs. flat_map f (take i xs) ++ zs) made
    ∙ flat_map_more f [] (take i xs) x
    ∙ ap (flat_map f) (sym (take_more xs i 0 l))

pub groups_all : (f : ℕ → List ℕ) (t i : ℕ) (xs buffer : List ℕ) → length xs ≤ i → length xs * t ≡ length buffer → take (i * t) buffer ≡ flat_map f (take i xs) → buffer ≡ flat_map f xs
groups_all f t i xs buffer l long e =
    sym (take_all (i * t) buffer (omega (arith, mul-le (length xs) t i t l (omega arith)))) ∙ e ∙ ap (flat_map f) (take_all i xs l)

-- A chunk of a list that is cut into chunks of one size, and what is left behind it.
pub record Chunk (list : List ℕ) (size i : ℕ) (chunk rest : List ℕ) : Type 0 where
  pub long : length chunk ≡ size
  pub inside : i * size + size ≤ length list
  pub at : (k : ℕ) → k < size → slice_index chunk k ≡ slice_index list (i * size + k)
  pub behind : (j : ℕ) → j ≡ i + 1 → rest ≡ drop (j * size) list

-- the next chunk of what is left
pub chunk_next : (list left chunk rest : List ℕ) (size wide i : ℕ) → 0 < size → wide ≡ size → left ≡ drop (i * size) list → (left ≡ chunk ++ rest) × (length chunk ≡ wide) → Chunk list size i chunk rest
chunk_next list left chunk rest size wide i p e from split =
    let here : chunk ++ rest ≡ drop (i * size) list = sym split.0 ∙ from in
    let long : length chunk ≡ size = split.1 ∙ e in
    record {
      long = long;
      inside = omega (arith, ap length here, length-append chunk rest, length-drop (i * size) list);
      at = λ k l. sym (get_or_append_left chunk rest 0 k (omega arith)) ∙ ap (λ zs. slice_index zs k) here ∙ get_or-drop (i * size) list k 0;
      behind = λ j n.
          let on : i * size + size ≡ j * size = omega (arith, ap (λ m. m * size) n) in
          sym (drop_at chunk rest size long) ∙ ap (drop size) here ∙ drop-drop size (i * size) list ∙ ap (λ m. drop m list) on;
    }

-- where fewer elements are left than make a chunk, all chunks are done
pub chunks_done : (list left : List ℕ) (size i n : ℕ) → left ≡ drop (i * size) list → length left < size → length list ≡ n * size → n ≤ i
chunks_done list left size i n from few long = of (cases_lt i n)
  where
    of : (i < n) ⊎ (n ≤ i) → n ≤ i
    of (inl l) = absurd (omega (arith, group_inside i n size l, ap length from, length-drop (i * size) list))
    of (inr l) = l

-- a chunk inside so many
pub chunk_inside : (size i n : ℕ) → i * size + size ≤ n * size → 0 < size → i < n
chunk_inside size i n l p = of (cases_lt i n)
  where
    of : (i < n) ⊎ (n ≤ i) → i < n
    of (inl h) = h
    of (inr h) = absurd (omega (arith, mul-le n size i size h (omega arith)))

-- one value more, written behind those before
pub written_more : (f : ℕ → ℕ) (xs : List ℕ) (place i j x : ℕ) → place ≡ i → i < length xs → j ≡ i + 1 → x ≡ f i → ((k : ℕ) → k < i → slice_index xs k ≡ f k) → (k : ℕ) → k < j → slice_index (slice_set xs place x) k ≡ f k
written_more f xs place i j x p l n e before k h =
    let same : slice_set xs place x ≡ slice_set xs i (f i) = cc in
    ap (λ zs. slice_index zs k) same ∙ fill_by_more f xs i 0 l before k (omega arith)
