-- A stage that moves bits one-to-one is sound.
use Rattle.std.specs.Prelude.{◌≡◌, ℕ, zero, suc, ◌+◌, ◌*◌, ◌/◌, ◌%◌, ◌<◌, ◌≤◌, true, ◌&&◌, ◌⊎◌, List, length, Some, None, ◌==◌, ◌≢◌, nat_le, slice_index, slice_index_or}
use Rattle.std.proofs.Common.{sym, ap, subst, ◌∙◌, inl, inr, arith, mul_comm, mul-pos}
use Rattle.std.proofs.lemmas.List.FromFn.{length-map-range_with_len, get_or-map-range_with_len}
use Rattle.std.proofs.lemmas.Nat.{div-add-mod', div_below, mod_below, mul-add-lt, mul-le}
use Rattle.std.proofs.lemmas.Bool.{and_parts, leb-true, eqb-true, eq-eqb, ne_eqb, cases_eq, cases_lt, cond-true, cond-false}
use Rattle.stage.specs.Plain.{within}
use Rattle.stage.specs.Model.{plain, legal, longest_list}
use Rattle.stage.specs.Sound.{Sound}
use Rattle.stage.specs.Lists.{value_of_some, within_at, within_from, same_by_places}
use Rattle.stage.specs.AgreementLaws.{some_under_test}
use Rattle.stage.specs.Plains.{plain_keeps}
use Rattle.stage.specs.Legality.{legal_within, legal_length}
use Rattle.interleave.specs.Places.{OneToOne, place}
use Rattle.interleave.specs.Interleavings.{known_sizes, goes_to, comes_from, moved, nearest_bit, fetched, exactly, moving, interleaving, KeepsThePromise}
use Rattle.interleave.specs.Pigeonholes.{every_place_is_hit}
use Rattle.interleave.specs.PlaceLaws.{same_parts, block_one_to_one}

pub exactly_is : (count n k : ℕ) → exactly count n ≡ Some k → (n ≡ count) × (count ≡ k)
exactly_is count n k h = let u = some_under_test (n == count) count k h in (eqb-true n count u.0, u.1)

pub exactly_legal : (count n : ℕ) → n ≡ count → exactly count n ≡ Some count
exactly_legal count n e = cond-true (n == count) (Some count) None (eq-eqb n count e)

both_ways : (count n k : ℕ) → exactly count n ≡ Some k → exactly count k ≡ Some n
both_ways count n k h = let u = exactly_is count n k h in exactly_legal count k (sym u.1) ∙ ap Some (sym u.0)

found_where_hit : (f : ℕ → ℕ) (count p q : ℕ) → q < count → f q ≡ p → (comes_from f count p < count) × (f (comes_from f count p) ≡ p)
found_where_hit f zero p q l e = absurd (omega arith)
found_where_hit f (suc k) p q l e = of (cases_eq (f k) p) (cases_lt q k) (λ b. found_where_hit f k p q b e)
  where
    Found : Type 0
    Found = (comes_from f (suc k) p < suc k) × (f (comes_from f (suc k) p) ≡ p)

    of : (f k ≡ p) ⊎ (f k ≢ p) → (q < k) ⊎ (k ≤ q) → (q < k → (comes_from f k p < k) × (f (comes_from f k p) ≡ p)) → Found
    of (inl here) y before =
        let is : comes_from f (suc k) p ≡ k = cond-true (f k == p) k (comes_from f k p) (eq-eqb (f k) p here) in
        (omega arith, ap f is ∙ here)
    of (inr other) (inl below) before =
        let is : comes_from f (suc k) p ≡ comes_from f k p = cond-false (f k == p) k (comes_from f k p) (ne_eqb (f k) p other) in
        let there = before below in
        (omega (arith, is, there.0), ap f is ∙ there.1)
    of (inr other) (inr last) before =
        let same : k ≡ q = omega arith in
        absurd (other (ap f same ∙ e))

pub source_of : (f : ℕ → ℕ) (count p : ℕ) → OneToOne count f → p < count → (comes_from f count p < count) × (f (comes_from f count p) ≡ p)
source_of f count p h l =
    let hit = every_place_is_hit count f h p l in
    found_where_hit f count p hit.0 hit.1.0 hit.1.1

pub source_back : (f : ℕ → ℕ) (count q : ℕ) → OneToOne count f → q < count → comes_from f count (f q) ≡ q
source_back f count q h l =
    let there = source_of f count (f q) h (h.inside q l) in
    h.apart (comes_from f count (f q)) q there.0 l there.1

pub length_moved : (count : ℕ) (f : ℕ → ℕ) (xs : List ℕ) → length (moved count f xs) ≡ count
length_moved count f xs = length-map-range_with_len (λ p. slice_index xs (comes_from f count p)) 0 count

pub moved_at : (count : ℕ) (f : ℕ → ℕ) (xs : List ℕ) (p : ℕ) → p < count → slice_index (moved count f xs) p ≡ slice_index xs (comes_from f count p)
moved_at count f xs p l = get_or-map-range_with_len (λ p. slice_index xs (comes_from f count p)) 0 count p p 0 l (omega arith)

pub moved_there : (count : ℕ) (f : ℕ → ℕ) (xs : List ℕ) (q : ℕ) → OneToOne count f → q < count → slice_index (moved count f xs) (f q) ≡ slice_index xs q
moved_there count f xs q h l = moved_at count f xs (f q) (h.inside q l) ∙ ap (λ k. slice_index xs k) (source_back f count q h l)

pub length_fetched : (f : ℕ → ℕ) (count : ℕ) (ys : List ℕ) → length (fetched f count ys) ≡ count
length_fetched f count ys = length-map-range_with_len (λ q. nearest_bit (slice_index ys (f q))) 0 count

pub fetched_at : (f : ℕ → ℕ) (count : ℕ) (ys : List ℕ) (q : ℕ) → q < count → slice_index (fetched f count ys) q ≡ nearest_bit (slice_index ys (f q))
fetched_at f count ys q l = get_or-map-range_with_len (λ q. nearest_bit (slice_index ys (f q))) 0 count q q 0 l (omega arith)

-- the nearest coding holds at each place the bit nearest to what was received there
pub coded_fetched_at : (count : ℕ) (f : ℕ → ℕ) (ys : List ℕ) (p : ℕ) → OneToOne count f → p < count → slice_index (moved count f (fetched f count ys)) p ≡ nearest_bit (slice_index ys p)
coded_fetched_at count f ys p h l =
    let there = source_of f count p h l in
    moved_at count f (fetched f count ys) p l ∙ fetched_at f count ys (comes_from f count p) there.0 ∙ ap (λ k. nearest_bit (slice_index ys k)) there.1

fetched_back : (count : ℕ) (f : ℕ → ℕ) (xs : List ℕ) → OneToOne count f → length xs ≡ count → within 1 xs ≡ true → fetched f count (moved count f xs) ≡ xs
fetched_back count f xs h e w =
    same_by_places _ xs (length_fetched f count (moved count f xs) ∙ sym e) (λ q l.
    let b : q < count = omega (arith, length_fetched f count (moved count f xs)) in
    omega (arith, fetched_at f count (moved count f xs) q b, moved_there count f xs q h b, within_at 1 xs q w))

pub legal_many : (count : ℕ) (f : ℕ → ℕ) (xs : List ℕ) → legal (plain (moving count f)) xs ≡ true → length xs ≡ count
legal_many count f xs l =
    let v = value_of_some (exactly count (length xs)) (legal_length (plain (moving count f)) xs l) in
    (exactly_is count (length xs) v.0 v.1).0

pub moving_sound : (count : ℕ) (f : ℕ → ℕ) → count ≤ longest_list → OneToOne count f → Sound (moving count f)
moving_sound count f short h =
    record {
      takes_bytes = omega arith;
      puts_bytes = omega arith;
      short_lists = λ n k e. (omega (arith, (exactly_is count n k e).0, short), omega (arith, (exactly_is count n k e).1, short));
      lengths_there = λ n k e. both_ways count n k e;
      lengths_back = λ n k e. both_ways count k n e;
      stated_length = λ xs l. exactly_legal count (length xs) (legal_many count f xs l) ∙ ap Some (sym (length_moved count f xs));
      stated_alphabet = λ xs l. within_from 1 (moved count f xs) (λ p b.
          let s : p < count = omega (arith, length_moved count f xs) in
          omega (arith, moved_at count f xs p s, within_at 1 xs (comes_from f count p) (legal_within (plain (moving count f)) xs l)));
      guess_length = λ n ys e. length_fetched f n ys;
      guess_within = λ n ys e. within_from 1 (fetched f n ys) (λ q b.
          omega (arith, fetched_at f n ys q (omega (arith, length_fetched f n ys))));
      guess_back = λ xs l.
          let e = legal_many count f xs l in
          subst (λ (n : ℕ). fetched f n (moved count f xs) ≡ xs) (sym e) (fetched_back count f xs h e (legal_within (plain (moving count f)) xs l));
      guess_best = λ xs ys k l long b same.
          let e = legal_many count f xs l in
          let s : k < count = omega (arith, length_moved count f xs, long) in
          let right : slice_index_or (moved count f (fetched f count ys)) k 0 ≡ slice_index_or ys k 0 =
          omega (arith, coded_fetched_at count f ys k h s, same k (omega arith), moved_at count f xs k s, within_at 1 xs (comes_from f count k) (legal_within (plain (moving count f)) xs l)) in
          subst (λ (n : ℕ). slice_index (moved count f (fetched f n ys)) k ≡ slice_index ys k) (sym e) right;
    }

-- whole lists of blocks
pub goes_one_to_one : (m n b : ℕ) → 0 < m → 0 < n → OneToOne (m * n * b) (goes_to m n)
goes_one_to_one m n b some many =
    record {
      inside = λ t l. mul-add-lt (t / (m * n)) (m * n) (place m n (t % (m * n))) b (in_blocks t l) (block.inside (t % (m * n)) (mod_below t (m * n) whole));
      apart = λ t u l k e.
          let p = same_parts (m * n) (t / (m * n)) (place m n (t % (m * n))) (u / (m * n)) (place m n (u % (m * n))) (block.inside (t % (m * n)) (mod_below t (m * n) whole)) (block.inside (u % (m * n)) (mod_below u (m * n) whole)) e in
          let r = block.apart (t % (m * n)) (u % (m * n)) (mod_below t (m * n) whole) (mod_below u (m * n) whole) p.1 in
          sym (div-add-mod' t (m * n)) ∙ ap (λ x. x * (m * n) + t % (m * n)) p.0 ∙ ap (λ x. u / (m * n) * (m * n) + x) r ∙ div-add-mod' u (m * n);
    }
  where
    whole : 0 < m * n
    whole = mul-pos some many

    block : OneToOne (m * n) (place m n)
    block = block_one_to_one m n some many

    in_blocks : (t : ℕ) → t < m * n * b → t / (m * n) < b
    in_blocks t l = div_below t (m * n) b whole (subst (λ x. t < x) (mul_comm (m * n) b) l)

pub sizes_known : (m n b : ℕ) → known_sizes m n b ≡ true → ((0 < m) × (m ≤ 36)) × (((0 < n) × (n ≤ 252)) × (b ≤ 3))
sizes_known m n b h =
    let parts = and_parts ((nat_le 6 m && nat_le m 36) && m % 6 == 0) ((nat_le 1 n && nat_le n 252) && (nat_le 1 b && nat_le b 3)) h in
    let row = and_parts (nat_le 6 m) (nat_le m 36) (and_parts (nat_le 6 m && nat_le m 36) (m % 6 == 0) parts.0).0 in
    let behind = and_parts (nat_le 1 n && nat_le n 252) (nat_le 1 b && nat_le b 3) parts.1 in
    let rows = and_parts (nat_le 1 n) (nat_le n 252) behind.0 in
    let blocks = and_parts (nat_le 1 b) (nat_le b 3) behind.1 in
    ((omega (arith, leb-true 6 m row.0), leb-true m 36 row.1), ((omega (arith, leb-true 1 n rows.0), leb-true n 252 rows.1), leb-true b 3 blocks.1))

pub known_few : (m n b : ℕ) → known_sizes m n b ≡ true → m * n * b ≤ longest_list
known_few m n b h =
    let k = sizes_known m n b h in
    let block : m * n ≤ 36 * 252 = mul-le m n 36 252 k.0.1 k.1.0.1 in
    let few : m * n * b ≤ 36 * 252 * 3 = mul-le (m * n) b (36 * 252) 3 block k.1.1 in
    omega arith

pub known_one_to_one : (m n b : ℕ) → known_sizes m n b ≡ true → OneToOne (m * n * b) (goes_to m n)
known_one_to_one m n b h = let k = sizes_known m n b h in goes_one_to_one m n b k.0.0 k.1.0.0

pub interleaving_sound : (m n b : ℕ) → known_sizes m n b ≡ true → Sound (interleaving m n b)
interleaving_sound m n b h = moving_sound (m * n * b) (goes_to m n) (known_few m n b h) (known_one_to_one m n b h)

pub interleaving_keeps : KeepsThePromise
interleaving_keeps m n b h = plain_keeps (interleaving m n b) (interleaving_sound m n b h)
