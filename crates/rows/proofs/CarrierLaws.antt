-- How many cells are live, and what gathering keeps of spread cells.
use Rattle.std.proofs.Common.{◌≡◌, ℕ, zero, suc, ◌+◌, ◌*◌, ◌%◌, ◌<◌, ◌≤◌, Bool, true, false, cond, ◌&&◌, eqb, leb, ◌⊎◌, List, [], ◌∷◌, ◌++◌, map, length, get_or, take, drop, sym, refl, ap, ◌∙◌, subst, inl, inr, append-nil, add-zero, mul-suc, arith}
use lib.Count.{ones, ones_in}
use lib.ListN.{get_or-eq_default}
use Rattle.std.specs.List.{range_with_len}
use Rattle.frame.specs.Sizes.{live_carriers}
use Rattle.std.proofs.lemmas.List.FromFn.{get_or-map-range_with_len, length-map-range_with_len}
use Rattle.std.proofs.lemmas.List.{drop_all, drop_more, take_at}
use Rattle.std.proofs.lemmas.Bool.{and_parts, and_from, cases_lt}
use Rattle.std.proofs.lemmas.Bool.Decides.{Decides-below_and, Decides-eqb}
use Rattle.stage.specs.Calls.{Holds}
use Rattle.stage.specs.Plain.{within}
use Rattle.rows.proofs.GatherLaws.{count_few, laid_fits}
use Rattle.rows.specs.Carriers.{Silent, count_before, gathered, kept_from, laid_over, live, live_cell, spread, spread_cell}

-- Two functions agree below a bound if a computed test says so.
abbrev agree : (ℕ → ℕ) → (ℕ → ℕ) → ℕ → Bool
agree f g zero = true
agree f g (suc n) = eqb (f n) (g n) && agree f g n

tabled : (f g : ℕ → ℕ) (n : ℕ) → agree f g n ≡ true → (k : ℕ) → k < n → f k ≡ g k
tabled f g n h = (Decides-below_and (λ k. eqb (f k) (g k)) (λ k. f k ≡ g k) (agree f g) (λ k. Decides-eqb (f k) (g k)) refl (λ _. refl) n).0 h

-- A row has as many live cells as the tone map has live carriers.
pub count_row : (tm : ℕ) → tm < 64 → count_before (live_cell tm) 36 ≡ live_carriers tm
unfolding ones ones_in
count_row = tabled (λ tm. count_before (live_cell tm) 36) live_carriers 64 refl

count_shift : (keeps others : ℕ → Bool) (a n : ℕ) → ((i : ℕ) → keeps (a + i) ≡ others i) → count_before keeps (a + n) ≡ count_before keeps a + count_before others n
count_shift keeps others a zero same = let e : a + 0 ≡ a = omega arith in rw e (omega arith)
count_shift keeps others a (suc n) same =
    let e : a + suc n ≡ suc (a + n) = omega arith in
    let ih = count_shift keeps others a n same in
    ap (count_before keeps) e ∙ ap (λ b. count_before keeps (a + n) + cond b 1 0) (same n) ∙ omega (arith, ih)

row_on : (k i : ℕ) → (36 * k + i) % 36 ≡ i % 36
row_on k i = omega arith

-- So many rows have so many times as many.
pub count_rows : (tm : ℕ) → tm < 64 → (k : ℕ) → count_before (live_cell tm) (36 * k) ≡ live_carriers tm * k
count_rows tm h zero = let e : live_carriers tm * 0 ≡ 0 = omega arith in sym e
count_rows tm h (suc k) =
    let e : 36 * suc k ≡ 36 * k + 36 = omega arith in
    let m : live_carriers tm * suc k ≡ live_carriers tm * k + live_carriers tm = mul-suc (live_carriers tm) k in
    ap (count_before (live_cell tm)) e
    ∙ count_shift (live_cell tm) (live_cell tm) (36 * k) 36 (λ i. ap (live tm) (row_on k i))
    ∙ omega (arith, count_rows tm h k, count_row tm h, m)

pub kept_length : (keeps : ℕ → Bool) (p : ℕ) (xs : List ℕ) → length (kept_from keeps p xs) + count_before keeps p ≡ count_before keeps (p + length xs)
kept_length keeps p [] = let e : p + 0 ≡ p = omega arith in rw e (omega arith)
kept_length keeps p (x ∷ xs) =
    let e : p + suc (length xs) ≡ (p + 1) + length xs = omega arith in
    let s : p + 1 ≡ suc p = omega arith in
    rw e (of (keeps p) refl (kept_length keeps (p + 1) xs) (ap (count_before keeps) s))
  where
    of : (b : Bool) → keeps p ≡ b → length (kept_from keeps (p + 1) xs) + count_before keeps (p + 1) ≡ count_before keeps ((p + 1) + length xs)
        → count_before keeps (p + 1) ≡ count_before keeps p + cond (keeps p) 1 0
        → length (cond b (x ∷ kept_from keeps (p + 1) xs) (kept_from keeps (p + 1) xs)) + count_before keeps p ≡ count_before keeps ((p + 1) + length xs)
    of true eb ih c = let d : count_before keeps (p + 1) ≡ count_before keeps p + 1 = c ∙ ap (λ b. count_before keeps p + cond b 1 0) eb in omega arith
    of false eb ih c = let d : count_before keeps (p + 1) ≡ count_before keeps p + 0 = c ∙ ap (λ b. count_before keeps p + cond b 1 0) eb in omega arith

-- The live cells of so many rows.
pub gathered_length : (tm k : ℕ) (cells : List ℕ) → tm < 64 → length cells ≡ 36 * k → length (gathered tm cells) ≡ live_carriers tm * k
unfolding gathered
gathered_length tm k cells h l =
    let z : 0 + length cells ≡ 36 * k = omega arith in
    let e = kept_length (live_cell tm) 0 cells in
    omega (arith, e ∙ ap (count_before (live_cell tm)) z ∙ count_rows tm h k)

kept_within : (highest : ℕ) (keeps : ℕ → Bool) (p : ℕ) (xs : List ℕ) → within highest xs ≡ true → within highest (kept_from keeps p xs) ≡ true
kept_within highest keeps p [] h = refl
kept_within highest keeps p (x ∷ xs) h =
    let hs = and_parts (leb x highest) (within highest xs) h in
    of (keeps p) hs.0 (kept_within highest keeps (p + 1) xs hs.1)
  where
    of : (b : Bool) → leb x highest ≡ true → within highest (kept_from keeps (p + 1) xs) ≡ true → within highest (cond b (x ∷ kept_from keeps (p + 1) xs) (kept_from keeps (p + 1) xs)) ≡ true
    of true l ih = and_from (leb x highest) (within highest (kept_from keeps (p + 1) xs)) l ih
    of false l ih = ih

pub gathered_within : (highest tm : ℕ) (cells : List ℕ) → within highest cells ≡ true → within highest (gathered tm cells) ≡ true
unfolding gathered
gathered_within highest tm cells h = kept_within highest (live_cell tm) 0 cells h

count_grows : (keeps : ℕ → Bool) (a n : ℕ) → count_before keeps a ≤ count_before keeps (a + n)
count_grows keeps a zero = let e : a + 0 ≡ a = omega arith in rw e (omega arith)
count_grows keeps a (suc n) =
    let e : a + suc n ≡ suc (a + n) = omega arith in
    rw e (omega (arith, count_grows keeps a n))

-- The cell that spreading puts at a place.
abbrev placed : (ℕ → Bool) → List ℕ → ℕ → ℕ
placed keeps given i = cond (keeps i) (get_or given (count_before keeps i) 0) 8

-- Gathering takes back what spreading put on live carriers.
spread_on : (keeps : ℕ → Bool) (given : List ℕ) (a n : ℕ) → count_before keeps (a + n) ≤ length given
    → kept_from keeps a (map (placed keeps given) (range_with_len a n)) ++ drop (count_before keeps (a + n)) given ≡ drop (count_before keeps a) given
spread_on keeps given a zero h = let e : a + 0 ≡ a = omega arith in ap (λ q. drop (count_before keeps q) given) e
spread_on keeps given a (suc n) h =
    let e : a + suc n ≡ (a + 1) + n = omega arith in
    let s : a + 1 ≡ suc a = omega arith in
    let g = count_grows keeps (a + 1) n in
    let l : count_before keeps ((a + 1) + n) ≤ length given = subst (λ q. count_before keeps q ≤ length given) e h in
    rw e (of (keeps a) refl (kept_from keeps (a + 1) (map (placed keeps given) (range_with_len (a + 1) n))) (spread_on keeps given (a + 1) n l) (ap (count_before keeps) s) (omega arith))
  where
    of : (b : Bool) → keeps a ≡ b → (rest : List ℕ) → rest ++ drop (count_before keeps ((a + 1) + n)) given ≡ drop (count_before keeps (a + 1)) given
        → count_before keeps (a + 1) ≡ count_before keeps a + cond (keeps a) 1 0 → count_before keeps (a + 1) ≤ length given
        → cond b (cond b (get_or given (count_before keeps a) 0) 8 ∷ rest) rest ++ drop (count_before keeps ((a + 1) + n)) given ≡ drop (count_before keeps a) given
    of true eb rest ih c l =
        let d : count_before keeps (a + 1) ≡ count_before keeps a + 1 = c ∙ ap (λ b. count_before keeps a + cond b 1 0) eb in
        ap {B = List ℕ} (λ r. get_or given (count_before keeps a) 0 ∷ r) (ih ∙ ap (λ q. drop q given) d)
        ∙ sym (drop_more given (count_before keeps a) 0 (omega arith))
    of false eb rest ih c l =
        let d : count_before keeps (a + 1) ≡ count_before keeps a = c ∙ ap (λ b. count_before keeps a + cond b 1 0) eb ∙ add-zero (count_before keeps a) in
        ih ∙ ap (λ q. drop q given) d

pub gathered_spread : (tm n : ℕ) (given : List ℕ) → length given ≡ count_before (live_cell tm) n → gathered tm (spread tm n given) ≡ given
unfolding gathered spread
gathered_spread tm n given l =
    let z : 0 + n ≡ n = omega arith in
    let c : count_before (live_cell tm) (0 + n) ≡ length given = ap (count_before (live_cell tm)) z ∙ sym l in
    let all = spread_on (live_cell tm) given 0 n (omega arith) in
    sym (append-nil (kept_from (live_cell tm) 0 (map (placed (live_cell tm) given) (range_with_len 0 n))))
    ∙ ap (λ q. kept_from (live_cell tm) 0 (map (placed (live_cell tm) given) (range_with_len 0 n)) ++ q) (sym (ap (λ q. drop q given) c ∙ drop_all (length given) given (omega arith)))
    ∙ all

pub spread_silent : (tm n : ℕ) (given : List ℕ) → Silent tm (spread tm n given)
unfolding spread
spread_silent tm n given place silent = of (cases_lt place n)
  where
    of : (place < n) ⊎ (n ≤ place) → get_or (map (spread_cell tm given) (range_with_len 0 n)) place 0 ≤ 8
    of (inl h) =
        let e : get_or (map (spread_cell tm given) (range_with_len 0 n)) place 0 ≡ 8 =
        get_or-map-range_with_len (spread_cell tm given) 0 n place place 0 h (omega arith) ∙ ap (λ b. cond b (get_or given (count_before (live_cell tm) place) 0) 8) silent in
        omega arith
    of (inr h) =
        let e : get_or (map (spread_cell tm given) (range_with_len 0 n)) place 0 ≡ 0 = get_or-eq_default (map (spread_cell tm given) (range_with_len 0 n)) 0 (omega (arith, length-map-range_with_len (spread_cell tm given) 0 n)) in
        omega arith

pub spread_long : (tm n : ℕ) (given : List ℕ) → length (spread tm n given) ≡ n
unfolding spread
spread_long tm n given = length-map-range_with_len (spread_cell tm given) 0 n

-- There are no more live cells than cells.
gathered_short : (tm : ℕ) (cells : List ℕ) → length (gathered tm cells) ≤ length cells
unfolding gathered
gathered_short tm cells =
    let z : 0 + length cells ≡ length cells = omega arith in
    let few = count_few (live_cell tm) (0 + length cells) in
    omega (arith, kept_length (live_cell tm) 0 cells)

-- Laid over a buffer that has room for all cells, the live ones are its front.
pub gathered_held : (tm : ℕ) (cells buffer after : List ℕ) (n : ℕ) → length cells ≤ length buffer → n ≡ length (gathered tm cells) → length after ≡ length buffer → after ≡ laid_over (gathered tm cells) buffer → Holds after n (gathered tm cells)
gathered_held tm cells buffer after n h e l a =
    let few = gathered_short tm cells in
    let g = gathered tm cells in
    record {
      long = omega arith;
      front = ap (take n) (a ∙ laid_fits g buffer (omega arith)) ∙ take_at g (drop (length g) buffer) n (sym e);
    }
