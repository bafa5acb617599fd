-- Keeping cells one after the other, and laying lists over buffers.
use Rattle.std.proofs.Common.{◌≡◌, ℕ, zero, suc, ◌+◌, ◌<◌, ◌≤◌, Bool, true, false, cond, List, [], ◌∷◌, ◌++◌, length, get_or, take, drop, set, sym, refl, ap, ◌∙◌, add-zero, arith, Iter, Option, Some, None, drop-drop, length-take, take_all}
use Rattle.std.proofs.lemmas.List.{get_or-drop, take_more, length_push}
use Rattle.std.proofs.lemmas.List.Edits.{fill_by_more}
use Rattle.std.proofs.lemmas.List.FromFn.{fill_by_all}
use Rattle.std.specs.Option.{option_copied, unwrap_or}
use Rattle.std.specs.Slice.Iter.{iter_rest, iter_steps}
use denote.Ref.{Bor}
use Rattle.rows.specs.Carriers.{count_before, gathered, kept_from, laid_over, live_cell, spread, spread_cell}

-- The list with an element behind it if that is kept.
abbrev pub with_kept : Bool → List ℕ → ℕ → List ℕ
with_kept b xs x = cond b (xs ++ x ∷ []) xs

pub kept_push : (keeps : ℕ → Bool) (p : ℕ) (xs : List ℕ) (x : ℕ) → kept_from keeps p (xs ++ x ∷ []) ≡ with_kept (keeps (p + length xs)) (kept_from keeps p xs) x
kept_push keeps p [] x = let e : p + 0 ≡ p = omega arith in rw e (of (keeps p))
  where
    of : (b : Bool) → cond b (x ∷ []) [] ≡ with_kept b [] x
    of true = refl
    of false = refl
kept_push keeps p (y ∷ xs) x =
    let e : p + suc (length xs) ≡ (p + 1) + length xs = omega arith in
    rw e (rw (kept_push keeps (p + 1) xs x) (of (keeps p) (keeps ((p + 1) + length xs)) (kept_from keeps (p + 1) xs)))
  where
    of : (b c : Bool) (ks : List ℕ) → cond b (y ∷ with_kept c ks x) (with_kept c ks x) ≡ with_kept c (cond b (y ∷ ks) ks) x
    of true true ks = refl
    of true false ks = refl
    of false true ks = refl
    of false false ks = refl

pub laid_push : (xs buffer : List ℕ) (x : ℕ) → set (laid_over xs buffer) (length xs) x ≡ laid_over (xs ++ x ∷ []) buffer
laid_push [] [] x = refl
laid_push [] (b ∷ buffer) x = refl
laid_push (y ∷ xs) [] x = refl
laid_push (y ∷ xs) (b ∷ buffer) x = ap {B = List ℕ} (λ r. y ∷ r) (laid_push xs buffer x)

pub laid_fits : (xs buffer : List ℕ) → length xs ≤ length buffer → laid_over xs buffer ≡ xs ++ drop (length xs) buffer
laid_fits [] buffer h = refl
laid_fits (x ∷ xs) [] h = absurd (omega arith)
laid_fits (x ∷ xs) (b ∷ buffer) h = ap {B = List ℕ} (λ r. x ∷ r) (laid_fits xs buffer (omega arith))

-- One more cell is looked at: the count and the buffer stay those of the cells kept.
pub record Gathering (tm : ℕ) (cells buffer : List ℕ) (i count : ℕ) (filled : List ℕ) : Type 0 where
  pub counted : count ≡ length (kept_from (live_cell tm) 0 (take i cells))
  pub laid : filled ≡ laid_over (kept_from (live_cell tm) 0 (take i cells)) buffer

pub kept_more : (tm : ℕ) (cells : List ℕ) (i : ℕ) → i < length cells → kept_from (live_cell tm) 0 (take (i + 1) cells) ≡ with_kept (live_cell tm i) (kept_from (live_cell tm) 0 (take i cells)) (get_or cells i 0)
kept_more tm cells i h =
    let l : length (take i cells) ≡ i = omega (arith, length-take i cells) in
    let z : 0 + length (take i cells) ≡ i = omega (arith, length-take i cells) in
    ap (kept_from (live_cell tm) 0) (take_more cells i 0 h)
    ∙ kept_push (live_cell tm) 0 (take i cells) (get_or cells i 0)
    ∙ ap (λ p. with_kept (live_cell tm p) (kept_from (live_cell tm) 0 (take i cells)) (get_or cells i 0)) z

-- A silent cell more changes nothing, and a live one goes behind those gathered.
pub gathering_skips : (tm : ℕ) (cells buffer : List ℕ) (i count next : ℕ) (filled after : List ℕ) → i < length cells → false ≡ live_cell tm i → next ≡ count → after ≡ filled
    → Gathering tm cells buffer i count filled → Gathering tm cells buffer (i + 1) next after
gathering_skips tm cells buffer i count next filled after h e en ea g =
    let m : kept_from (live_cell tm) 0 (take (i + 1) cells) ≡ kept_from (live_cell tm) 0 (take i cells) =
    kept_more tm cells i h ∙ ap (λ b. with_kept b (kept_from (live_cell tm) 0 (take i cells)) (get_or cells i 0)) (sym e) in
    record {
      counted = en ∙ g.counted ∙ ap length (sym m);
      laid = ea ∙ g.laid ∙ ap (λ q. laid_over q buffer) (sym m);
    }

pub gathering_keeps : (tm : ℕ) (cells buffer : List ℕ) (i count next : ℕ) (filled after : List ℕ) → i < length cells → true ≡ live_cell tm i → next ≡ count + 1 → after ≡ set filled count (get_or cells i 0)
    → Gathering tm cells buffer i count filled → Gathering tm cells buffer (i + 1) next after
gathering_keeps tm cells buffer i count next filled after h e en ea g =
    let x = get_or cells i 0 in
    let ks = kept_from (live_cell tm) 0 (take i cells) in
    let m : kept_from (live_cell tm) 0 (take (i + 1) cells) ≡ ks ++ x ∷ [] =
    kept_more tm cells i h ∙ ap (λ b. with_kept b ks x) (sym e) in
    record {
      counted = en ∙ ap (λ q. q + 1) g.counted ∙ sym (length_push ks x) ∙ ap length (sym m);
      laid = ea
          ∙ ap (λ q. set q count x) g.laid
          ∙ ap (λ q. set (laid_over ks buffer) q x) g.counted
          ∙ laid_push ks buffer x
          ∙ ap (λ q. laid_over q buffer) (sym m);
    }

-- One more cell is looked at: a live one goes behind those gathered, and a silent one changes nothing.
pub gathering_turn : (tm : ℕ) (cells buffer : List ℕ) (i count next : ℕ) (filled after : List ℕ) → i < length cells → next ≡ count + cond (live_cell tm i) 1 0 → after ≡ cond (live_cell tm i) (set filled count (get_or cells i 0)) filled
    → Gathering tm cells buffer i count filled → Gathering tm cells buffer (i + 1) next after
gathering_turn tm cells buffer i count next filled after h en ea g = of (live_cell tm i) refl
  where
    of : (b : Bool) → live_cell tm i ≡ b → Gathering tm cells buffer (i + 1) next after
    of true e =
        let n : next ≡ count + 1 = en ∙ ap (λ b. count + cond b 1 0) e in
        gathering_keeps tm cells buffer i count next filled after h (sym e) n (ea ∙ ap (λ b. cond b (set filled count (get_or cells i 0)) filled) e) g
    of false e =
        let n : next ≡ count = en ∙ ap (λ b. count + cond b 1 0) e ∙ add-zero count in
        gathering_skips tm cells buffer i count next filled after h (sym e) n (ea ∙ ap (λ b. cond b (set filled count (get_or cells i 0)) filled) e) g

kept_few : (keeps : ℕ → Bool) (p : ℕ) (xs : List ℕ) → length (kept_from keeps p xs) ≤ length xs
kept_few keeps p [] = omega arith
kept_few keeps p (x ∷ xs) = of (keeps p) (kept_few keeps (p + 1) xs)
  where
    of : (b : Bool) → length (kept_from keeps (p + 1) xs) ≤ length xs → length (cond b (x ∷ kept_from keeps (p + 1) xs) (kept_from keeps (p + 1) xs)) ≤ suc (length xs)
    of true h = omega arith
    of false h = omega arith

pub gathered_few : (tm : ℕ) (cells buffer : List ℕ) (i count : ℕ) (filled : List ℕ) → Gathering tm cells buffer i count filled → count ≤ length cells
gathered_few tm cells buffer i count filled g =
    omega (arith, g.counted, kept_few (live_cell tm) 0 (take i cells), length-take i cells)

pub gathering_all : (tm : ℕ) (cells buffer : List ℕ) (i count : ℕ) (filled : List ℕ) → length cells ≤ i → Gathering tm cells buffer i count filled → (count ≡ length (gathered tm cells)) × (filled ≡ laid_over (gathered tm cells) buffer)
unfolding gathered
gathering_all tm cells buffer i count filled h g =
    let e : take i cells ≡ cells = take_all i cells h in
    (g.counted ∙ ap (λ q. length (kept_from (live_cell tm) 0 q)) e, g.laid ∙ ap (λ q. laid_over (kept_from (live_cell tm) 0 q) buffer) e)

-- Spreading: the first cells are set, and as many of the given ones as lie on live carriers are used.
pub record Spreading (tm : ℕ) (given rest : List ℕ) (i : ℕ) (cells : List ℕ) : Type 0 where
  pub left : rest ≡ drop (count_before (live_cell tm) i) given
  pub done : (k : ℕ) → k < i → get_or cells k 0 ≡ spread_cell tm given k

pub count_few : (keeps : ℕ → Bool) (i : ℕ) → count_before keeps i ≤ i
count_few keeps zero = omega arith
count_few keeps (suc i) = of (keeps i) (count_few keeps i)
  where
    of : (b : Bool) → count_before keeps i ≤ i → count_before keeps i + cond b 1 0 ≤ suc i
    of true h = omega arith
    of false h = omega arith

count_more : (keeps : ℕ → Bool) (i : ℕ) → count_before keeps (i + 1) ≡ count_before keeps i + cond (keeps i) 1 0
count_more keeps i = let e : i + 1 ≡ suc i = omega arith in ap (count_before keeps) e

-- The next of a list that is read from the front, or 0 behind its end.
read_past : (xs : List ℕ) → length xs ≡ 0 → (0 ≡ get_or xs 0 0) × (xs ≡ drop 1 xs)
read_past [] h = (refl, refl)
read_past (x ∷ xs) h = absurd (omega arith)

pub read_next : (s t : Iter ℕ) (o : Option (Bor ℕ)) → iter_steps s o t → (unwrap_or (option_copied o) 0 ≡ get_or (iter_rest s) 0 0) × (iter_rest t ≡ drop 1 (iter_rest s))
read_next s t None h = let past = read_past (iter_rest s) h.0 in (past.0, ap iter_rest h.1 ∙ past.1)
read_next s t (Some x) h = (ap (λ q. get_or q 0 0) (sym h), ap (drop 1) (sym h))

-- A live cell is the next of the given ones, and a silent one uses none up.
pub spreading_takes : (tm : ℕ) (given rest left : List ℕ) (i cell : ℕ) (cells : List ℕ) → i < length cells → true ≡ live_cell tm i → cell ≡ get_or rest 0 0 → left ≡ drop 1 rest
    → Spreading tm given rest i cells → Spreading tm given left (i + 1) (set cells i cell)
spreading_takes tm given rest left i cell cells h e ec er s =
    let n = count_before (live_cell tm) i in
    let c : cell ≡ spread_cell tm given i =
    ec ∙ ap (λ q. get_or q 0 0) s.left ∙ get_or-drop n given 0 0 ∙ ap (λ q. get_or given q 0) (add-zero n) ∙ ap (λ b. cond b (get_or given n 0) 8) e in
    record {
      left = er ∙ ap (drop 1) s.left ∙ drop-drop 1 n given ∙ ap (λ b. drop (n + cond b 1 0) given) e ∙ ap (λ q. drop q given) (sym (count_more (live_cell tm) i));
      done = λ k l. ap (λ q. get_or (set cells i q) k 0) c ∙ fill_by_more (spread_cell tm given) cells i 0 h s.done k l;
    }

pub spreading_skips : (tm : ℕ) (given rest left : List ℕ) (i cell : ℕ) (cells : List ℕ) → i < length cells → false ≡ live_cell tm i → cell ≡ 8 → left ≡ rest
    → Spreading tm given rest i cells → Spreading tm given left (i + 1) (set cells i cell)
spreading_skips tm given rest left i cell cells h e ec er s =
    let n = count_before (live_cell tm) i in
    let c : cell ≡ spread_cell tm given i = ec ∙ ap (λ b. cond b (get_or given n 0) 8) e in
    let z : n ≡ n + cond false 1 0 = omega arith in
    record {
      left = er ∙ s.left ∙ ap (λ q. drop q given) (z ∙ ap (λ b. n + cond b 1 0) e ∙ sym (count_more (live_cell tm) i));
      done = λ k l. ap (λ q. get_or (set cells i q) k 0) c ∙ fill_by_more (spread_cell tm given) cells i 0 h s.done k l;
    }

-- One more cell is set: to the next of the given ones on a live carrier, and else to silence.
pub spreading_turn : (tm : ℕ) (given rest left : List ℕ) (i cell : ℕ) (cells : List ℕ) → i < length cells → cell ≡ cond (live_cell tm i) (get_or rest 0 0) 8 → left ≡ cond (live_cell tm i) (drop 1 rest) rest
    → Spreading tm given rest i cells → Spreading tm given left (i + 1) (set cells i cell)
spreading_turn tm given rest left i cell cells h ec er s = of (live_cell tm i) refl
  where
    of : (b : Bool) → live_cell tm i ≡ b → Spreading tm given left (i + 1) (set cells i cell)
    of true e = spreading_takes tm given rest left i cell cells h (sym e) (ec ∙ ap (λ b. cond b (get_or rest 0 0) 8) e) (er ∙ ap (λ b. cond b (drop 1 rest) rest) e) s
    of false e = spreading_skips tm given rest left i cell cells h (sym e) (ec ∙ ap (λ b. cond b (get_or rest 0 0) 8) e) (er ∙ ap (λ b. cond b (drop 1 rest) rest) e) s

pub spreading_all : (tm : ℕ) (given rest : List ℕ) (i n : ℕ) (cells : List ℕ) → length cells ≡ n → n ≤ i → Spreading tm given rest i cells → cells ≡ spread tm n given
unfolding spread
spreading_all tm given rest i n cells e h s = fill_by_all (spread_cell tm given) cells n 0 e (λ k l. s.done k (omega arith))
