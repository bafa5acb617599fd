-- The steps of a walk: modulo n, a sum goes on by what is added.
use Rattle.std.proofs.Common.{◌≡◌, ℕ, ◌+◌, ◌-◌, ◌*◌, ◌/◌, ◌%◌, ◌<◌, ◌≤◌, cond, ltb, ◌⊎◌, refl, sym, ap, ◌∙◌, subst, inl, inr, mod-eq_of_lt, mul_comm, add-mul, mul-pos, mul-add, arith}
use native.Mathlib.Nat.{add-mod, add-mul-mod_self_left, div-add-mod}
use Rattle.std.proofs.lemmas.Bool.{cases_lt, cond-true, cond-false, lt-ltb, le-ltb}
use Rattle.std.proofs.lemmas.Nat.{div-add-mod', div-mul-add, mod-mul-add, div_below, mod_below, mul-add-lt}
use Rattle.interleave.specs.Factors.{smallest_apart}
use Rattle.interleave.specs.Interleavings.{goes_to}
use Rattle.interleave.specs.Places.{Steps, column_to, first_step, place_by, steps_of}
use Rattle.interleave.specs.declared.strides.Steps as declared
use Rattle.interleave.specs.declared.strides.Stride.{Stride}
use Rattle.interleave.specs.Walks.{stepping, steps_in, At, Along, Down}

-- a number below twice the end
pub less_end : (s e : ℕ) → e ≤ s → s < e + e → s - e ≡ s % e
less_end s e l h =
    let x : s ≡ (s - e) + e * 1 = omega arith in
    let small : s - e < e = omega arith in
    sym (ap (λ y. y % e) x ∙ add-mul-mod_self_left (s - e) e 1 ∙ mod-eq_of_lt small)

sum_more : (a b c d m : ℕ) → c ≡ a % m → d ≡ b % m → (c + d) % m ≡ (a + b) % m
sum_more a b c d m p q = ap (λ x. (x + d) % m) p ∙ ap (λ x. (a % m + x) % m) q ∙ sym (add-mod a b m)

-- the new row goes on
row_more : (nj ni n j i row s : ℕ) → row ≡ (j * nj + i * ni) % n → s ≡ ni % n → (row + s) % n ≡ (j * nj + (i + 1) * ni) % n
row_more nj ni n j i row s p q =
    let e : j * nj + i * ni + ni ≡ j * nj + (i + 1) * ni = omega (arith, add-mul i 1 ni) in
    sum_more (j * nj + i * ni) ni row s n p q ∙ ap (λ x. x % n) e

-- the new column goes on with the new row
column_on : (mi mj m i row s target d : ℕ) → target ≡ (i * mi + row * mj) % m → d ≡ (mi + s * mj) % m → (target + d) % m ≡ ((i + 1) * mi + (row + s) * mj) % m
column_on mi mj m i row s target d p q =
    let e : i * mi + row * mj + (mi + s * mj) ≡ (i + 1) * mi + (row + s) * mj = omega (arith, add-mul i 1 mi, add-mul row s mj) in
    sum_more (i * mi + row * mj) (mi + s * mj) target d m p q ∙ ap (λ x. x % m) e

-- and where the new row begins again
column_over : (mi mj m n i row s target d : ℕ) → 0 < m → n ≤ row + s → target ≡ (i * mi + row * mj) % m → d ≡ (mi + s * mj + (m - n * mj % m)) % m → (target + d) % m ≡ ((i + 1) * mi + (row + s - n) * mj) % m
column_over mi mj m n i row s target d some l p q =
    let back : row + s ≡ (row + s - n) + n = omega arith in
    let rows : (row + s) * mj ≡ (row + s - n) * mj + n * mj = ap (λ x. x * mj) back ∙ add-mul (row + s - n) n mj in
    let whole : m * (n * mj / m) + n * mj % m ≡ n * mj = div-add-mod (n * mj) m in
    let more : m * (n * mj / m + 1) ≡ m * (n * mj / m) + m * 1 = mul-add m (n * mj / m) 1 in
    let small : n * mj % m < m = mod_below (n * mj) m some in
    let e : i * mi + row * mj + (mi + s * mj + (m - n * mj % m)) ≡ (i + 1) * mi + (row + s - n) * mj + m * (n * mj / m + 1) =
    omega (arith, add-mul i 1 mi, add-mul row s mj, rows, whole, more, small) in
    sum_more (i * mi + row * mj) (mi + s * mj + (m - n * mj % m)) target d m p q
    ∙ ap (λ x. x % m) e
    ∙ add-mul-mod_self_left ((i + 1) * mi + (row + s - n) * mj) m (n * mj / m + 1)

-- so many whole ends, as many as one more than a product has, are nothing
ends_more : (a n : ℕ) → 0 < n → a + (n - a % n) ≡ n * (a / n + 1)
ends_more a n some = omega (arith, div-add-mod a n, mul-add n (a / n) 1, mod_below a n some)

-- from the last column back to the first, and a row on
row_down : (nj ni n j i row s : ℕ) → 0 < n → row ≡ (j * nj + i * ni) % n → s ≡ (nj + (n - i * ni % n)) % n → (row + s) % n ≡ ((j + 1) * nj) % n
row_down nj ni n j i row s many p q =
    let e : j * nj + i * ni + (nj + (n - i * ni % n)) ≡ (j + 1) * nj + n * (i * ni / n + 1) = omega (arith, add-mul j 1 nj, ends_more (i * ni) n many) in
    sum_more (j * nj + i * ni) (nj + (n - i * ni % n)) row s n p q ∙ ap (λ x. x % n) e ∙ add-mul-mod_self_left ((j + 1) * nj) n (i * ni / n + 1)

column_back : (mi mj m i row s target d : ℕ) → 0 < m → target ≡ (i * mi + row * mj) % m → d ≡ (s * mj + (m - i * mi % m)) % m → (target + d) % m ≡ ((row + s) * mj) % m
column_back mi mj m i row s target d some p q =
    let e : i * mi + row * mj + (s * mj + (m - i * mi % m)) ≡ (row + s) * mj + m * (i * mi / m + 1) = omega (arith, add-mul row s mj, ends_more (i * mi) m some) in
    sum_more (i * mi + row * mj) (s * mj + (m - i * mi % m)) target d m p q ∙ ap (λ x. x % m) e ∙ add-mul-mod_self_left ((row + s) * mj) m (i * mi / m + 1)

column_back_over : (mi mj m n i row s target d : ℕ) → 0 < m → n ≤ row + s → target ≡ (i * mi + row * mj) % m → d ≡ (s * mj + (m - i * mi % m) + (m - n * mj % m)) % m → (target + d) % m ≡ ((row + s - n) * mj) % m
column_back_over mi mj m n i row s target d some l p q =
    let back : row + s ≡ (row + s - n) + n = omega arith in
    let rows : (row + s) * mj ≡ (row + s - n) * mj + n * mj = ap (λ x. x * mj) back ∙ add-mul (row + s - n) n mj in
    let e : i * mi + row * mj + (s * mj + (m - i * mi % m) + (m - n * mj % m)) ≡ (row + s - n) * mj + m * (i * mi / m + 1 + (n * mj / m + 1)) =
    omega (arith, add-mul row s mj, rows, ends_more (i * mi) m some, ends_more (n * mj) m some, mul-add m (i * mi / m + 1) (n * mj / m + 1), mod_below (n * mj) m some, mod_below (i * mi) m some) in
    sum_more (i * mi + row * mj) (s * mj + (m - i * mi % m) + (m - n * mj % m)) target d m p q
    ∙ ap (λ x. x % m) e
    ∙ add-mul-mod_self_left ((row + s - n) * mj) m (i * mi / m + 1 + (n * mj / m + 1))

-- the next bit of a row stands in the same block and row
next_in_row : (m q : ℕ) → q % m + 1 < m → ((q + 1) / m ≡ q / m) × ((q + 1) % m ≡ q % m + 1)
next_in_row m q l =
    let e : q + 1 ≡ q / m * m + (q % m + 1) = omega (arith, div-add-mod' q m) in
    (ap (λ x. x / m) e ∙ div-mul-add (q / m) m (q % m + 1) l, ap (λ x. x % m) e ∙ mod-mul-add (q / m) m (q % m + 1) l)

next_in_block : (m n t : ℕ) → 0 < m → 0 < n → t % (m * n) % m + 1 < m → t % (m * n) + 1 < m * n
next_in_block m n t some many l =
    let inside : t % (m * n) < m * n = mod_below t (m * n) (mul-pos some many) in
    let row : t % (m * n) / m < n = div_below (t % (m * n)) m n some (subst (λ x. t % (m * n) < x) (mul_comm m n) inside) in
    let far : t % (m * n) / m * m + (t % (m * n) % m + 1) < m * n = mul-add-lt (t % (m * n) / m) m (t % (m * n) % m + 1) n row l in
    omega (arith, div-add-mod' (t % (m * n)) m)

pub walk_on : (mi mj nj ni m n t column row target base column' row' target' base' s : ℕ) → 0 < m → 0 < n → column + 1 < m → s ≡ ni % n → At (stepping mi mj nj ni) m n t column row target base → column' ≡ column + 1 → row' ≡ (row + s) % n → target' ≡ ((column + 1) * mi + row' * mj) % m → base' ≡ base → At (stepping mi mj nj ni) m n (t + 1) column' row' target' base'
walk_on mi mj nj ni m n t column row target base column' row' target' base' s some many l slides h ec er et eb =
    let here : t % (m * n) % m + 1 < m = omega (arith, h.column_is) in
    let inside = next_in_block m n t some many here in
    let e : t + 1 ≡ t / (m * n) * (m * n) + (t % (m * n) + 1) = omega (arith, div-add-mod' t (m * n)) in
    let block : (t + 1) / (m * n) ≡ t / (m * n) = ap (λ x. x / (m * n)) e ∙ div-mul-add (t / (m * n)) (m * n) (t % (m * n) + 1) inside in
    let rest : (t + 1) % (m * n) ≡ t % (m * n) + 1 = ap (λ x. x % (m * n)) e ∙ mod-mul-add (t / (m * n)) (m * n) (t % (m * n) + 1) inside in
    let parts = next_in_row m (t % (m * n)) here in
    let i : (t + 1) % (m * n) % m ≡ t % (m * n) % m + 1 = ap (λ x. x % m) rest ∙ parts.1 in
    let j : (t + 1) % (m * n) / m ≡ t % (m * n) / m = ap (λ x. x / m) rest ∙ parts.0 in
    record {
      column_is = ec ∙ ap (λ x. x + 1) h.column_is ∙ sym i;
      row_is = er
          ∙ row_more nj ni n (t % (m * n) / m) (t % (m * n) % m) row s h.row_is slides
          ∙ ap (λ x. (t % (m * n) / m * nj + x * ni) % n) (sym i)
          ∙ ap (λ x. (x * nj + (t + 1) % (m * n) % m * ni) % n) (sym j);
      target_is = et ∙ ap (λ x. (x * mi + row' * mj) % m) (ap (λ x. x + 1) h.column_is ∙ sym i);
      base_is = eb ∙ h.base_is ∙ ap (λ x. x * (m * n)) (sym block);
    }

-- a number that is whole rows, and where it ends a block
whole_rows : (m j : ℕ) → 0 < m → (j * m / m ≡ j) × (j * m % m ≡ 0)
whole_rows m j some =
    let z : j * m ≡ j * m + 0 = omega arith in
    (ap (λ x. x / m) z ∙ div-mul-add j m 0 some, ap (λ x. x % m) z ∙ mod-mul-add j m 0 some)

last_row : (m n j : ℕ) → 0 < m → j < n → m * n ≤ (j + 1) * m → j + 1 ≡ n
last_row m n j some l far = of (cases_lt (j + 1) n)
  where
    of : (j + 1 < n) ⊎ (n ≤ j + 1) → j + 1 ≡ n
    of (inl more) = absurd (omega (arith, mul-add-lt (j + 1) m 0 n more some))
    of (inr all) = omega arith

-- the first bit of row j of a block
row_start : (mi mj nj ni m n t column row target base block j : ℕ) → 0 < m → t ≡ block * (m * n) + j * m → j * m < m * n → column ≡ 0 → row ≡ (j * nj) % n → target ≡ (row * mj) % m → base ≡ block * (m * n) → At (stepping mi mj nj ni) m n t column row target base
row_start mi mj nj ni m n t column row target base block j some e l ec er et eb =
    let rest : t % (m * n) ≡ j * m = ap (λ x. x % (m * n)) e ∙ mod-mul-add block (m * n) (j * m) l in
    let first : t % (m * n) % m ≡ 0 = ap (λ x. x % m) rest ∙ (whole_rows m j some).1 in
    let here : t % (m * n) / m ≡ j = ap (λ x. x / m) rest ∙ (whole_rows m j some).0 in
    let none : j * nj ≡ j * nj + 0 * ni = omega arith in
    let left : row * mj ≡ 0 * mi + row * mj = omega arith in
    record {
      column_is = ec ∙ sym first;
      row_is = er
          ∙ ap (λ x. x % n) none
          ∙ ap (λ x. (j * nj + x * ni) % n) (sym first)
          ∙ ap (λ x. (x * nj + t % (m * n) % m * ni) % n) (sym here);
      target_is = et ∙ ap (λ x. x % m) left ∙ ap (λ x. (x * mi + row * mj) % m) (sym first);
      base_is = eb ∙ ap (λ x. x * (m * n)) (sym (ap (λ x. x / (m * n)) e ∙ div-mul-add block (m * n) (j * m) l));
    }

pub walk_down : (mi mj nj ni m n t column row target base column' row' target' base' s : ℕ) → 0 < m → 0 < n → column ≡ m - 1 → s ≡ (nj + (n - (m - 1) * ni % n)) % n → At (stepping mi mj nj ni) m n t column row target base → column' ≡ 0 → row' ≡ (row + s) % n → target' ≡ (row' * mj) % m → base' ≡ cond (ltb (t + 1) (base + m * n)) base (base + m * n) → At (stepping mi mj nj ni) m n (t + 1) column' row' target' base'
walk_down mi mj nj ni m n t column row target base column' row' target' base' s some many last turns h ec er et eb =
    let size = mul-pos some many in
    let column_last : t % (m * n) % m ≡ m - 1 = sym h.column_is ∙ last in
    let rows : t % (m * n) + 1 ≡ (t % (m * n) / m + 1) * m = omega (arith, div-add-mod' (t % (m * n)) m, column_last, add-mul (t % (m * n) / m) 1 m) in
    let next : row' ≡ ((t % (m * n) / m + 1) * nj) % n =
    er ∙ row_down nj ni n (t % (m * n) / m) (m - 1) row s many (h.row_is ∙ ap (λ x. (t % (m * n) / m * nj + x * ni) % n) column_last) turns in
    let whole : t / (m * n) * (m * n) + t % (m * n) ≡ t = div-add-mod' t (m * n) in
    of (t / (m * n)) (t % (m * n)) (mod_below t (m * n) size) whole h.base_is rows next (cases_lt (t % (m * n) + 1) (m * n))
  where
    of : (block q : ℕ) → q < m * n → block * (m * n) + q ≡ t → base ≡ block * (m * n) → q + 1 ≡ (q / m + 1) * m → row' ≡ ((q / m + 1) * nj) % n → (q + 1 < m * n) ⊎ (m * n ≤ q + 1) → At (stepping mi mj nj ni) m n (t + 1) column' row' target' base'
    of block q inside whole begins rows next (inl more) =
        let same : base' ≡ base = eb ∙ cond-true (ltb (t + 1) (base + m * n)) base (base + m * n) (lt-ltb (t + 1) (base + m * n) (omega arith)) in
        row_start mi mj nj ni m n (t + 1) column' row' target' base' block (q / m + 1) some (omega arith) (omega arith) ec next et (same ∙ begins)
    of block q inside whole begins rows next (inr end) =
        let all : q / m + 1 ≡ n = last_row m n (q / m) some (div_below q m n some (subst (λ x. q < x) (mul_comm m n) inside)) (omega arith) in
        let more : (block + 1) * (m * n) ≡ block * (m * n) + 1 * (m * n) = add-mul block 1 (m * n) in
        let nothing : 0 * m ≡ 0 = omega arith in
        let multiple : n * nj ≡ 0 * nj + n * nj = omega arith in
        let round : (n * nj) % n ≡ (0 * nj) % n = ap (λ x. x % n) multiple ∙ add-mul-mod_self_left (0 * nj) n nj in
        let other : base' ≡ base + m * n = eb ∙ cond-false (ltb (t + 1) (base + m * n)) base (base + m * n) (le-ltb (t + 1) (base + m * n) (omega arith)) in
        row_start mi mj nj ni m n (t + 1) column' row' target' base' (block + 1) 0 some (omega arith) (omega (arith, mul-pos some many)) ec (next ∙ ap (λ x. (x * nj) % n) all ∙ round) et (omega arith)

-- where a walk stands, its bit goes
pub walk_place : (mi mj nj ni m n t column row target base : ℕ) → mi ≡ smallest_apart m first_step → mj ≡ smallest_apart m (mi + 1) → nj ≡ smallest_apart n first_step → ni ≡ smallest_apart n (nj + 1) → At (stepping mi mj nj ni) m n t column row target base → base + (row * m + target) ≡ goes_to m n t
walk_place mi mj nj ni m n t column row target base ei ej fj fi h =
    let same : stepping mi mj nj ni ≡ steps_of m n =
    ap (λ x. stepping mi x nj ni) ej
    ∙ ap (λ x. stepping mi (smallest_apart m (mi + 1)) nj x) fi
    ∙ ap (λ x. stepping x (smallest_apart m (x + 1)) nj (smallest_apart n (nj + 1))) ei
    ∙ ap (λ x. stepping (smallest_apart m first_step) (smallest_apart m (smallest_apart m first_step + 1)) x (smallest_apart n (x + 1))) fj in
    ap (λ x. x + (row * m + target)) h.base_is
    ∙ ap (λ x. t / (m * n) * (m * n) + (row * m + x)) h.target_is
    ∙ ap (λ x. t / (m * n) * (m * n) + (x * m + column_to (stepping mi mj nj ni) m x (t % (m * n) % m))) h.row_is
    ∙ ap (λ (s : Steps). t / (m * n) * (m * n) + place_by s m n (t % (m * n))) same

-- how far a walk's numbers go
pub walk_column : (s : Steps) (m n t column row target base : ℕ) → 0 < m → At s m n t column row target base → column < m
walk_column s m n t column row target base some h = omega (arith, h.column_is, mod_below (t % (m * n)) m some)

pub walk_row : (s : Steps) (m n t column row target base : ℕ) → 0 < n → At s m n t column row target base → row < n
walk_row s m n t column row target base many h = omega (arith, h.row_is, mod_below (t % (m * n) / m * s.row_by_row + t % (m * n) % m * s.row_by_column) n many)

-- a bit further in a row: the new row and the new column go on by the stride
along_target : (st : declared.Steps) (m n : ℕ) (d : Stride) (column row target target' : ℕ) → 0 < m → row < n → d.rows < n → Along st m n d → target ≡ (column * st.column_by_column + row * st.column_by_row) % m → target' ≡ (target + cond (ltb (row + d.rows) n) d.on d.over) % m → target' ≡ ((column + 1) * st.column_by_column + (row + d.rows) % n * st.column_by_row) % m
along_target st m n d column row target target' some inside small along here e = of (cases_lt (row + d.rows) n)
  where
    of : (row + d.rows < n) ⊎ (n ≤ row + d.rows) → target' ≡ ((column + 1) * st.column_by_column + (row + d.rows) % n * st.column_by_row) % m
    of (inl l) =
        e
        ∙ ap (λ x. (target + x) % m) (cond-true (ltb (row + d.rows) n) d.on d.over (lt-ltb (row + d.rows) n l))
        ∙ column_on st.column_by_column st.column_by_row m column row d.rows target d.on here along.on_is
        ∙ ap (λ x. ((column + 1) * st.column_by_column + x * st.column_by_row) % m) (sym (mod-eq_of_lt l))
    of (inr l) =
        e
        ∙ ap (λ x. (target + x) % m) (cond-false (ltb (row + d.rows) n) d.on d.over (le-ltb (row + d.rows) n l))
        ∙ column_over st.column_by_column st.column_by_row m n column row d.rows target d.over some l here along.over_is
        ∙ ap (λ x. ((column + 1) * st.column_by_column + x * st.column_by_row) % m) (less_end (row + d.rows) n l (omega arith))

down_target : (st : declared.Steps) (m n : ℕ) (d : Stride) (row target target' : ℕ) → 0 < m → row < n → d.rows < n → Down st m n d → target ≡ ((m - 1) * st.column_by_column + row * st.column_by_row) % m → target' ≡ (target + cond (ltb (row + d.rows) n) d.on d.over) % m → target' ≡ ((row + d.rows) % n * st.column_by_row) % m
down_target st m n d row target target' some inside small down here e = of (cases_lt (row + d.rows) n)
  where
    of : (row + d.rows < n) ⊎ (n ≤ row + d.rows) → target' ≡ ((row + d.rows) % n * st.column_by_row) % m
    of (inl l) =
        e
        ∙ ap (λ x. (target + x) % m) (cond-true (ltb (row + d.rows) n) d.on d.over (lt-ltb (row + d.rows) n l))
        ∙ column_back st.column_by_column st.column_by_row m (m - 1) row d.rows target d.on some here down.on_is
        ∙ ap (λ x. (x * st.column_by_row) % m) (sym (mod-eq_of_lt l))
    of (inr l) =
        e
        ∙ ap (λ x. (target + x) % m) (cond-false (ltb (row + d.rows) n) d.on d.over (le-ltb (row + d.rows) n l))
        ∙ column_back_over st.column_by_column st.column_by_row m n (m - 1) row d.rows target d.over some l here down.over_is
        ∙ ap (λ x. (x * st.column_by_row) % m) (less_end (row + d.rows) n l (omega arith))

-- how far a stride goes
pub along_small : (st : declared.Steps) (m n : ℕ) (d : Stride) → 0 < m → 0 < n → Along st m n d → (d.rows < n) × (d.on < m) × (d.over < m)
along_small st m n d some many h = (
  omega (arith, h.rows_are, mod_below st.row_by_column n many),
  omega (arith, h.on_is, mod_below (st.column_by_column + d.rows * st.column_by_row) m some),
  omega (arith, h.over_is, mod_below (st.column_by_column + d.rows * st.column_by_row + (m - n * st.column_by_row % m)) m some),
)

pub down_small : (st : declared.Steps) (m n : ℕ) (d : Stride) → 0 < m → 0 < n → Down st m n d → (d.rows < n) × (d.on < m) × (d.over < m)
down_small st m n d some many h = (
  omega (arith, h.rows_are, mod_below (st.row_by_row + (n - (m - 1) * st.row_by_column % n)) n many),
  omega (arith, h.on_is, mod_below (d.rows * st.column_by_row + (m - (m - 1) * st.column_by_column % m)) m some),
  omega (arith, h.over_is, mod_below (d.rows * st.column_by_row + (m - (m - 1) * st.column_by_column % m) + (m - n * st.column_by_row % m)) m some),
)

-- the walk one bit on, in the same row and in the next
pub goes_along : (st : declared.Steps) (m n : ℕ) (d : Stride) (t column row target base row' target' : ℕ) → 0 < m → 0 < n → steps_in st ≡ steps_of m n → Along st m n d → column + 1 < m → At (steps_of m n) m n t column row target base → row' ≡ (row + d.rows) % n → target' ≡ (target + cond (ltb (row + d.rows) n) d.on d.over) % m → At (steps_of m n) m n (t + 1) (column + 1) row' target' base
goes_along st m n d t column row target base row' target' some many same along l here er et =
    let inside = walk_row (steps_of m n) m n t column row target base many here in
    let h = subst (λ (s : Steps). At s m n t column row target base) (sym same) here in
    let from : target ≡ (column * st.column_by_column + row * st.column_by_row) % m = h.target_is ∙ ap (λ x. (x * st.column_by_column + row * st.column_by_row) % m) (sym h.column_is) in
    let to = along_target st m n d column row target target' some inside (along_small st m n d some many along).0 along from et ∙ ap (λ x. ((column + 1) * st.column_by_column + x * st.column_by_row) % m) (sym er) in
    subst (λ (s : Steps). At s m n (t + 1) (column + 1) row' target' base) same
    (walk_on st.column_by_column st.column_by_row st.row_by_row st.row_by_column m n t column row target base (column + 1) row' target' base d.rows some many l along.rows_are h refl er to refl)

pub goes_down : (st : declared.Steps) (m n : ℕ) (d : Stride) (t column row target base row' target' base' : ℕ) → 0 < m → 0 < n → steps_in st ≡ steps_of m n → Down st m n d → m ≤ column + 1 → At (steps_of m n) m n t column row target base → row' ≡ (row + d.rows) % n → target' ≡ (target + cond (ltb (row + d.rows) n) d.on d.over) % m → base' ≡ cond (ltb (t + 1) (base + m * n)) base (base + m * n) → At (steps_of m n) m n (t + 1) 0 row' target' base'
goes_down st m n d t column row target base row' target' base' some many same down l here er et eb =
    let inside = walk_row (steps_of m n) m n t column row target base many here in
    let last : column ≡ m - 1 = omega (arith, walk_column (steps_of m n) m n t column row target base some here) in
    let h = subst (λ (s : Steps). At s m n t column row target base) (sym same) here in
    let from : target ≡ ((m - 1) * st.column_by_column + row * st.column_by_row) % m = h.target_is ∙ ap (λ x. (x * st.column_by_column + row * st.column_by_row) % m) (sym h.column_is ∙ last) in
    let to = down_target st m n d row target target' some inside (down_small st m n d some many down).0 down from et ∙ ap (λ x. (x * st.column_by_row) % m) (sym er) in
    subst (λ (s : Steps). At s m n (t + 1) 0 row' target' base') same
    (walk_down st.column_by_column st.column_by_row st.row_by_row st.row_by_column m n t column row target base 0 row' target' base' d.rows some many last down.rows_are h refl er to eb)
