-- The bits of a block go one-to-one to its places.
use Rattle.std.specs.Prelude.{◌≡◌, ℕ, ◌+◌, ◌*◌, ◌/◌, ◌%◌, ◌<◌}
use Rattle.std.proofs.Common.{sym, ap, subst, ◌∙◌, mul_comm}
use Rattle.std.proofs.lemmas.Nat.{div-add-mod', div-mul-add, mod-mul-add, div_below, mod_below, mul-add-lt}
use Rattle.interleave.specs.Factors.{NoCommonFactor}
use Rattle.interleave.specs.Places.{Steps, row_to, column_to, steps_of, first_step, PlacesOneToOne, BlockOneToOne}
use Rattle.interleave.specs.FactorLaws.{cancels_after}
use Rattle.interleave.specs.SearchLaws.{finds_the_smallest}

-- the same column and the same row gave the same place
same_column : (s : Steps) (m row i k : ℕ) → NoCommonFactor s.column_by_column m → i < m → k < m → column_to s m row i ≡ column_to s m row k → i ≡ k
same_column s m row i k h l b e =
    cancels_after s.column_by_column m (row * s.column_by_row) i k h l b
    (ap (λ x. (x + row * s.column_by_row) % m) (mul_comm s.column_by_column i) ∙ e ∙ ap (λ x. (x + row * s.column_by_row) % m) (mul_comm k s.column_by_column))

same_row : (s : Steps) (n i j k : ℕ) → NoCommonFactor s.row_by_row n → j < n → k < n → row_to s n j i ≡ row_to s n k i → j ≡ k
same_row s n i j k h l b e =
    cancels_after s.row_by_row n (i * s.row_by_column) j k h l b
    (ap (λ x. (x + i * s.row_by_column) % n) (mul_comm s.row_by_row j) ∙ e ∙ ap (λ x. (x + i * s.row_by_column) % n) (mul_comm k s.row_by_row))

-- a row and a column are read off their place
pub same_parts : (m r c r' c' : ℕ) → c < m → c' < m → r * m + c ≡ r' * m + c' → (r ≡ r') × (c ≡ c')
same_parts m r c r' c' l l' e =
    (sym (div-mul-add r m c l) ∙ ap (λ x. x / m) e ∙ div-mul-add r' m c' l', sym (mod-mul-add r m c l) ∙ ap (λ x. x % m) e ∙ mod-mul-add r' m c' l')

same_place : (s : Steps) (m n j i k h : ℕ) → 0 < m → NoCommonFactor s.column_by_column m → NoCommonFactor s.row_by_row n → j < n → k < n → i < m → h < m → row_to s n j i * m + column_to s m (row_to s n j i) i ≡ row_to s n k h * m + column_to s m (row_to s n k h) h → (j ≡ k) × (i ≡ h)
same_place s m n j i k h some fc fr lj lk li lh e =
    let parts = same_parts m (row_to s n j i) (column_to s m (row_to s n j i) i) (row_to s n k h) (column_to s m (row_to s n k h) h) (mod_below _ m some) (mod_below _ m some) e in
    let col : i ≡ h = same_column s m (row_to s n j i) i h fc li lh (parts.1 ∙ ap (λ r. column_to s m r h) (sym parts.0)) in
    let row : j ≡ k = same_row s n i j k fr lj lk (parts.0 ∙ ap (λ x. row_to s n k x) (sym col)) in
    (row, col)

pub places_one_to_one : PlacesOneToOne
places_one_to_one s m n some many fc fr =
    record {
      inside = λ q l. mul-add-lt (row_to s n (q / m) (q % m)) m (column_to s m (row_to s n (q / m) (q % m)) (q % m)) n (mod_below _ n many) (mod_below _ m some);
      apart = λ q r l b e.
          let p = same_place s m n (q / m) (q % m) (r / m) (r % m) some fc fr (in_rows q l) (in_rows r b) (mod_below q m some) (mod_below r m some) e in
          sym (div-add-mod' q m) ∙ ap (λ x. x * m + q % m) p.0 ∙ ap (λ x. r / m * m + x) p.1 ∙ div-add-mod' r m;
    }
  where
    in_rows : (q : ℕ) → q < m * n → q / m < n
    in_rows q l = div_below q m n some (subst (λ x. q < x) (mul_comm m n) l)

pub block_one_to_one : BlockOneToOne
block_one_to_one m n some many =
    places_one_to_one (steps_of m n) m n some many (finds_the_smallest m first_step some).apart (finds_the_smallest n first_step many).apart
