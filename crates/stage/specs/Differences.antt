-- Where two lists first differ.
use Rattle.std.proofs.Common.{◌≡◌, ℕ, zero, suc, ◌<◌, Bool, true, false, cond, eqb, List, [], ◌∷◌, length, get_or, take, Some, None, Option, refl, arith}
use Rattle.std.specs.Option.{option_map}
use Rattle.std.proofs.lemmas.Bool.{eqb-true, eqb-false, eq-eqb, ne_eqb}
use Rattle.stage.specs.Plain.{first_difference}

-- two lists of one length agree before k and differ there
pub record DifferAt (xs : List ℕ) (ys : List ℕ) (k : ℕ) : Type 0 where
  pub shared : take k xs ≡ take k ys
  pub inside : k < length ys
  pub here : get_or xs k 0 ≡ get_or ys k 0 → ⊥

pub no_difference_from_itself : (xs : List ℕ) → first_difference xs xs ≡ None
no_difference_from_itself [] = refl
no_difference_from_itself (x ∷ xs) = rw (eq-eqb x x refl, no_difference_from_itself xs) refl

-- one step of the comparison, by whether the first elements are equal
none_step : (b : Bool) (o : Option ℕ) → cond b (option_map suc o) (Some 0) ≡ None → (b ≡ true) × (o ≡ None)
none_step true None h = (refl, refl)
none_step true (Some k) h = let z : ◌≡◌ {A = ℕ} 0 1 = cc in absurd (omega arith)
none_step false o h = let z : ◌≡◌ {A = ℕ} 0 1 = cc in absurd (omega arith)

pub no_difference_means_same : (xs ys : List ℕ) → first_difference xs ys ≡ None → xs ≡ ys
no_difference_means_same [] [] h = refl
no_difference_means_same [] (y ∷ ys) h = let z : ◌≡◌ {A = ℕ} 0 1 = cc in absurd (omega arith)
no_difference_means_same (x ∷ xs) [] h = let z : ◌≡◌ {A = ℕ} 0 1 = cc in absurd (omega arith)
no_difference_means_same (x ∷ xs) (y ∷ ys) h =
    let s = none_step (eqb x y) (first_difference xs ys) h in
    let e = eqb-true x y s.0 in
    let t = no_difference_means_same xs ys s.1 in cc

pub difference_tells : (xs ys : List ℕ) (k : ℕ) → length xs ≡ length ys → first_difference xs ys ≡ Some k → DifferAt xs ys k
difference_tells [] [] k l h = let z : ◌≡◌ {A = ℕ} 0 1 = cc in absurd (omega arith)
difference_tells [] (y ∷ ys) k l h = absurd (omega arith)
difference_tells (x ∷ xs) [] k l h = absurd (omega arith)
difference_tells (x ∷ xs) (y ∷ ys) k l h =
    of (eqb x y) (first_difference xs ys) refl refl h (λ j e. difference_tells xs ys j (omega arith) e)
  where
    of : (b : Bool) (o : Option ℕ) → eqb x y ≡ b → first_difference xs ys ≡ o → cond b (option_map suc o) (Some 0) ≡ Some k → ((j : ℕ) → first_difference xs ys ≡ Some j → DifferAt xs ys j) → DifferAt (x ∷ xs) (y ∷ ys) k
    of true None eb eo e more = let z : ◌≡◌ {A = ℕ} 0 1 = cc in absurd (omega arith)
    of true (Some j) eb eo e more =
        let d = more j eo in
        let n : suc j ≡ k = cc in
        let same = eqb-true x y eb in
        let front = d.shared in
        rw (← n) record { shared = cc; inside = omega (arith, d.inside); here = d.here }
    of false o eb eo e more =
        let n : 0 ≡ k = cc in
        rw (← n) record { shared = refl; inside = omega arith; here = eqb-false x y eb }

pub difference_found : (xs ys : List ℕ) (k : ℕ) → length xs ≡ length ys → k < length ys → ((j : ℕ) → j < k → get_or xs j 0 ≡ get_or ys j 0) → (get_or xs k 0 ≡ get_or ys k 0 → ⊥) → first_difference xs ys ≡ Some k
difference_found [] [] k l i before here = absurd (omega arith)
difference_found [] (y ∷ ys) k l i before here = absurd (omega arith)
difference_found (x ∷ xs) [] k l i before here = absurd (omega arith)
difference_found (x ∷ xs) (y ∷ ys) zero l i before here = rw (ne_eqb x y here) refl
difference_found (x ∷ xs) (y ∷ ys) (suc k) l i before here =
    let e = difference_found xs ys k (omega arith) (omega arith) (λ j h. before (suc j) (omega arith)) here in
    rw (eq-eqb x y (before 0 (omega arith)), e) refl
