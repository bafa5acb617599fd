-- What is one-to-one below a number comes to every place below it.
use Rattle.std.specs.Prelude.{◌≡◌, ℕ, zero, suc, ◌<◌, ◌≤◌, cond, ◌⊎◌, ◌==◌, ◌≢◌}
use Rattle.std.proofs.Common.{sym, ◌∙◌, inl, inr, arith}
use Rattle.std.proofs.lemmas.Bool.{eq-eqb, ne_eqb, cases_lt, cases_eq, cond-true, cond-false}
use Rattle.interleave.specs.Places.{OneToOne}

-- the last place is left out: what went there goes where the last number goes
abbrev detour : ℕ → (ℕ → ℕ) → ℕ → ℕ
detour last f k = cond (f k == last) (f last) (f k)

detour_there : (last : ℕ) (f : ℕ → ℕ) (k : ℕ) → f k ≡ last → detour last f k ≡ f last
detour_there last f k e = cond-true (f k == last) (f last) (f k) (eq-eqb (f k) last e)

detour_else : (last : ℕ) (f : ℕ → ℕ) (k : ℕ) → (f k ≢ last) → detour last f k ≡ f k
detour_else last f k e = cond-false (f k == last) (f last) (f k) (ne_eqb (f k) last e)

smaller : (a b : ℕ) → a < suc b → (a ≢ b) → a < b
smaller a b l never = of (cases_lt a b)
  where
    of : (a < b) ⊎ (b ≤ a) → a < b
    of (inl s) = s
    of (inr s) = absurd (never (omega arith))

detour_inside : (last : ℕ) (f : ℕ → ℕ) → OneToOne (suc last) f → (k : ℕ) → k < last → detour last f k < last
detour_inside last f h k l = of (cases_eq (f k) last)
  where
    of : (f k ≡ last) ⊎ (f k ≢ last) → detour last f k < last
    of (inl e) =
        let s = smaller (f last) last (h.inside last (omega arith)) (λ w.
        let same = h.apart last k (omega arith) (omega arith) (w ∙ sym e) in
        absurd (omega arith)) in
        omega (arith, detour_there last f k e)
    of (inr e) = omega (arith, detour_else last f k e, smaller (f k) last (h.inside k (omega arith)) e)

detour_apart : (last : ℕ) (f : ℕ → ℕ) → OneToOne (suc last) f → (q r : ℕ) → q < last → r < last → detour last f q ≡ detour last f r → q ≡ r
detour_apart last f h q r l b e = of (cases_eq (f q) last) (cases_eq (f r) last)
  where
    of : (f q ≡ last) ⊎ (f q ≢ last) → (f r ≡ last) ⊎ (f r ≢ last) → q ≡ r
    of (inl x) (inl y) = h.apart q r (omega arith) (omega arith) (x ∙ sym y)
    of (inl x) (inr y) =
        let same = h.apart last r (omega arith) (omega arith) (sym (detour_there last f q x) ∙ e ∙ detour_else last f r y) in
        absurd (omega arith)
    of (inr x) (inl y) =
        let same = h.apart last q (omega arith) (omega arith) (sym (detour_there last f r y) ∙ sym e ∙ detour_else last f q x) in
        absurd (omega arith)
    of (inr x) (inr y) = h.apart q r (omega arith) (omega arith) (sym (detour_else last f q x) ∙ e ∙ detour_else last f r y)

pub every_place_is_hit : (count : ℕ) (f : ℕ → ℕ) → OneToOne count f → (p : ℕ) → p < count → (q : ℕ) × ((q < count) × (f q ≡ p))
every_place_is_hit zero f h p l = absurd (omega arith)
every_place_is_hit (suc last) f h p l =
    of (cases_eq (f last) p) (cases_eq p last) (every_place_is_hit last (detour last f) (record { inside = detour_inside last f h; apart = detour_apart last f h }))
  where
    Hit : Type 0
    Hit = (q : ℕ) × ((q < suc last) × (f q ≡ p))

    before : (p ≢ last) → (f last ≢ p) → (q : ℕ) → q < last → detour last f q ≡ p → (f q ≡ last) ⊎ (f q ≢ last) → Hit
    before never other q b e (inl w) = absurd (other (sym (detour_there last f q w) ∙ e))
    before never other q b e (inr w) = (q, (omega arith, sym (detour_else last f q w) ∙ e))

    at_last : p ≡ last → (q : ℕ) → q < last → detour last f q ≡ f last → (f q ≡ last) ⊎ (f q ≢ last) → Hit
    at_last same q b e (inl w) = (q, (omega arith, w ∙ sym same))
    at_last same q b e (inr w) =
        let x = h.apart q last (omega arith) (omega arith) (sym (detour_else last f q w) ∙ e) in
        absurd (omega arith)

    of : (f last ≡ p) ⊎ (f last ≢ p) → (p ≡ last) ⊎ (p ≢ last) → ((k : ℕ) → k < last → (q : ℕ) × ((q < last) × (detour last f q ≡ k))) → Hit
    of (inl e) y rest = (last, (omega arith, e))
    of (inr other) (inr never) rest =
        let found = rest p (smaller p last l never) in
        before never other found.0 found.1.0 found.1.1 (cases_eq (f found.0) last)
    of (inr other) (inl same) rest =
        let found = rest (f last) (smaller (f last) last (h.inside last (omega arith)) (λ w. other (w ∙ sym same))) in
        at_last same found.0 found.1.0 found.1.1 (cases_eq (f found.0) last)
