-- What legality tells, and what `size` answers because of it.
use Rattle.std.proofs.Common.{◌≡◌, ℕ, ◌≤◌, Some, None, Ok, Option, sym, refl, ap, arith}
use Rattle.frame.specs.declared.headers.Header.{Header}
use Rattle.frame.specs.declared.refusals.Refusal.{Refusal}
use Rattle.frame.specs.Answers.{Legal, payload, refusal, size_answer, unless_refused}
use Rattle.frame.specs.Sizes.{row_count}
use Rattle.std.proofs.lemmas.Bool.Decides.{nat_tests}

pub answered_means_not_refused : {A : Type 0} (o : Option Refusal) (a b : A) → unless_refused o a ≡ Ok b → (o ≡ None) × (a ≡ b)
answered_means_not_refused None a b h = (refl, (cc))
answered_means_not_refused (Some e) a b h = let z : ◌≡◌ {A = ℕ} 0 1 = cc in absurd (omega arith)

pub legal_fl : (h : Header) → Legal h → h.fl ≤ 63
legal_fl h l = grind (arith, nat_tests)

pub legal_modulation : (h : Header) → Legal h → h.modulation ≤ 3
legal_modulation h l = grind (arith, nat_tests)

-- `g` is the header that `size` was given, `h` the one that it equals.
pub sized_is_legal : (g h : Header) (n rows : ℕ) → g ≡ h → Ok (n, rows) ≡ size_answer g → Legal h × (n ≡ payload h)
sized_is_legal g h n rows e r =
    let a : size_answer h ≡ Ok (n, rows) = cc in
    let t = answered_means_not_refused (refusal h) (payload h, row_count h.fl) (n, rows) a in
    (t.0, sym (ap (λ (p : ℕ × ℕ). p.0) t.1))
