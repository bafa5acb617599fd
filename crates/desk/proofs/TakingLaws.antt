-- The bytes in front of a buffer after a take.
use Rattle.std.proofs.Common.{◌≡◌, ℕ, List, length, take, drop, Ok, Err, Result, sym, refl, ap, ◌∙◌, arith}
use Rattle.desk.specs.Receiving.{TakesOut}
use Rattle.frame.specs.declared.headers.Header.{Header}
use Rattle.receiving.specs.declared.refusals.TakeRefusal.{TakeRefusal}
use Rattle.receiving.specs.Steps.{take_buffer, take_told}
use Rattle.std.proofs.lemmas.List.{take_at}

pub takes_out : (told : Result (Header × List ℕ) TakeRefusal) (r : Result (Header × ℕ) TakeRefusal) (before after : List ℕ) → r ≡ take_told told → after ≡ take_buffer told before → TakesOut told r after
takes_out (Ok f) (Ok p) before after e b =
    let q : p ≡ (f.0, length f.1) = cc in
    let h : p.0 ≡ f.0 = ap (λ (x : Header × ℕ). x.0) q in
    let n : p.1 ≡ length f.1 = ap (λ (x : Header × ℕ). x.1) q in
    let t : take p.1 after ≡ f.1 = ap (λ k. take k after) n ∙ ap (take (length f.1)) b ∙ take_at f.1 (drop (length f.1) before) (length f.1) refl in
    ap (λ (x : Header). Ok (x, f.1)) (sym h) ∙ ap (λ (xs : List ℕ). Ok (p.0, xs)) (sym t)
takes_out (Ok f) (Err x) before after e b = let z : ◌≡◌ {A = ℕ} 0 1 = cc in let w : ⊥ = omega arith in absurd w
takes_out (Err y) (Ok p) before after e b = let z : ◌≡◌ {A = ℕ} 0 1 = cc in let w : ⊥ = omega arith in absurd w
takes_out (Err y) (Err x) before after e b = let q : x ≡ y = cc in ap (λ (z : TakeRefusal). Err z) (sym q)
