-- The first legal length of a run over all lengths, upward or downward, is the smallest or the largest.
use Rattle.std.proofs.Common.{◌≡◌, ℕ, ◌+◌, ◌-◌, ◌<◌, ◌≤◌, true, Some, None, Option, IfSome, IsSomeAnd, MatchOption, sym, ap, subst, ◌∙◌, refl, inl, inr, arith}
use Rattle.std.specs.Option.{option_map}
use Rattle.std.specs.Fn.{Called}
use Rattle.std.specs.Iterator.Runs.{AllItemsGive, CallKeepsClosure, IsFirstToGive, ItemsCountDown, ItemsCountUp, Run}
use denote.Param.Members.{Mut}
use Rattle.std.proofs.lemmas.Bool.{cases_lt}
use Rattle.frame.specs.declared.headers.Header.{Header}
use Rattle.frame.specs.declared.lengths.LegalLength.{LegalLength}
use Rattle.frame.specs.declared.refusals.Refusal.{Refusal}
use Rattle.frame.specs.Answers.{Legal, payload, refusal}
use Rattle.frame.specs.Headers.{with_fl}
use Rattle.frame.specs.Lengths.{First_legal, Largest, Serves, Smallest, Without_length, legal_length, length_unless}
use Rattle.frame.proofs.Legality.{legal_fl}

if_some : {A : Type 0} (o : Option A) (P Q : A → Type 0) → ((x : A) → P x → Q x) → IfSome o P → IfSome o Q
if_some None P Q f h = tt
if_some (Some x) P Q f h = f x h

is_some_and : {A : Type 0} (o : Option A) (P Q : A → Type 0) → ((x : A) → P x → Q x) → IsSomeAnd o P → IsSomeAnd o Q
is_some_and None P Q f h = h
is_some_and (Some x) P Q f h = f x h

-- what `find_map` tells of a run, where the closure answers the legal length
pub first_of_run : {S F : Type 0} {steps : S → Option ℕ → S → Type 0} (h : Header) (p : Run steps) (g : Mut F (ℕ × Unit {0}) (Option LegalLength)) (f : F) (r : Option LegalLength)
    → ((x : ℕ) (o : Option LegalLength) → Called g f (x, tt) o f → legal_length h x ≡ o) → CallKeepsClosure g f
    → MatchOption r ((p.whole ≡ true) × AllItemsGive p g f None) (λ l. (i : ℕ) × (i < p.len) × (p.len ≡ i + 1) × IsFirstToGive p g f (Some l) None i)
    → First_legal h p r
first_of_run h p g f None says keeps m = (m.0, λ k. if_some (p.at k) _ _ (λ x c. says x None c) (m.1 keeps k))
first_of_run h p g f (Some l) says keeps m =
    let t = m.3 keeps in
    (m.0, sym m.2, is_some_and (p.at m.0) _ _ (λ x c. says x (Some l) c) t.0, λ k b. is_some_and (p.at k) _ _ (λ x c. says x None c) (t.1 k b))

-- a length that was passed over does not make the header legal
passed_over : (h : Header) (fl : ℕ) → legal_length h fl ≡ None → Legal (with_fl h fl) → ⊥
unfolding legal_length
passed_over h fl e l = of (refusal (with_fl h fl)) l e
  where
    of : (o : Option Refusal) → o ≡ None → length_unless o fl (payload (with_fl h fl)) ≡ None → ⊥
    of (Some r) q a = let z : ◌≡◌ {A = ℕ} 0 1 = cc in omega arith
    of None q a = let z : ◌≡◌ {A = ℕ} 0 1 = cc in omega arith

-- the one that was answered does
answered : (h : Header) (fl : ℕ) (l : LegalLength) → legal_length h fl ≡ Some l → (l.fl ≡ fl) × (Serves h l)
unfolding legal_length
answered h fl l e = of (refusal (with_fl h fl)) refl e
  where
    of : (o : Option Refusal) → refusal (with_fl h fl) ≡ o → length_unless o fl (payload (with_fl h fl)) ≡ Some l → (l.fl ≡ fl) × (Serves h l)
    of (Some r) q a = let z : ◌≡◌ {A = ℕ} 0 1 = cc in absurd (omega arith)
    of None q a =
        let same_fl : fl ≡ l.fl = (cc) in
        let same_payload : payload (with_fl h fl) ≡ l.payload = (cc) in
        (sym same_fl, (subst (λ n. Legal (with_fl h n)) same_fl q, sym same_payload ∙ ap (λ n. payload (with_fl h n)) same_fl))

some_is : {A : Type 0} (o : Option A) (n : A) (P : A → Type 0) → option_map (λ y. y) o ≡ Some n → IsSomeAnd o P → P n
some_is None n P e h = absurd h
some_is (Some x) n P e h = let q : x ≡ n = (cc) in subst P q h

if_is : {A : Type 0} (o : Option A) (n : A) (P : A → Type 0) → option_map (λ y. y) o ≡ Some n → IfSome o P → P n
if_is None n P e h = let z : ◌≡◌ {A = ℕ} 0 1 = cc in absurd (omega arith)
if_is (Some x) n P e h = let q : x ≡ n = (cc) in subst P q h

-- a run that gives `order k` at place k, and each length at its place
module _ {S : Type 0} {steps : S → Option ℕ → S → Type 0} (p : Run steps) (h : Header) (order place : ℕ → ℕ)
    (full : p.whole ≡ true → p.len ≡ 64) (gives : (k : ℕ) → k < p.len → option_map (λ y. y) (p.at k) ≡ Some (order k))
    (there : (fl : ℕ) → fl ≤ 63 → (place fl < 64) × (order (place fl) ≡ fl)) (back : (k : ℕ) → k < p.len → place (order k) ≡ k) where
  at : (fl : ℕ) → fl ≤ 63 → place fl < p.len → option_map (λ y. y) (p.at (place fl)) ≡ Some fl
  at fl few l = gives (place fl) l ∙ ap Some (there fl few).1

  -- the answer serves, and no length with an earlier place does
  pub earliest : (r : Option LegalLength) → First_legal h p r → MatchOption r (Without_length h) (λ l. Serves h l × ((fl : ℕ) → Legal (with_fl h fl) → place l.fl ≤ place fl))
  earliest None f = λ fl legal.
      let few = legal_fl (with_fl h fl) legal in
      passed_over h fl (if_is (p.at (place fl)) fl _ (at fl few (omega (arith, full f.0, (there fl few).0))) (f.1 (place fl))) legal
  earliest (Some l) f =
      let here = answered h (order f.0) l (some_is (p.at f.0) (order f.0) _ (gives f.0 (omega (arith, f.1))) f.2) in
      let where_l : place l.fl ≡ f.0 = ap place here.0 ∙ back f.0 (omega (arith, f.1)) in (
        here.1,
        λ fl legal. elim (cases_lt (place fl) f.0) [
          | inl s ↦ absurd (passed_over h fl (some_is (p.at (place fl)) fl _ (at fl (legal_fl (with_fl h fl) legal) (omega (arith, f.1))) (f.3 (place fl) s)) legal)
          | inr s ↦ omega arith
        ],
      )

smallest_of : (h : Header) (r : Option LegalLength) → MatchOption r (Without_length h) (λ l. Serves h l × ((fl : ℕ) → Legal (with_fl h fl) → l.fl ≤ fl)) → Smallest h r
smallest_of h None m = m
smallest_of h (Some l) m = m

largest_of : (h : Header) (r : Option LegalLength) → MatchOption r (Without_length h) (λ l. Serves h l × ((fl : ℕ) → Legal (with_fl h fl) → 63 - l.fl ≤ 63 - fl)) → Largest h r
largest_of h None m = m
largest_of h (Some l) m = (m.0, λ fl legal. omega (arith, m.1 fl legal, legal_fl (with_fl h fl) legal))

-- of the lengths up to 63, counted up
pub smallest_upward : {S : Type 0} {steps : S → Option ℕ → S → Type 0} (p : Run steps) (h : Header) (r : Option LegalLength) (a b : ℕ) → a ≡ 0 → b ≡ 64 → ItemsCountUp p a b → First_legal h p r → Smallest h r
smallest_upward p h r a b ea eb c f =
    smallest_of h r
    (earliest p h (λ k. k) (λ k. k) (λ w. omega (arith, c.1 w)) (λ k l. c.3 k l ∙ ap Some (omega arith)) (λ fl few. (omega arith, refl)) (λ k l. refl) r f)

-- counted down, as a run `q` that gives the same as `p`
pub largest_downward : {S T : Type 0} {steps : S → Option ℕ → S → Type 0} {others : T → Option ℕ → T → Type 0} (p : Run steps) (q : Run others) (h : Header) (r : Option LegalLength) (a b : ℕ)
    → a ≡ 0 → b ≡ 64 → q.len ≡ p.len → ((k : ℕ) → q.at k ≡ p.at k) → q.whole ≡ p.whole → ItemsCountDown q a b → First_legal h p r → Largest h r
largest_downward p q h r a b ea eb long same whole c f =
    largest_of h r
    (earliest p h (λ k. 63 - k) (λ k. 63 - k) (λ w. omega (arith, c.1 (whole ∙ w))) (λ k l. ap (option_map (λ y. y)) (sym (same k)) ∙ c.3 k (omega arith) ∙ ap Some (omega arith))
    (λ fl few. (omega arith, omega arith)) (λ k l. omega (arith, c.0)) r f)
