-- Decoding a pile: how the members' answers make the pile's, and what a fault tells.
use Rattle.std.specs.Prelude.{◌≡◌, ℕ, zero, suc, ◌+◌, ◌<◌, ◌⊎◌, List, [], ◌∷◌, ◌++◌, length, Some, None, Ok, Err, Option, Result, refl}
use Rattle.std.proofs.Common.{sym, ap, subst, inl, inr, add-zero, add-suc, arith, length-append}
use Rattle.stage.specs.declared.faults.StageFault.{StageFault}
use Rattle.stage.specs.declared.faults.ChainFault.{ChainFault}
use Rattle.stage.specs.Faults.{deeper_by, fault_at}
use Rattle.stage.specs.Plain.{Plain, first_difference, settled, judged}
use Rattle.stage.specs.Model.{Model, plain, pile, members, deepened, inward, decoding}
use Rattle.stage.specs.Promise.{Passes, Stops, from_the_line}

-- a pile accepts if both members do, the second's list being what the first is given
pub record BothAccept (ms : List ℕ) (second : Result (List ℕ) ChainFault) (first : List ℕ → Result (List ℕ) ChainFault) (xs : List ℕ) : Type 0 where
  pub near : second ≡ Ok ms
  pub far : first ms ≡ Ok xs

deepened_ok : (k : ℕ) (r : Result (List ℕ) ChainFault) (xs : List ℕ) → deepened k r ≡ Ok xs → r ≡ Ok xs
deepened_ok k (Ok ys) xs h = h
deepened_ok k (Err f) xs h = let z : ◌≡◌ {A = ℕ} 0 1 = cc in absurd (omega arith)

pub inward_accepts : (k : ℕ) (second : Result (List ℕ) ChainFault) (first : List ℕ → Result (List ℕ) ChainFault) (xs : List ℕ) → inward k second first ≡ Ok xs → (ms : List ℕ) × BothAccept ms second first xs
inward_accepts k (Ok ms) first xs h = (ms, record { near = refl; far = deepened_ok k (first ms) xs h })
inward_accepts k (Err f) first xs h = let z : ◌≡◌ {A = ℕ} 0 1 = cc in absurd (omega arith)

-- a pile's fault is the second's, or the first's, deeper by the plain stages of the second
pub record FirstRefuses (ms : List ℕ) (g : ChainFault) (k : ℕ) (second : Result (List ℕ) ChainFault) (first : List ℕ → Result (List ℕ) ChainFault) (f : ChainFault) : Type 0 where
  pub near : second ≡ Ok ms
  pub far : first ms ≡ Err g
  pub deeper : f ≡ deeper_by k g

deepened_err : (k : ℕ) (r : Result (List ℕ) ChainFault) (f : ChainFault) → deepened k r ≡ Err f → (g : ChainFault) × ((r ≡ Err g) × (f ≡ deeper_by k g))
deepened_err k (Ok ys) f h = let z : ◌≡◌ {A = ℕ} 0 1 = cc in absurd (omega arith)
deepened_err k (Err g) f h = (g, (refl, (cc)))

pub inward_refuses : (k : ℕ) (second : Result (List ℕ) ChainFault) (first : List ℕ → Result (List ℕ) ChainFault) (f : ChainFault) → inward k second first ≡ Err f → (second ≡ Err f) ⊎ ((ms : List ℕ) × ((g : ChainFault) × FirstRefuses ms g k second first f))
inward_refuses k (Ok ms) first f h =
    let d = deepened_err k (first ms) f h in
    inr (ms, (d.0, record { near = refl; far = d.1.0; deeper = d.1.1 }))
inward_refuses k (Err g) first f h = inl h

-- a plain stage's fault has depth 0
settled_depth : (number : ℕ) (xs : List ℕ) (d : Option ℕ) (f : ChainFault) → settled number xs d ≡ Err f → f.depth ≡ 0
settled_depth number xs None f h = let z : ◌≡◌ {A = ℕ} 0 1 = cc in absurd (omega arith)
settled_depth number xs (Some k) f h = let e : f ≡ fault_at number k = cc in ap (λ (x : ChainFault). x.depth) e

judged_depth : (p : Plain) (ys : List ℕ) (o : Option ℕ) (f : ChainFault) → judged p ys o ≡ Err f → f.depth ≡ 0
judged_depth p ys None f h = let e : f ≡ fault_at p.number 0 = cc in ap (λ (x : ChainFault). x.depth) e
judged_depth p ys (Some n) f h =
    settled_depth p.number (p.guess n ys) (first_difference (p.coding (p.guess n ys)) ys) f h

-- a fault's depth is below the count of plain stages
pub depth_below_members : (m : Model) (ys : List ℕ) (f : ChainFault) → decoding m ys ≡ Err f → f.depth < members m
depth_below_members (plain p) ys f h = omega (arith, judged_depth p ys (p.message_length (length ys)) f h)
depth_below_members (pile a b) ys f h =
    elim (inward_refuses (members b) (decoding b ys) (decoding a) f h) [
      | inl e ↦ omega (arith, depth_below_members b ys f e)
      | inr e ↦ omega (arith, depth_below_members a e.0 e.1.0 e.1.1.far, ap (λ (x : ChainFault). x.depth) e.1.1.deeper)
    ]

-- the count of plain stages is their number in the row from the line inward
pub members_in_a_row : (m : Model) → members m ≡ length (from_the_line m)
members_in_a_row (plain p) = refl
members_in_a_row (pile a b) =
    omega (arith, members_in_a_row a, members_in_a_row b, length-append (from_the_line b) (from_the_line a))

-- one row after the other
pub passes_both : (ps qs : List Plain) (ys ms xs : List ℕ) → Passes ps ys ms → Passes qs ms xs → Passes (ps ++ qs) ys xs
passes_both [] qs ys ms xs h t = subst (λ (zs : List ℕ). Passes qs zs xs) (sym h) t
passes_both (p ∷ ps) qs ys ms xs h t = (h.0, (h.1.0, passes_both ps qs h.0 ms xs h.1.1 t))

pub stops_in_first_row : (ps qs : List Plain) (ys : List ℕ) (f : StageFault) (d : ℕ) → Stops ps ys f d → Stops (ps ++ qs) ys f d
stops_in_first_row [] qs ys f d h = absurd h
stops_in_first_row (p ∷ ps) qs ys f zero h = h
stops_in_first_row (p ∷ ps) qs ys f (suc d) h = (h.0, (h.1.0, stops_in_first_row ps qs h.0 f d h.1.1))

pub stops_in_second_row : (ps qs : List Plain) (ys ms : List ℕ) (f : StageFault) (d : ℕ) → Passes ps ys ms → Stops qs ms f d → Stops (ps ++ qs) ys f (d + length ps)
stops_in_second_row [] qs ys ms f d h t =
    subst (λ (k : ℕ). Stops qs ys f k) (sym (add-zero d)) (subst (λ (zs : List ℕ). Stops qs zs f d) (sym h) t)
stops_in_second_row (p ∷ ps) qs ys ms f d h t =
    subst (λ (k : ℕ). Stops (p ∷ (ps ++ qs)) ys f k) (sym (add-suc d (length ps))) (h.0, (h.1.0, stops_in_second_row ps qs h.0 ms f d h.1.1 t))
