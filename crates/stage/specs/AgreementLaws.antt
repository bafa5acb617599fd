-- A decoder that knows how far the nearest coding agrees with the received list knows the answer.
use Rattle.std.specs.Prelude.{◌≡◌, ℕ, ◌<◌, ◌≤◌, Bool, true, false, cond, List, length, take, ◌++◌, Some, None, Ok, Err, Option, refl}
use Rattle.std.proofs.Common.{max, sym, ap, subst, ◌∙◌, arith}
use Rattle.std.proofs.lemmas.List.{length-append, take_at}
use Rattle.stage.specs.Lengths.{longest_with}
use Rattle.stage.specs.Faults.{fault_at}
use Rattle.stage.specs.Plain.{Plain}
use Rattle.stage.specs.Model.{plain, legal, decoding}
use Rattle.stage.specs.Sound.{Sound}
use Rattle.stage.specs.Lists.{some_is_there, same_by_places}
use Rattle.stage.specs.Legality.{legal_from_parts}
use Rattle.stage.specs.Plains.{plain_accepts, plain_refuses}
use Rattle.stage.specs.Agreement.{AgreesUpTo, Regains}

pub same_some : (m n : ℕ) → ◌≡◌ {A = Option ℕ} (Some m) (Some n) → m ≡ n
same_some m n e = cc

pub some_under_test : (b : Bool) (n k : ℕ) → cond b (Some n) None ≡ Some k → (b ≡ true) × (n ≡ k)
some_under_test true n k h = (refl, (cc))
some_under_test false n k h = let z : ◌≡◌ {A = ℕ} 0 1 = cc in absurd (omega arith)

-- the nearest coding is the received list: it is accepted
pub agrees_wholly_accepts : (p : Plain) → Sound p → (ys : List ℕ) (n place : ℕ)
    → p.message_length (length ys) ≡ Some n → AgreesUpTo p n ys place → length ys ≤ place
    → decoding (plain p) ys ≡ Ok (p.guess n ys)
agrees_wholly_accepts p s ys n place e a l =
    let there = s.lengths_back n (length ys) e in
    let long : p.coded_length (length (p.guess n ys)) ≡ Some (length ys) = ap p.coded_length (s.guess_length n ys there) ∙ there in
    let is_legal : legal (plain p) (p.guess n ys) ≡ true =
    legal_from_parts (plain p) (p.guess n ys) refl (s.guess_within n ys there) (some_is_there _ (length ys) long) in
    let as_long : length (p.coding (p.guess n ys)) ≡ length ys = same_some _ _ (sym (s.stated_length (p.guess n ys) is_legal) ∙ long) in
    plain_accepts p s ys (p.guess n ys) is_legal (same_by_places _ ys as_long (λ i h. a.same i (omega arith)))

-- the nearest coding agrees only so far: that is the place of the fault
pub agrees_partly_refuses : (p : Plain) → Sound p → (ys : List ℕ) (n place : ℕ)
    → p.message_length (length ys) ≡ Some n → AgreesUpTo p n ys place → place < length ys
    → decoding (plain p) ys ≡ Err (fault_at p.number place)
agrees_partly_refuses p s ys n place e a l = plain_refuses p s ys n place e l a.same (a.stop l)

-- a plain stage that regains the message from a received list accepts it
pub regained_accepts : (p : Plain) → Sound p → (ys list : List ℕ) → p.message_length (length ys) ≡ Some (length list) → Regains p ys None list → decoding (plain p) ys ≡ Ok list
regained_accepts p s ys list e r =
    agrees_wholly_accepts p s ys (length list) (length ys) e r.0 (omega arith) ∙ ap Ok (sym r.1)

-- and refuses it where the nearest coding is another
pub regained_refuses : (p : Plain) → Sound p → (ys list : List ℕ) (place : ℕ) → p.message_length (length ys) ≡ Some (length list) → Regains p ys (Some place) list → decoding (plain p) ys ≡ Err (fault_at p.number place)
regained_refuses p s ys list place e r = agrees_partly_refuses p s ys (length list) place e r.0 r.1

-- the list that a length leads to has room in what has room for the longest
pub reached_fits : (n k room : ℕ) (o : Option ℕ) → o ≡ Some k → longest_with n o (λ i. i) ≤ room → (n ≤ room) × (k ≤ room)
reached_fits n k room o e h =
    let l = subst (λ (x : Option ℕ). longest_with n x (λ i. i) ≤ room) e h in
    let w : max n k ≤ room = l in
    (omega arith, omega arith)

-- the same of a decoder that copies the received list aside, and writes the message over the front
-- of the buffer that held it
pub regained_in_front : (p : Plain) → Sound p → (ys aside list rest : List ℕ) (n k : ℕ) (r : Option ℕ) → length ys ≡ n → aside ≡ ys → p.message_length n ≡ Some k → length list ≡ k → Regains p aside r list → r ≡ None → (decoding (plain p) ys ≡ Ok (take k (list ++ rest))) × (k ≤ length (list ++ rest))
regained_in_front p s ys aside list rest n k r long same e short regains none =
    let at : p.message_length (length ys) ≡ Some (length list) = ap p.message_length long ∙ e ∙ ap Some (sym short) in
    let of : Regains p ys r list = subst (λ (zs : List ℕ). Regains p zs r list) same regains in
    let whole : Regains p ys None list = subst (λ (o : Option ℕ). Regains p ys o list) none of in
    (regained_accepts p s ys list at whole ∙ ap Ok (sym (take_at list rest k short)), omega (arith, length-append list rest))

pub refused_in_front : (p : Plain) → Sound p → (ys aside list : List ℕ) (n k place : ℕ) (r : Option ℕ) → length ys ≡ n → aside ≡ ys → p.message_length n ≡ Some k → length list ≡ k → Regains p aside r list → r ≡ Some place → decoding (plain p) ys ≡ Err (fault_at p.number place)
refused_in_front p s ys aside list n k place r long same e short regains some =
    let at : p.message_length (length ys) ≡ Some (length list) = ap p.message_length long ∙ e ∙ ap Some (sym short) in
    let of : Regains p ys r list = subst (λ (zs : List ℕ). Regains p zs r list) same regains in
    let partly : Regains p ys (Some place) list = subst (λ (o : Option ℕ). Regains p ys o list) some of in
    regained_refuses p s ys list place at partly
