-- Rows fed one after the other, and what is taken behind them.
use Rattle.std.proofs.Common.{◌≡◌, ℕ, suc, ◌+◌, ◌*◌, ◌≤◌, Bool, true, false, cond, eqb, List, ◌++◌, length, take, drop, Some, None, Ok, Err, Option, Result, sym, refl, ap, ◌∙◌, subst, arith, drop_at, length-append, take_at}
use Rattle.frame.specs.declared.headers.Header.{Header}
use Rattle.frame.specs.declared.refusals.Refusal.{Refusal}
use Rattle.frame.specs.Answers.{payload, refusal}
use Rattle.frame.specs.Sizes.{row_count}
use Rattle.rows.specs.Carriers.{is_reference, rows_in}
use Rattle.rows.specs.Rows.{RowsOf}
use Rattle.sending.specs.declared.refusals.BeginRefusal.{BeginRefusal}
use Rattle.sending.specs.declared.refusals.BeginRefusal.TheVariants.{Reference}
use Rattle.sending.specs.declared.refusals.SendRefusal.TheVariants.{PayloadLength}
use Rattle.sending.specs.Laws.{HoldsFrame}
use Rattle.sending.specs.Sendings.{begin_legal, begin_refusal, send_answer, send_begun, send_unless}
use Rattle.receiving.specs.declared.refusals.TakeRefusal.{TakeRefusal}
use Rattle.receiving.specs.Laws.{fed_all}
use Rattle.receiving.specs.Steps.{View, fed, fresh, started, take_buffer, take_told, taken}
use Rattle.receiving.proofs.DecisionLaws.{decisions_exact}
use Rattle.receiving.proofs.YieldLaw.{yield_law}

-- Rows that are left to feed, out of so many cells.
pub record Feeding (v now : View) (n : ℕ) (rest : List ℕ) : Type 0 where
  pub enough : 36 * n ≤ length rest
  pub ends_as : fed_all now (rows_in n rest) ≡ v

-- One more row is fed.
pub feeding_more : (v now next : View) (n m : ℕ) (rest left row : List ℕ) → m + 1 ≡ n → rest ≡ row ++ left → length row ≡ 36 → next ≡ (fed now row).0 → Feeding v now n rest → Feeding v next m left
feeding_more v now next n m rest left row e r l f g =
    let enough = g.enough in
    let s : suc m ≡ n = omega arith in
    record {
      enough = omega (arith, ap length r, length-append row left);
      ends_as = ap (λ w. fed_all w (rows_in m left)) f
          ∙ ap (λ q. fed_all (fed now q).0 (rows_in m left)) (sym (take_at row left 36 l))
          ∙ ap (λ q. fed_all (fed now (take 36 (row ++ left))).0 (rows_in m q)) (sym (drop_at row left 36 l))
          ∙ ap (λ q. fed_all now (rows_in (suc m) q)) (sym r)
          ∙ ap (λ k. fed_all now (rows_in k rest)) s
          ∙ g.ends_as;
    }

some_none : {A : Type 0} (a : A) → ◌≡◌ {A = Option A} (Some a) None → ⊥
some_none a q = cc

-- An accepted send has a reference, and answers the frame's row count.
begun_refers : (o : Option Refusal) (h : Header) (reference : List ℕ) (room : ℕ) → begin_legal o h reference room ≡ None → is_reference reference ≡ true
begun_refers (Some e) h reference room q = absurd (some_none _ q)
begun_refers None h reference room q = of (is_reference reference) refl _ q
  where
    of : (b : Bool) → is_reference reference ≡ b → (inner : Option BeginRefusal) → cond b inner (Some Reference) ≡ None → is_reference reference ≡ true
    of true e inner p = e
    of false e inner p = absurd (some_none _ p)

sent_begun : (o : Option BeginRefusal) (h : Header) (count rows : ℕ) → send_unless (send_begun o h count) h ≡ Ok rows → (o ≡ None) × (rows ≡ row_count h.fl)
sent_begun (Some e) h count rows q = absurd (cc)
sent_begun None h count rows q = (refl, of (eqb count (payload h)) q)
  where
    of : (b : Bool) → send_unless (cond b None (Some PayloadLength)) h ≡ Ok rows → rows ≡ row_count h.fl
    of true p = cc
    of false p = absurd (cc)

-- What is sent, fed and taken is what was sent.
pub delivered : (h : Header) (reference bytes cells cells' before after : List ℕ) (n rows : ℕ) (v : View) (told : Result (Header × ℕ) TakeRefusal)
    → send_answer h reference bytes (length cells) ≡ Ok rows → Ok n ≡ send_answer h reference bytes (length cells) → HoldsFrame reference h bytes cells cells'
    → v ≡ fed_all (started fresh reference) (rows_in n cells') → told ≡ take_told (taken v (length before)).1 → after ≡ take_buffer (taken v (length before)).1 before → length bytes ≤ length before
    → (told ≡ Ok (h, length bytes)) × (after ≡ bytes ++ drop (length bytes) before)
delivered h reference bytes cells cells' before after n rows v told s a holds e t b room =
    let begun = sent_begun (begin_refusal h reference (length cells)) h (length bytes) n (sym a) in
    let refers = begun_refers (refusal h) h reference (length cells) begun.0 in
    let ro = subst (λ k. RowsOf reference h bytes (rows_in k cells')) (sym begun.1) holds.rows in
    let yields = (yield_law decisions_exact).frame_arrives reference (rows_in n cells') h bytes refers ro in
    let enough = ro.frame.exactly in
    let x : (taken v (length before)).1 ≡ Ok (h, bytes) = ap (λ w. (taken w (length before)).1) e ∙ yields.hands_over (length before) (omega arith) in
    (t ∙ ap take_told x, b ∙ ap (λ q. take_buffer q before) x)

pub same_taken : (a b : Header × ℕ) → ◌≡◌ {A = Result (Header × ℕ) TakeRefusal} (Ok a) (Ok b) → ◌≡◌ {A = Option (Header × ℕ)} (Some a) (Some b)
same_taken a b q = let e : a ≡ b = cc in ap Some e

pub not_delivered : (e : TakeRefusal) (b : Header × ℕ) → ◌≡◌ {A = Result (Header × ℕ) TakeRefusal} (Err e) (Ok b) → ⊥
not_delivered e b q = cc
