-- What begin and finish leave at the desk.
use Rattle.std.proofs.Common.{◌≡◌, ℕ, List, [], ◌∷◌, length, replicate, Some, None, Ok, Err, codes, Option, Result, inl, inr, sym, refl, ap, ◌∙◌}
use Rattle.std.specs.List.{AllClonesOf}
use lib.ListN.{length-replicate}
use Rattle.desk.specs.Sending.{BeginAsked, begin_turn, begun_turn, finish_if, finish_turn, finished_turn}
use Rattle.desk.specs.Views.{DeskView, Took, Turn}
use Rattle.frame.specs.declared.headers.Header.{Header}
use Rattle.wording.specs.Cells.{with_rows}
use Rattle.wording.specs.Texts.{refused_text}
use Rattle.sending.specs.declared.refusals.BeginRefusal.{BeginRefusal}
use Rattle.sending.specs.declared.refusals.FinishRefusal.{FinishRefusal}
use Rattle.sending.specs.Numbers.{finish_number}
use Rattle.sending.specs.Sendings.{begin_answer, begin_buffer, finish_answer, finish_buffer}

-- a list of which each element is 0, or a clone of 0, has no other
pub zeros_only : (xs : List ℕ) → AllClonesOf (λ (x y : ℕ). y ≡ x) 0 xs → xs ≡ replicate (length xs) 0
zeros_only [] each = refl
zeros_only (x ∷ xs) each =
    let here : x ≡ 0 = elim each.0 [ inl e ↦ e | inr e ↦ e ] in
    let rest = zeros_only xs each.1 in
    λ t. here t ∷ rest t

-- a turn by its two parts
took : (turn other : Turn) (text : List ℕ) (after : DeskView) → turn ≡ other → after ≡ other.0 → text ≡ other.1 → Took turn text after
took turn other text after e a t = (a ∙ sym (ap (λ (q : Turn). q.0) e), t ∙ sym (ap (λ (q : Turn). q.1) e))

pub begins_turn : (v : DeskView) (q : BeginAsked) (b : Header) (row before after text : List ℕ) → before ≡ replicate q.room 0 → row ≡ q.reference → begin_answer q.header row (length before) ≡ Ok b → after ≡ begin_buffer q.header row (Ok b) before → text ≡ codes "begun" → Took (begin_turn v q) text (record { receiver = v.receiver; cells = after; begun = Some b })
begins_turn v q b row before after text e er a c t =
    let room : length before ≡ q.room = ap length e ∙ length-replicate q.room 0 in
    let answer : begin_answer q.header q.reference q.room ≡ Ok b = sym (ap (begin_answer q.header row) room ∙ ap (λ (r : List ℕ). begin_answer q.header r q.room) er) ∙ a in
    let cells : after ≡ begin_buffer q.header q.reference (Ok b) (replicate q.room 0) = c ∙ ap (begin_buffer q.header row (Ok b)) e ∙ ap (λ (r : List ℕ). begin_buffer q.header r (Ok b) (replicate q.room 0)) er in
    took (begin_turn v q) (begun_turn v (Ok b) (begin_buffer q.header q.reference (Ok b) (replicate q.room 0))) text _
    (ap (λ (r : Result Header BeginRefusal). begun_turn v r (begin_buffer q.header q.reference r (replicate q.room 0))) answer)
    (ap (λ (xs : List ℕ). record { receiver = v.receiver; cells = xs; begun = Some b }) cells)
    t

pub finishes_turn : (v : DeskView) (o : Option Header) (h : Header) (bytes after shown text : List ℕ) (rows : ℕ) → v.begun ≡ Some h → finish_answer h bytes v.cells ≡ Ok rows → after ≡ finish_buffer h bytes (Ok rows) v.cells → o ≡ None → shown ≡ after → text ≡ with_rows (codes "rows") shown rows → Took (finish_turn v bytes) text (record { receiver = v.receiver; cells = after; begun = o })
finishes_turn v o h bytes after shown text rows eb a c eo es t =
    took (finish_turn v bytes) (finished_turn v (Ok rows) (finish_buffer h bytes (Ok rows) v.cells)) text _
    (ap (λ (x : Option Header). finish_if v x bytes) eb ∙ ap (λ (r : Result ℕ (FinishRefusal × Header)). finished_turn v r (finish_buffer h bytes r v.cells)) a)
    (ap (λ (xs : List ℕ). record { receiver = v.receiver; cells = xs; begun = o }) c ∙ ap (λ (x : Option Header). record { receiver = v.receiver; cells = finish_buffer h bytes (Ok rows) v.cells; begun = x }) eo)
    (t ∙ ap (λ (xs : List ℕ). with_rows (codes "rows") xs rows) (es ∙ c))

pub refused_turn : (v : DeskView) (h k : Header) (bytes after text : List ℕ) (why : FinishRefusal) → v.begun ≡ Some h → finish_answer h bytes v.cells ≡ Err (why, h) → k ≡ h → after ≡ v.cells → text ≡ refused_text (finish_number why) → Took (finish_turn v bytes) text (record { receiver = v.receiver; cells = after; begun = Some k })
refused_turn v h k bytes after text why eb a ek c t =
    let begun : Some k ≡ v.begun = ap (λ (x : Header). Some x) ek ∙ sym eb in
    took (finish_turn v bytes) (v, refused_text (finish_number why)) text _
    (ap (λ (x : Option Header). finish_if v x bytes) eb ∙ ap (λ (r : Result ℕ (FinishRefusal × Header)). finished_turn v r (finish_buffer h bytes r v.cells)) a)
    (ap (λ (xs : List ℕ). record { receiver = v.receiver; cells = xs; begun = Some k }) c ∙ ap (λ (x : Option Header). record { receiver = v.receiver; cells = v.cells; begun = x }) begun)
    t
