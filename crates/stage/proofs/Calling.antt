-- The two calls, and the pile's in-place calls: what their last step leaves is what they promise.
use Rattle.std.proofs.Common.{◌≡◌, ℕ, ◌≤◌, Bool, true, false, cond, not, leb, List, length, take, is_some, Some, Ok, Err, Result, sym, refl, ap, ◌∙◌, subst, arith}
use Rattle.std.proofs.lemmas.List.{take_all, length-take, length-drop}
use Rattle.std.proofs.lemmas.Bool.{and_from, and_parts, le-leb, leb-true, cond-true}
use Rattle.stage.specs.declared.faults.ChainFault.{ChainFault}
use Rattle.stage.specs.declared.outline.Outline.{Outline}
use Rattle.stage.specs.declared.outline.Span.{Span}
use Rattle.stage.specs.declared.faults.Refusal.{Refusal}
use Rattle.stage.specs.declared.faults.Refusal.TheVariants.{TooShort, Fault, Illegal, Misfit}
use Rattle.stage.specs.Lengths.{roomy}
use Rattle.stage.specs.Model.{Model, pile, fits, legal, coding, decoding, coded_length, message_length, code_room, decode_room, outlined, code_span, takes}
use Rattle.stage.specs.Plain.{within}
use Rattle.stage.specs.Promise.{Promise}
use Rattle.stage.specs.Calls.{code_answer, decode_answer, counted, Beside, Decoded, Holds, Leaves, HasRoom}
use Rattle.stage.specs.Legality.{Fitting, legal_fits, legal_first, legal_second, legal_from_parts}
use Rattle.stage.specs.Rooms.{room_for_next}

pub roomy_enough : (room work result : ℕ) → room ≤ work → room ≤ result → roomy room work result ≡ true
roomy_enough room work result w r = and_from (leb room work) (leb room result) (le-leb room work w) (le-leb room result r)

not_not_fit : (b : Bool) → not b ≡ false → b ≡ true
not_not_fit true h = refl
not_not_fit false h = sym h

-- a test that both buffers have room
pub room_tested : (room work result : ℕ) (span : Span) (tested : Bool) → span.longest ≡ room → tested ≡ roomy span.longest work result → tested ≡ true → (room ≤ work) × (room ≤ result)
room_tested room work result span tested e t h =
    let both = and_parts (leb span.longest work) (leb span.longest result) (sym t ∙ h) in
    let w = leb-true span.longest work both.0 in
    let r = leb-true span.longest result both.1 in (omega arith, omega arith)

-- what a stage's outline and spans tell
pub outline_fits : (m : Model) (o : Outline) → o ≡ outlined m → not o.fit ≡ false → fits m ≡ true
outline_fits m o e h = sym (ap (λ (x : Outline). x.fit) e) ∙ not_not_fit o.fit h

pub outline_legal : (m : Model) (xs : List ℕ) (o : Outline) (s : Span) (tested : Bool) → o ≡ outlined m → not o.fit ≡ false → tested ≡ within o.takes xs → tested ≡ true → s ≡ code_span m (length xs) → is_some s.last ≡ true → legal m xs ≡ true
outline_legal m xs o s tested e f t yes' es l =
    let in_alphabet : within (takes m) xs ≡ true = ap (λ (x : Outline). within x.takes xs) (sym e) ∙ sym t ∙ yes' in
    let has_length : is_some (coded_length m (length xs)) ≡ true = ap (λ (x : Span). is_some x.last) (sym es) ∙ l in
    legal_from_parts m xs (outline_fits m o e f) in_alphabet has_length

-- a list that is copied to the front of a buffer is what stands there
pub copied_whole : (list buffer : List ℕ) → take (length list) buffer ≡ take (length list) list → take (length list) buffer ≡ list
copied_whole list buffer e = e ∙ take_all (length list) list (omega arith)

-- a front that a buffer is long enough for has the length asked for
front_length : (buffer xs : List ℕ) (n : ℕ) → Holds buffer n xs → n ≡ length xs
front_length buffer xs n h = omega (arith, length-take n buffer, ap length h.front, h.long)

pub beside : (n : ℕ) (work result work' result' : List ℕ) → n ≤ length result' → length work' ≡ length work → length result' ≡ length result → Beside n work result work' result'
beside n work result work' result' l w r =
    record { inside = omega arith; behind = omega (arith, length-drop n result, length-drop n result'); scratch = w }

-- the answer of a coding that was carried out
pub code_answered : (m : Model) (list buffer result' : List ℕ) (n work result : ℕ) → legal m list ≡ true → code_room m (length list) ≤ work → code_room m (length list) ≤ result → take (length list) buffer ≡ list → Holds result' n (coding m (take (length list) buffer)) → Ok n ≡ code_answer m list work result
code_answered m list buffer result' n work result l w r e h =
    let long : n ≡ length (coding m list) = front_length result' (coding m (take (length list) buffer)) n h ∙ ap (λ xs. length (coding m xs)) e in
    sym (
    cond-true (fits m) _ _ (legal_fits m list l)
    ∙ cond-true (legal m list) _ _ l
    ∙ cond-true (roomy (code_room m (length list)) work result) _ _ (roomy_enough (code_room m (length list)) work result w r)
    ∙ ap Ok (sym long)
    )

-- the answer of a decoding that was carried out
decode_comes_to : (m : Model) (list : List ℕ) (work result : ℕ) (answer : Result (List ℕ) ChainFault) → fits m ≡ true → decode_room m (length list) ≤ work → decode_room m (length list) ≤ result → decoding m list ≡ answer → decode_answer m list work result ≡ counted answer
decode_comes_to m list work result answer f w r h =
    cond-true (fits m) _ _ f
    ∙ cond-true (roomy (decode_room m (length list)) work result) _ _ (roomy_enough (decode_room m (length list)) work result w r)
    ∙ ap counted h

pub decode_answered : (m : Model) (list result' : List ℕ) (n work result : ℕ) → fits m ≡ true → decode_room m (length list) ≤ work → decode_room m (length list) ≤ result → decoding m list ≡ Ok (take n result') → n ≤ length result' → Ok n ≡ decode_answer m list work result
decode_answered m list result' n work result f w r h l =
    let long : length (take n result') ≡ n = omega (arith, length-take n result') in
    sym (decode_comes_to m list work result (Ok (take n result')) f w r h ∙ ap Ok long)

pub decode_refused : (m : Model) (list : List ℕ) (fault : ChainFault) (work result : ℕ) → fits m ≡ true → decode_room m (length list) ≤ work → decode_room m (length list) ≤ result → decoding m list ≡ Err fault → Err (Fault fault) ≡ decode_answer m list work result
decode_refused m list fault work result f w r h = sym (decode_comes_to m list work result (Err fault) f w r h)

-- after a fault both buffers are working memory
pub fault_leaves : (answer : Result (List ℕ) ChainFault) (r : Result ℕ Refusal) (fault : ChainFault) (work result work' result' : List ℕ) → r ≡ Err (Fault fault) → length work' ≡ length work → length result' ≡ length result → Decoded answer r work result work' result'
fault_leaves answer r fault work result work' result' e w l =
    subst (λ (x : Result ℕ Refusal). Decoded answer x work result work' result') (sym e) (w, l)

-- what the first member's coding leaves is legal for the second
pub middle_legal : (a b : Model) (given buffer : List ℕ) (n : ℕ) → Fitting a b → Promise a → legal (pile a b) given ≡ true → Holds buffer n (coding a given) → legal b (take n buffer) ≡ true
middle_legal a b given buffer n f pa l h =
    subst (λ (zs : List ℕ). legal b zs ≡ true) (sym h.front) (legal_second a b given f pa l)

-- and there is room for the second's lists
pub middle_code_room : (a b : Model) (given buffer : List ℕ) (n room : ℕ) → Fitting a b → Promise a → legal (pile a b) given ≡ true → Holds buffer n (coding a given) → code_room (pile a b) (length given) ≤ room → code_room b n ≤ room
middle_code_room a b given buffer n room f pa l h r =
    let e = pa.stated_length given (legal_first a b given f l) in
    let next = room_for_next (code_room a (length given)) (coded_length a (length given)) (length (coding a given)) (code_room b) e in
    let long = front_length buffer (coding a given) n h in
    let same : code_room b n ≡ code_room b (length (coding a given)) = ap (code_room b) long in omega arith

-- behind the second member's decoding there is room for the first's lists
pub middle_decode_room : (a b : Model) (given buffer : List ℕ) (n room : ℕ) → Promise b → decoding b given ≡ Ok (take n buffer) → n ≤ length buffer → decode_room (pile a b) (length given) ≤ room → decode_room a n ≤ room
middle_decode_room a b given buffer n room pb h l r =
    let back = pb.nothing_else given (take n buffer) h in
    let there = pb.stated_length (take n buffer) back.is_legal in
    let known = pb.lengths_there (length (take n buffer)) (length (coding b (take n buffer))) there in
    let e : message_length b (length given) ≡ Some (length (take n buffer)) = ap (λ zs. message_length b (length zs)) (sym back.is_coding) ∙ known in
    let next = room_for_next (decode_room b (length given)) (message_length b (length given)) (length (take n buffer)) (decode_room a) e in
    let same : decode_room a (length (take n buffer)) ≡ decode_room a n = ap (decode_room a) (omega (arith, length-take n buffer)) in omega arith

pub room_behind : (a b : Model) (given work buffer : List ℕ) (r : Result ℕ ChainFault) → Promise b → decode_room (pile a b) (length given) ≤ length work → decode_room (pile a b) (length given) ≤ length buffer → Leaves (decoding b given) r buffer → HasRoom a r work buffer
room_behind a b given work buffer (Ok n) pb w l h =
    (middle_decode_room a b given buffer n (length work) pb h.0 h.1 w, middle_decode_room a b given buffer n (length buffer) pb h.0 h.1 l)
room_behind a b given work buffer (Err f) pb w l h = tt

-- for a caller: a coding that was answered is of a legal list, and as long as the answer says
pub answered_means_legal : (m : Model) (list : List ℕ) (n work result : ℕ) → Ok n ≡ code_answer m list work result → (legal m list ≡ true) × (n ≡ length (coding m list))
answered_means_legal m list n work result h =
    of (fits m) (legal m list) (roomy (code_room m (length list)) work result) refl h
  where
    of : (f l r : Bool) → legal m list ≡ l → Ok n ≡ cond f (cond l (cond r (Ok (length (coding m list))) (Err TooShort)) (Err Illegal)) (Err Misfit) → (legal m list ≡ true) × (n ≡ length (coding m list))
    of true true true e a = (e, (cc))
    of true true false e a = let z : ◌≡◌ {A = ℕ} 0 1 = cc in absurd (omega arith)
    of true false r e a = let z : ◌≡◌ {A = ℕ} 0 1 = cc in absurd (omega arith)
    of false l r e a = let z : ◌≡◌ {A = ℕ} 0 1 = cc in absurd (omega arith)

-- for a caller: what was coded and then decoded is the list again
pub decoded_again : (m : Model) (list line message : List ℕ) → (fits m ≡ true → Promise m) → legal m list ≡ true → line ≡ coding m list → decoding m line ≡ Ok message → message ≡ list
decoded_again m list line message keeps l e h =
    let back : decoding m line ≡ Ok list = ap (decoding m) e ∙ (keeps (legal_fits m list l)).taken_back list l in cc
