-- A pile of two stages that keep the promise and fit keeps it too, and the law of piles.
use Rattle.std.specs.Prelude.{◌≡◌, ℕ, ◌+◌, ◌≤◌, true, List, ◌++◌, length, Some, None, Ok, Err, Option, Result, refl}
use Rattle.std.proofs.Common.{sym, ap, subst, ◌∙◌, inl, inr, arith}
use Rattle.stage.specs.declared.faults.StageFault.{StageFault}
use Rattle.stage.specs.declared.faults.ChainFault.{ChainFault}
use Rattle.stage.specs.Lengths.{through}
use Rattle.stage.specs.Model.{Model, pile, fits, members, deepened, inward, decoding, coding, coded_length, message_length, longest_list, legal}
use Rattle.stage.specs.Promise.{Promise, Codes, Passes, Stops, from_the_line}
use Rattle.stage.specs.Piles.{PileLaw}
use Rattle.stage.specs.Legality.{Fitting, fitting, legal_first, legal_second, legal_pile}
use Rattle.stage.specs.Rooms.{code_room_outward, decode_room_inward}
use Rattle.stage.specs.Decodings.{inward_accepts, FirstRefuses, inward_refuses, depth_below_members, members_in_a_row, passes_both, stops_in_first_row, stops_in_second_row}

-- a length behind two stages goes through a length between them
through_both : (o : Option ℕ) (next : ℕ → Option ℕ) (k : ℕ) → through o next ≡ Some k → (j : ℕ) × ((o ≡ Some j) × (next j ≡ Some k))
through_both (Some j) next k h = (j, (refl, h))
through_both None next k h = let z : ◌≡◌ {A = ℕ} 0 1 = cc in absurd (omega arith)

short_pile : (a b : Model) → Promise a → Promise b → (n k : ℕ) → coded_length (pile a b) n ≡ Some k → (n ≤ longest_list) × (k ≤ longest_list)
short_pile a b pa pb n k h =
    let t = through_both (coded_length a n) (coded_length b) k h in
    ((pa.short_lists n t.0 t.1.0).0, (pb.short_lists t.0 k t.1.1).1)

lengths_there_pile : (a b : Model) → Promise a → Promise b → (n k : ℕ) → coded_length (pile a b) n ≡ Some k → message_length (pile a b) k ≡ Some n
lengths_there_pile a b pa pb n k h =
    let t = through_both (coded_length a n) (coded_length b) k h in
    ap (λ o. through o (message_length a)) (pb.lengths_there t.0 k t.1.1) ∙ pa.lengths_there n t.0 t.1.0

lengths_back_pile : (a b : Model) → Promise a → Promise b → (n k : ℕ) → message_length (pile a b) k ≡ Some n → coded_length (pile a b) n ≡ Some k
lengths_back_pile a b pa pb n k h =
    let t = through_both (message_length b k) (message_length a) n h in
    ap (λ o. through o (coded_length b)) (pa.lengths_back n t.0 t.1.1) ∙ pb.lengths_back t.0 k t.1.0

taken_back_pile : (a b : Model) (xs : List ℕ) → Promise a → Promise b → legal a xs ≡ true → legal b (coding a xs) ≡ true → decoding (pile a b) (coding b (coding a xs)) ≡ Ok xs
taken_back_pile a b xs pa pb la lb =
    ap (λ r. inward (members b) r (decoding a)) (pb.taken_back (coding a xs) lb) ∙ ap (deepened (members b)) (pa.taken_back xs la)

nothing_else_pile : (a b : Model) (ys xs : List ℕ) → fits (pile a b) ≡ true → Promise a → Promise b → decoding (pile a b) ys ≡ Ok xs → Codes (pile a b) xs ys
nothing_else_pile a b ys xs f pa pb h =
    let t = inward_accepts (members b) (decoding b ys) (decoding a) xs h in
    let near = pb.nothing_else ys t.0 t.1.near in
    let far = pa.nothing_else t.0 xs t.1.far in
    record {
      is_legal = legal_pile a b xs f pa far.is_legal (subst (λ (zs : List ℕ). legal b zs ≡ true) (sym far.is_coding) near.is_legal);
      is_coding = ap (coding b) far.is_coding ∙ near.is_coding;
    }

passes_pile : (a b : Model) (ys xs : List ℕ) → Promise a → Promise b → decoding (pile a b) ys ≡ Ok xs → Passes (from_the_line b ++ from_the_line a) ys xs
passes_pile a b ys xs pa pb h =
    let t = inward_accepts (members b) (decoding b ys) (decoding a) xs h in
    passes_both (from_the_line b) (from_the_line a) ys t.0 xs (pb.passes ys t.0 t.1.near) (pa.passes t.0 xs t.1.far)

-- where the first member refuses, all of the second's plain stages stand nearer the line
first_stops : (a b : Model) (ys ms : List ℕ) (f g : ChainFault) → Fitting a b → Promise a → Promise b → FirstRefuses ms g (members b) (decoding b ys) (decoding a) f → Stops (from_the_line b ++ from_the_line a) ys f.fault f.depth
first_stops a b ys ms f g fit pa pb r =
    let row = stops_in_second_row (from_the_line b) (from_the_line a) ys ms g.fault g.depth (pb.passes ys ms r.near) (pa.stops ms g r.far) in
    let few = depth_below_members a ms g r.far in
    let row_long = members_in_a_row b in
    let here : g.depth + length (from_the_line b) ≡ f.depth = omega (arith, fit.few, ap (λ (x : ChainFault). x.depth) r.deeper) in
    let deep = subst (λ (k : ℕ). Stops (from_the_line b ++ from_the_line a) ys g.fault k) here row in
    subst (λ (s : StageFault). Stops (from_the_line b ++ from_the_line a) ys s f.depth) (sym (ap (λ (x : ChainFault). x.fault) r.deeper)) deep

stops_pile : (a b : Model) (ys : List ℕ) (f : ChainFault) → Fitting a b → Promise a → Promise b → decoding (pile a b) ys ≡ Err f → Stops (from_the_line b ++ from_the_line a) ys f.fault f.depth
stops_pile a b ys f fit pa pb h =
    elim (inward_refuses (members b) (decoding b ys) (decoding a) f h) [
      | inl e ↦ stops_in_first_row (from_the_line b) (from_the_line a) ys f.fault f.depth (pb.stops ys f e)
      | inr e ↦ first_stops a b ys e.0 f e.1.0 fit pa pb e.1.1
    ]

pub pile_keeps : (a b : Model) → Promise a → Promise b → fits (pile a b) ≡ true → Promise (pile a b)
pile_keeps a b pa pb f =
    let fit = fitting a b f in
    record {
      takes_bytes = pa.takes_bytes;
      puts_bytes = pb.puts_bytes;
      short_lists = short_pile a b pa pb;
      lengths_there = lengths_there_pile a b pa pb;
      lengths_back = lengths_back_pile a b pa pb;
      stated_length = λ xs h. ap (λ o. through o (coded_length b)) (pa.stated_length xs (legal_first a b xs fit h)) ∙ pb.stated_length (coding a xs) (legal_second a b xs fit pa h);
      stated_alphabet = λ xs h. pb.stated_alphabet (coding a xs) (legal_second a b xs fit pa h);
      taken_back = λ xs h. taken_back_pile a b xs pa pb (legal_first a b xs fit h) (legal_second a b xs fit pa h);
      nothing_else = λ ys xs h. nothing_else_pile a b ys xs f pa pb h;
      passes = λ ys xs h. passes_pile a b ys xs pa pb h;
      stops = λ ys g h. stops_pile a b ys g fit pa pb h;
    }

-- a stage that keeps the promise accepts exactly its codings
pub coding_accepted : (m : Model) (ys xs : List ℕ) → Promise m → Codes m xs ys → decoding m ys ≡ Ok xs
coding_accepted m ys xs p c = ap (decoding m) (sym c.is_coding) ∙ p.taken_back xs c.is_legal

pub fault_has_no_coding : (m : Model) (ys xs : List ℕ) (f : ChainFault) → Promise m → decoding m ys ≡ Err f → Codes m xs ys → ⊥
fault_has_no_coding m ys xs f p h c =
    let e = coding_accepted m ys xs p c in
    let z : ◌≡◌ {A = ℕ} 0 1 = cc in omega arith

pub no_coding_is_refused : (m : Model) (ys : List ℕ) → Promise m → ((xs : List ℕ) → Codes m xs ys → ⊥) → (f : ChainFault) × (decoding m ys ≡ Err f)
no_coding_is_refused m ys p none = of (decoding m ys) refl
  where
    of : (r : Result (List ℕ) ChainFault) → decoding m ys ≡ r → (f : ChainFault) × (decoding m ys ≡ Err f)
    of (Ok xs) e = absurd (none xs (p.nothing_else ys xs e))
    of (Err f) e = (f, e)

pub law_of_piles : (a b : Model) → Promise a → Promise b → fits (pile a b) ≡ true → PileLaw a b
law_of_piles a b pa pb f =
    let fit = fitting a b f in
    let both = pile_keeps a b pa pb f in
    record {
      promise = both;
      lengths = λ n. refl;
      codings = λ xs. refl;
      legal_both = λ xs h. (legal_first a b xs fit h, legal_second a b xs fit pa h);
      legal_from = λ xs la lb. legal_pile a b xs f pa la lb;
      accepts = both.nothing_else;
      accepted = λ ys xs c. coding_accepted (pile a b) ys xs both c;
      refuses = λ ys g h xs c. fault_has_no_coding (pile a b) ys xs g both h c;
      refused = λ ys none. no_coding_is_refused (pile a b) ys both none;
      stops = both.stops;
      count = members_in_a_row (pile a b);
      code_rooms = code_room_outward (pile a b);
      decode_rooms = decode_room_inward (pile a b);
    }
