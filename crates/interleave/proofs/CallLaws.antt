-- The turns of the loops that move bits, and what the calls come to.
use Rattle.std.proofs.Common.{◌≡◌, ℕ, ◌+◌, ◌<◌, ◌≤◌, List, length, get_or, set, sym, ap, ◌∙◌, arith, below_more, Option, Some, None, refl}
use Rattle.std.proofs.lemmas.List.{get_or-set_same, get_or-set_other}
use Rattle.std.proofs.lemmas.List.Edits.{fill_by_more}
use Rattle.stage.specs.Searches.{FirstAbove}
use Rattle.stage.specs.Lists.{same_by_places}
use Rattle.stage.specs.Agreement.{AgreesUpTo}
use Rattle.interleave.specs.Places.{OneToOne}
use Rattle.interleave.specs.Interleavings.{comes_from, moved, fetched, moving}
use Rattle.interleave.specs.MoveLaws.{source_of, length_moved, moved_at, length_fetched, fetched_at, coded_fetched_at}

-- the first bits stand where they go
abbrev pub Put : (ℕ → ℕ) → List ℕ → List ℕ → ℕ → Type 0
Put f xs coded t = (k : ℕ) → k < t → get_or coded (f k) 0 ≡ get_or xs k 0

pub put_more : (count : ℕ) (f : ℕ → ℕ) (xs coded : List ℕ) (t p bit : ℕ) → OneToOne count f → t < count → length coded ≡ count → p ≡ f t → bit ≡ get_or xs t 0 → Put f xs coded t → Put f xs (set coded p bit) (t + 1)
put_more count f xs coded t p bit h l room e value inv =
    let inside = h.inside t l in
    below_more (λ k. get_or (set coded p bit) (f k) 0 ≡ get_or xs k 0) t
    (λ k b. get_or-set_other coded p (f k) bit 0 (λ q. let same = h.apart k t (omega arith) l (q ∙ e) in omega arith) ∙ inv k b)
    (ap (λ j. get_or (set coded p bit) j 0) (sym e) ∙ get_or-set_same coded p bit 0 (omega (arith, inside, e)) ∙ value)

pub put_all : (count : ℕ) (f : ℕ → ℕ) (t : ℕ) (xs coded : List ℕ) → OneToOne count f → count ≤ t → length coded ≡ count → Put f xs coded t → coded ≡ moved count f xs
put_all count f t xs coded h most room inv =
    let lm = length_moved count f xs in
    same_by_places coded (moved count f xs) (omega arith) (λ p l.
    let there = source_of f count p h (omega arith) in
    ap (λ j. get_or coded j 0) (sym there.1) ∙ inv (comes_from f count p) (omega (arith, there.0)) ∙ sym (moved_at count f xs p (omega arith)))

-- the first bits are read from where they went
abbrev pub Fetching : (ℕ → ℕ) → List ℕ → List ℕ → ℕ → Type 0
Fetching f ys list t = (k : ℕ) → k < t → get_or list k 0 ≡ get_or ys (f k) 0

pub fetch_more : (f : ℕ → ℕ) (ys list : List ℕ) (t p : ℕ) → t < length list → p ≡ f t → Fetching f ys list t → Fetching f ys (set list t (get_or ys p 0)) (t + 1)
fetch_more f ys list t p l e inv = rw e (fill_by_more (λ k. get_or ys (f k) 0) list t 0 l inv)

-- where all elements are bits, those that are read are the message
pub fetch_all : (count : ℕ) (f : ℕ → ℕ) (ys list : List ℕ) (t : ℕ) → OneToOne count f → length ys ≡ count → length list ≡ count → count ≤ t → ((k : ℕ) → k < length ys → get_or ys k 0 ≤ 1) → Fetching f ys list t → list ≡ fetched f (length list) ys
fetch_all count f ys list t h long room most bits inv =
    same_by_places list (fetched f (length list) ys) (sym (length_fetched f (length list) ys)) (λ q l.
    omega (arith, inv q (omega arith), fetched_at f (length list) ys q l, bits (f q) (omega (arith, h.inside q (omega arith)))))

-- the nearest coding agrees as far as the elements are bits
pub agrees_to : (count n : ℕ) (f : ℕ → ℕ) (ys : List ℕ) (place : ℕ) → OneToOne count f → n ≡ count → length ys ≡ count → place ≤ length ys → ((k : ℕ) → k < place → get_or ys k 0 ≤ 1) → (place < length ys → 1 < get_or ys place 0) → AgreesUpTo (moving count f) n ys place
agrees_to count n f ys place h same long few bits stop =
    rw same (record {
      few = few;
      same = λ k l. omega (arith, coded_fetched_at count f ys k h (omega arith), bits k l);
      stop = λ l e. omega (arith, coded_fetched_at count f ys place h (omega arith), stop l, e);
    })

-- where no element is found that is none, all are bits
pub all_bits : (ys : List ℕ) (found : Option ℕ) → FirstAbove 1 ys found → ((place : ℕ) → found ≡ Some place → ⊥) → (k : ℕ) → k < length ys → get_or ys k 0 ≤ 1
all_bits ys None h none = h
all_bits ys (Some place) h none = absurd (none place refl)
