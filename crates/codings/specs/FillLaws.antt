-- The stage that fills up with zeros is sound, and what its steps come to.
use Rattle.std.specs.Prelude.{◌≡◌, ℕ, ◌-◌, ◌<◌, ◌≤◌, true, List, map, length, take, replicate, Some, None, Option, nat_le, refl}
use Rattle.std.proofs.Common.{sym, ap, ◌∙◌, arith}
use Rattle.std.proofs.lemmas.List.{length-append, length-replicate, get_or-replicate, take_at}
use Rattle.std.proofs.lemmas.Bool.{and_parts, leb-true}
use Rattle.stage.specs.Plain.{within}
use Rattle.stage.specs.Model.{plain, legal}
use Rattle.stage.specs.Sound.{Sound}
use Rattle.stage.specs.Lists.{value_of_some, within_from}
use Rattle.stage.specs.Legality.{legal_within, legal_length}
use Rattle.stage.specs.Searches.{FirstAbove, FirstDifference}
use Rattle.codings.specs.NearestBits.{nearest_bit}
use Rattle.codings.specs.Fronts.{only_length}
use Rattle.codings.specs.Fills.{most_filled, fillable, filled, filling}
use Rattle.codings.specs.NearestBitLaws.{nearest_are_bits, bits_are_nearest, within_append}
use Rattle.codings.specs.FrontLaws.{length_is, length_legal, length_back, front_long, front_best}

pub fillable_is : (bits total : ℕ) → fillable bits total ≡ true → (bits ≤ total) × (total ≤ most_filled)
fillable_is bits total h =
    let parts = and_parts (nat_le bits total) (nat_le total most_filled) h in
    (leb-true bits total parts.0, leb-true total most_filled parts.1)

pub legal_many : (bits total : ℕ) (xs : List ℕ) → legal (plain (filling bits total)) xs ≡ true → length xs ≡ bits
legal_many bits total xs l =
    let v = value_of_some (only_length bits total (length xs)) (legal_length (plain (filling bits total)) xs l) in
    (length_is bits total (length xs) v.0 v.1).0

pub length_filled : (bits total : ℕ) (xs : List ℕ) → bits ≤ total → length xs ≡ bits → length (filled bits total xs) ≡ total
length_filled bits total xs l e =
    omega (arith, length-append {A = ℕ} xs (replicate (total - bits) 0), length-replicate {A = ℕ} (total - bits) 0)

zeros_are_bits : (n : ℕ) → within 1 (replicate n 0) ≡ true
zeros_are_bits n =
    within_from 1 (replicate n 0) (λ i h. omega (arith, get_or-replicate {A = ℕ} n i 0 0 (omega (arith, length-replicate {A = ℕ} n 0))))

pub filling_sound : (bits total : ℕ) → fillable bits total ≡ true → Sound (filling bits total)
filling_sound bits total range =
    let r = fillable_is bits total range in
    record {
      takes_bytes = omega arith;
      puts_bytes = omega arith;
      short_lists = λ n k h. (omega (arith, (length_is bits total n k h).0, r.0, r.1), omega (arith, (length_is bits total n k h).1, r.1));
      lengths_there = λ n k h. length_back bits total n k h;
      lengths_back = λ n k h. length_back total bits k n h;
      stated_length = λ xs l.
          let e = legal_many bits total xs l in
          length_legal bits total (length xs) e ∙ ap Some (sym (length_filled bits total xs r.0 e));
      stated_alphabet = λ xs l.
          within_append 1 xs (replicate (total - bits) 0) (legal_within (plain (filling bits total)) xs l) (zeros_are_bits (total - bits));
      guess_length = λ n ys h.
          front_long n ys (omega (arith, (length_is bits total n (length ys) h).0, (length_is bits total n (length ys) h).1, r.0));
      guess_within = λ n ys h. nearest_are_bits (take n ys);
      guess_back = λ xs l.
          ap (map nearest_bit) (take_at xs (replicate (total - bits) 0) (length xs) refl) ∙ bits_are_nearest xs (legal_within (plain (filling bits total)) xs l);
      guess_best = λ xs ys k l long i same.
          front_best (λ _. replicate (total - bits) 0) xs ys k (legal_within (plain (filling bits total)) xs l) long i same;
    }

-- the zeros behind the bits, and the first element that is none
pub no_zero_found : (zeros : ℕ) (behind : List ℕ) (r : Option ℕ) → length behind ≡ zeros → FirstAbove 0 behind r → FirstDifference (replicate zeros 0) behind r
no_zero_found zeros behind None e f = λ k h.
    let s : k < zeros = omega (arith, length-replicate {A = ℕ} zeros 0) in
    omega (arith, get_or-replicate {A = ℕ} zeros k 0 0 s, f k (omega arith))
no_zero_found zeros behind (Some place) e f = (
  omega (arith, f.0, length-replicate {A = ℕ} zeros 0),
  λ k h. omega (arith, get_or-replicate {A = ℕ} zeros k 0 0 (omega (arith, f.0)), f.1 k h),
  λ same. omega (arith, get_or-replicate {A = ℕ} zeros place 0 0 (omega (arith, f.0)), f.2),
)
