-- The stage that appends a check is sound.
use Rattle.std.specs.Prelude.{◌≡◌, ℕ, ◌+◌, ◌*◌, ◌<◌, true, List, map, length, take, drop, Some, bit_xor, slice_index, refl}
use Rattle.std.proofs.Common.{sym, ap, ◌∙◌, arith, mul-one, mul-zero}
use Rattle.std.specs.Int.Bits.{xor_zero_l, xor_zero_r}
use Rattle.std.proofs.lemmas.List.{length-append, take_at, at_drop_more}
use Rattle.stage.specs.Model.{plain, legal}
use Rattle.stage.specs.Sound.{Sound}
use Rattle.stage.specs.Lists.{value_of_some}
use Rattle.stage.specs.Legality.{legal_within, legal_length}
use Rattle.codings.specs.declared.checks.Register.{Register}
use Rattle.codings.specs.NearestBits.{nearest_bit}
use Rattle.codings.specs.Polynomials.{fed, fed_all, remainder}
use Rattle.codings.specs.Fronts.{only_length}
use Rattle.codings.specs.Checks.{message_bits, coded_bits, generator, with_check, checking, cells, shifted}
use Rattle.codings.specs.PolynomialLaws.{length_remainder, remainder_bits}
use Rattle.codings.specs.NearestBitLaws.{nearest_are_bits, within_append}
use Rattle.codings.specs.FrontLaws.{length_is, length_back, front_long, front_best}
pub use Rattle.codings.specs.NearestBitLaws.{bits_are_nearest}
pub use Rattle.codings.specs.FrontLaws.{length_legal}

-- the register's step is the division's for this generator
shifted_is : (r : Register) (bit : ℕ) → cells (shifted r bit) ≡ fed generator (cells r) bit
shifted_is r bit =
    let f = bit_xor r.x4 bit in
    let nothing : (x : ℕ) → bit_xor x (f * 0) ≡ x = λ x. ap (bit_xor x) (mul-zero f) ∙ xor_zero_r x in
    let x3 = nothing r.x3 in
    let x2 = nothing r.x2 in
    let x0 = nothing r.x0 in
    let one : f * 1 ≡ f = mul-one f in
    let last : bit_xor 0 (f * 1) ≡ f = xor_zero_l (f * 1) ∙ one in
    cc

pub divided_more : (message : List ℕ) (i : ℕ) (r next : Register) → i < length message → next ≡ shifted r (slice_index message i) → fed_all generator (cells r) (drop i message) ≡ remainder generator message → fed_all generator (cells next) (drop (i + 1) message) ≡ remainder generator message
divided_more message i r next l e inv =
    ap (λ x. fed_all generator x (drop (i + 1) message)) (ap cells e ∙ shifted_is r (slice_index message i))
    ∙ sym (at_drop_more (fed_all generator (cells r)) message i 0 l)
    ∙ inv

pub legal_is : (xs : List ℕ) → legal (plain checking) xs ≡ true → length xs ≡ message_bits
legal_is xs l =
    let v = value_of_some (only_length message_bits coded_bits (length xs)) (legal_length (plain checking) xs l) in
    (length_is message_bits coded_bits (length xs) v.0 v.1).0

pub length_with_check : (xs : List ℕ) → length xs ≡ message_bits → length (with_check xs) ≡ coded_bits
length_with_check xs e = omega (arith, length-append xs (remainder generator xs), length_remainder generator xs)

pub checking_sound : Sound checking
checking_sound =
    record {
      takes_bytes = omega arith;
      puts_bytes = omega arith;
      short_lists = λ n k h. (omega (arith, (length_is message_bits coded_bits n k h).0), omega (arith, (length_is message_bits coded_bits n k h).1));
      lengths_there = length_back message_bits coded_bits;
      lengths_back = λ n k h. length_back coded_bits message_bits k n h;
      stated_length = λ xs l. length_legal message_bits coded_bits (length xs) (legal_is xs l) ∙ ap Some (sym (length_with_check xs (legal_is xs l)));
      stated_alphabet = λ xs l. within_append 1 xs (remainder generator xs) (legal_within (plain checking) xs l) (remainder_bits generator xs refl (legal_within (plain checking) xs l));
      guess_length = λ n ys h. front_long n ys (omega (arith, (length_is message_bits coded_bits n (length ys) h).0, (length_is message_bits coded_bits n (length ys) h).1));
      guess_within = λ n ys h. nearest_are_bits (take n ys);
      guess_back = λ xs l. ap (map nearest_bit) (take_at xs (remainder generator xs) (length xs) refl) ∙ bits_are_nearest xs (legal_within (plain checking) xs l);
      guess_best = λ xs ys k l long i same. front_best (remainder generator) xs ys k (legal_within (plain checking) xs l) long i same;
    }
