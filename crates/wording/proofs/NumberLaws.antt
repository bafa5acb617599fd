-- A number is what `parse` gives of a text without a sign.
use Rattle.std.proofs.Common.{◌≡◌, ℕ, zero, suc, ◌<◌, Bool, true, false, not, ◌&&◌, List, [], ◌∷◌, ◌++◌, length, get_or, Some, None, Result, Ok, Err, sym, refl, ap, ◌∙◌, nat_le, ◌==◌, slice_index, arith, rules}
use Rattle.std.proofs.lemmas.Bool.{and_parts, false≢true}
use Rattle.std.proofs.lemmas.Str.{IsUtf8-from_ascii}
use Rattle.std.proofs.lemmas.Str.Parse.{FoldsDigits, IsNumeralModel, numerals_by_fold, parse_plain, tells_all_ascii_digits}
use Rattle.std.proofs.lemmas.Bool.Decides.{nat_tests}
use Rattle.std.specs.Char.{is_ascii_digit}
use Rattle.std.specs.List.{list_all}
use Rattle.std.specs.Result.{result_ok}
use Rattle.std.specs.Str.{IsUtf8, all_ascii_digits}
use Rattle.std.specs.Str.Parse.{ParsesUnsigned}
use Rattle.wording.specs.Numbers.{most, number_of, numeral, value, value_after}

folds : FoldsDigits value_after
folds = search rules

numerals : IsNumeralModel (λ ds. all_ascii_digits ds ≡ true) (value_after 0)
numerals = numerals_by_fold _ tells_all_ascii_digits value_after folds

some_number : (w : List ℕ) → 0 < length w → all_ascii_digits w ≡ true → value w < 4294967296 → number_of w ≡ Some (value w)
some_number w l d s = grind (arith, nat_tests)

no_number : (w : List ℕ) → ¬ ((all_ascii_digits w ≡ true) × (0 < length w) × (value w < 4294967296)) → number_of w ≡ None
no_number w fails = of (numeral w) refl
  where
    of : (t : Bool) → numeral w ≡ t → number_of w ≡ None
    of false q = rw q
    of true q =
        let a = and_parts (not (length w == 0)) (all_ascii_digits w && nat_le (value w) most) q in
        let b = and_parts (all_ascii_digits w) (nat_le (value w) most) a.1 in
        let some : 0 < length w = grind (arith, nat_tests) in
        let small : value w < 4294967296 = grind (arith, nat_tests) in
        absurd (fails (b.0, some, small))

ascii : (w : List ℕ) → all_ascii_digits w ≡ true → (i : ℕ) → slice_index w i < 128
ascii [] h i = omega arith
ascii (c ∷ cs) h zero = omega (arith, (tells_all_ascii_digits.parts c cs h).0.1)
ascii (c ∷ cs) h (suc i) = ascii cs (tells_all_ascii_digits.parts c cs h).1 i

-- what is no text is no number
pub no_text : (w : List ℕ) → ¬ (IsUtf8 w) → number_of w ≡ None
no_text w fails = no_number w (λ p. fails (IsUtf8-from_ascii w (ascii w p.0)))

digits_tested : (w : List ℕ) → all_ascii_digits w ≡ list_all is_ascii_digit w
digits_tested [] = refl
digits_tested (c ∷ cs) = ap (λ b. is_ascii_digit c && b) (digits_tested cs)

-- a word of digits does not begin with a sign
pub digits_no_sign : (w : List ℕ) → list_all is_ascii_digit w ≡ true → get_or w 0 0 ≡ 43 → ⊥
digits_no_sign [] d h = omega arith
digits_no_sign (c ∷ cs) d h = omega (arith, (tells_all_ascii_digits.parts c cs (digits_tested (c ∷ cs) ∙ d)).0.0, h)

-- a word with another byte is no number
pub no_digits : (w : List ℕ) → list_all is_ascii_digit w ≡ false → number_of w ≡ None
no_digits w f = no_number w (λ p. false≢true (sym f ∙ sym (digits_tested w) ∙ p.0))

pub parsed : {E : Type 0} (w : List ℕ) (r : Result ℕ E) → ParsesUnsigned 32 10 w r → (get_or w 0 0 ≡ 43 → ⊥) → result_ok r ≡ number_of w
parsed {E} w (Ok x) h plain =
    let p = parse_plain numerals {E = E} 32 w (Ok x) h plain in
    ap (λ n. Some n) p.1 ∙ sym (some_number w p.0.1 p.0.0 p.0.2)
parsed {E} w (Err e) h plain = sym (no_number w (parse_plain numerals {E = E} 32 w (Err e) h plain))
