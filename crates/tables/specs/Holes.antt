-- What the holes of five places write is columns.
use Rattle.std.proofs.Common.{◌≡◌, ℕ, false, zero, suc, ◌-◌, ◌^◌, List, [], ◌∷◌, ◌++◌, length, replicate, codes, decimal, refl, sym, ap, ◌∙◌, append_assoc, arith}
use Rattle.std.specs.Char.{encode_utf8}
use Rattle.std.specs.Fmt.{char_count, fill_after_digits, format_spec, number_padding, padded, padded_integral, styled_decimal, styled_text, take_chars}
use Rattle.std.specs.List.{repeat}
use Rattle.std.proofs.lemmas.List.{append-nil}
use Rattle.tables.specs.Columns.{with_number, with_text}

blanks : (n : ℕ) → repeat {A = ℕ} n (32 ∷ []) ≡ replicate n 32
blanks zero = refl
blanks (suc n) = ap (λ zs. 32 ∷ zs) (blanks n)

-- a number with blanks before it, and no sign, no prefix, no zeros and nothing behind
filled : (before after : ℕ) (digits : List ℕ) → before ≡ 5 - length digits → after ≡ 0
    → (((repeat before (32 ∷ []) ++ []) ++ []) ++ []) ++ (digits ++ repeat after (32 ∷ [])) ≡ replicate (5 - length digits) 32 ++ digits
filled before after digits b a = rw (a, b) (simp (append-nil, blanks))

number : (n : ℕ) → styled_decimal (format_spec 32 3 0 5 (2 ^ 64 - 1)) n ≡ replicate (5 - length (decimal n)) 32 ++ decimal n
unfolding padded_integral char_count encode_utf8
number n =
    let five = format_spec 32 3 0 5 (2 ^ 64 - 1) in
    filled (number_padding five false [] (length (decimal n))) (fill_after_digits five false [] (length (decimal n))) (decimal n) (omega arith) (omega arith)

dash : styled_text (format_spec 32 3 0 5 (2 ^ 64 - 1)) (codes "-") ≡ replicate 4 32 ++ codes "-"
unfolding padded char_count take_chars encode_utf8
dash = refl

pub number_column : {s : _} (line : List ℕ) (n : ℕ) → s ≡ format_spec 32 3 0 5 (2 ^ 64 - 1) → line ++ styled_decimal s n ≡ with_number line n
number_column line n e =
    ap (λ t. line ++ styled_decimal t n) e
    ∙ ap (λ zs. line ++ zs) (number n)
    ∙ sym (append_assoc line (replicate (5 - length (decimal n)) 32) (decimal n))

pub number_columns : {s t : _} (line : List ℕ) (m n : ℕ) → s ≡ format_spec 32 3 0 5 (2 ^ 64 - 1) → t ≡ format_spec 32 3 0 5 (2 ^ 64 - 1)
    → line ++ (styled_decimal s m ++ styled_decimal t n) ≡ with_number (with_number line m) n
number_columns {s} {t} line m n e f =
    sym (append_assoc line (styled_decimal s m) (styled_decimal t n))
    ∙ ap (λ zs. zs ++ styled_decimal t n) (number_column line m e)
    ∙ number_column (with_number line m) n f

pub dash_columns : {s t : _} (line : List ℕ) → s ≡ format_spec 32 3 0 5 (2 ^ 64 - 1) → t ≡ format_spec 32 3 0 5 (2 ^ 64 - 1)
    → line ++ (styled_text s (codes "-") ++ styled_text t (codes "-")) ≡ with_text (with_text line (codes "-")) (codes "-")
dash_columns {s} {t} line e f =
    let first = ap (λ u. styled_text u (codes "-")) e ∙ dash in
    let second = ap (λ u. styled_text u (codes "-")) f ∙ dash in
    ap (λ zs. line ++ (zs ++ styled_text t (codes "-"))) first
    ∙ ap (λ zs. line ++ ((replicate 4 32 ++ codes "-") ++ zs)) second
    ∙ simp append_assoc
