-- Readings of numbers, lists and headers.
use Rattle.std.specs.Prelude.{ℕ, List, [], ◌∷◌, Some, None, Option}
use Rattle.frame.specs.declared.headers.Header.{Header}
use Rattle.wording.specs.Hexes.{list_of}
use Rattle.wording.specs.Numbers.{number_of}
use Rattle.wording.specs.Words.{read_word}

module _ {A B : Type 0} where
  -- One reading, and then something that goes by what it gave and by the words behind it.
  abbrev pub then_read : Option (A × List (List ℕ)) → (A → List (List ℕ) → Option B) → Option B
  then_read None f = None
  then_read (Some p) f = f p.0 p.1

-- The value that a word has, if it has one, and the words behind it.
abbrev pub with_rest : {A : Type 0} → Option A → List (List ℕ) → Option (A × List (List ℕ))
with_rest None ws = None
with_rest (Some a) ws = Some (a, ws)

-- A word that is a number.
abbrev pub read_number : List (List ℕ) → Option (ℕ × List (List ℕ))
read_number ws = then_read (read_word ws) (λ w rest. with_rest (number_of w) rest)

-- A word that is a list.
abbrev pub read_list : List (List ℕ) → Option (List ℕ × List (List ℕ))
read_list ws = then_read (read_word ws) (λ w rest. with_rest (list_of w) rest)

-- Five numbers: PDC, MOD, FL, TM and DT.
abbrev pub read_header : List (List ℕ) → Option (Header × List (List ℕ))
read_header ws =
    then_read (read_number ws)
    (λ pdc ws1. then_read (read_number ws1)
    (λ mo ws2. then_read (read_number ws2)
    (λ fl ws3. then_read (read_number ws3)
    (λ tm ws4. then_read (read_number ws4)
    (λ dt ws5. Some (record { pdc = pdc; modulation = mo; fl = fl; tm = tm; dt = dt }, ws5))))))

-- A value is what the line asks for only if no word stands behind it.
abbrev pub nothing_behind : {A : Type 0} → A → List (List ℕ) → Option A
nothing_behind a [] = Some a
nothing_behind a (w ∷ ws) = None
