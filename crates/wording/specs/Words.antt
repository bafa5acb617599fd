-- The words of a line, and what it is to read from them.
use Rattle.std.specs.Prelude.{◌≡◌, ℕ, Bool, true, false, cond, not, ◌||◌, List, [], ◌∷◌, Some, None, Option, ◌==◌}
use Rattle.wording.specs.declared.words.Words.{Words}
use Rattle.std.specs.List.{prefix_len}

-- A blank is a space or a tab.
abbrev pub is_blank : ℕ → Bool
is_blank b = b == 32 || b == 9

-- Whether a line ends here or goes on with a blank.
abbrev pub at_end : List ℕ → Bool
at_end [] = true
at_end (b ∷ bs) = is_blank b

-- The first word with one more byte in front.
abbrev pub longer : ℕ → List (List ℕ) → List (List ℕ)
longer b [] = []
longer b (w ∷ ws) = (b ∷ w) ∷ ws

-- The words of a line: its longest runs of bytes that are no blanks, in order.
abbrev pub words : List ℕ → List (List ℕ)
words [] = []
words (b ∷ bs) = cond (is_blank b) (words bs) (cond (at_end bs) ((b ∷ []) ∷ words bs) (longer b (words bs)))

-- Whether a byte is a blank, or whether it is none.
abbrev pub blankness : Bool → ℕ → Bool
blankness true b = is_blank b
blankness false b = not (is_blank b)

-- How many bytes in front are blanks, or are none.
abbrev pub run : Bool → List ℕ → ℕ
run blanks bs = prefix_len (blankness blanks) bs

-- The words that a reader of a line has not read yet.
abbrev pub unread : Words → List (List ℕ)
unread w = words w.rest.now

-- A reading takes some words away from the front and gives a value, or fails. What a call read is what the reading says, and it left the words that the reading leaves.
abbrev pub Reads : {A : Type 0} → (List (List ℕ) → Option (A × List (List ℕ))) → List (List ℕ) → Option A → List (List ℕ) → Type 0
Reads f before (Some a) after = f before ≡ Some (a, after)
Reads f before None after = f before ≡ None

-- The next word.
abbrev pub read_word : List (List ℕ) → Option (List ℕ × List (List ℕ))
read_word [] = None
read_word (w ∷ ws) = Some (w, ws)
