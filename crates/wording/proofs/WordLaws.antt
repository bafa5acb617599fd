-- How the words of a line come one after the other.
use Rattle.std.proofs.Common.{◌≡◌, ℕ, ◌+◌, ◌<◌, Bool, true, false, cond, not, List, [], ◌∷◌, take, drop, Some, None, sym, refl, ap, ◌∙◌, one-add, arith}
use mathlib.Core.Bool.{beq}
use Rattle.wording.specs.Words.{blankness, is_blank, longer, read_word, run, words}
use Rattle.std.proofs.lemmas.Bool.{false≢true}
use Rattle.std.specs.List.{prefix_len}

-- a byte is of the kind asked for if its test agrees
same_kind : (t blanks : Bool) (b : ℕ) → t ≡ is_blank b → not (beq t blanks) ≡ false → blankness blanks b ≡ true
same_kind true true b e h = sym e
same_kind true false b e h = absurd (false≢true (sym h))
same_kind false true b e h = absurd (false≢true (sym h))
same_kind false false b e h = ap not (sym e)

other_kind : (t blanks : Bool) (b : ℕ) → t ≡ is_blank b → not (beq t blanks) ≡ true → blankness blanks b ≡ false
other_kind true true b e h = absurd (false≢true h)
other_kind true false b e h = ap not (sym e)
other_kind false true b e h = sym e
other_kind false false b e h = absurd (false≢true h)

-- one more byte of the kind counted, and the first of the other kind
pub run_goes_on : (blanks : Bool) (b : ℕ) (bs : List ℕ) → not (beq (is_blank b) blanks) ≡ false → run blanks (b ∷ bs) ≡ run blanks bs + 1
run_goes_on blanks b bs h = rw (same_kind (is_blank b) blanks b refl h) (omega arith)

pub run_is_over : (blanks : Bool) (b : ℕ) (bs : List ℕ) → not (beq (is_blank b) blanks) ≡ true → run blanks (b ∷ bs) ≡ 0
run_is_over blanks b bs h = rw (other_kind (is_blank b) blanks b refl h)

-- what stands before and behind the elements in front that pass
abbrev front : (ℕ → Bool) → List ℕ → List ℕ
front p [] = []
front p (b ∷ bs) = cond (p b) (b ∷ front p bs) []

abbrev behind : (ℕ → Bool) → List ℕ → List ℕ
behind p [] = []
behind p (b ∷ bs) = cond (p b) (behind p bs) (b ∷ bs)

take_leading : (p : ℕ → Bool) (bs : List ℕ) → take (prefix_len p bs) bs ≡ front p bs
take_leading p [] = refl
take_leading p (b ∷ bs) = of (p b) (take_leading p bs)
  where
    of : (t : Bool) → take (prefix_len p bs) bs ≡ front p bs → take (cond t (1 + prefix_len p bs) 0) (b ∷ bs) ≡ cond t (b ∷ front p bs) []
    of true e = rw (one-add (prefix_len p bs)) (ap (λ (l : List ℕ). b ∷ l) e)
    of false e = refl

drop_leading : (p : ℕ → Bool) (bs : List ℕ) → drop (prefix_len p bs) bs ≡ behind p bs
drop_leading p [] = refl
drop_leading p (b ∷ bs) = of (p b) (drop_leading p bs)
  where
    of : (t : Bool) → drop (prefix_len p bs) bs ≡ behind p bs → drop (cond t (1 + prefix_len p bs) 0) (b ∷ bs) ≡ cond t (behind p bs) (b ∷ bs)
    of true e = rw (one-add (prefix_len p bs)) e
    of false e = refl

words_behind_blanks : (bs : List ℕ) → words (behind (blankness true) bs) ≡ words bs
words_behind_blanks [] = refl
words_behind_blanks (b ∷ bs) = of (is_blank b) refl (words_behind_blanks bs)
  where
    of : (t : Bool) → is_blank b ≡ t → words (behind (blankness true) bs) ≡ words bs → words (behind (blankness true) (b ∷ bs)) ≡ words (b ∷ bs)
    of true q e = rw q e
    of false q e = simp q

-- a line that begins with a letter begins with a word
words_of_letter : (b : ℕ) (bs : List ℕ) → is_blank b ≡ false → words (b ∷ bs) ≡ (b ∷ front (blankness false) bs) ∷ words (behind (blankness false) bs)
words_of_letter b [] h = rw h
words_of_letter b (c ∷ cs) h = of (is_blank c) refl (words_of_letter c cs)
  where
    of : (t : Bool) → is_blank c ≡ t → (is_blank c ≡ false → words (c ∷ cs) ≡ (c ∷ front (blankness false) cs) ∷ words (behind (blankness false) cs)) → words (b ∷ (c ∷ cs)) ≡ (b ∷ front (blankness false) (c ∷ cs)) ∷ words (behind (blankness false) (c ∷ cs))
    of true q e = simp (h, q)
    of false q e = rw (h, q) (ap (longer b) (rw q at (e q)))

-- behind the blanks there is a letter or nothing
no_letter_behind_blanks : (bs : List ℕ) → run false (behind (blankness true) bs) ≡ 0 → behind (blankness true) bs ≡ []
no_letter_behind_blanks [] h = refl
no_letter_behind_blanks (b ∷ bs) h = of (is_blank b) refl (no_letter_behind_blanks bs) h
  where
    of : (t : Bool) → is_blank b ≡ t → (run false (behind (blankness true) bs) ≡ 0 → behind (blankness true) bs ≡ []) → run false (behind (blankness true) (b ∷ bs)) ≡ 0 → behind (blankness true) (b ∷ bs) ≡ []
    of true q e = rw q e
    of false q e = simp q (λ h. absurd (omega arith))

-- a line that begins with no blank has as many letters in front as its first word
words_of_letters : (bs : List ℕ) → 0 < run false bs → words bs ≡ take (run false bs) bs ∷ words (drop (run false bs) bs)
words_of_letters bs h = rw (take_leading (blankness false) bs, drop_leading (blankness false) bs) (from bs h)
  where
    of : (b : ℕ) (bs : List ℕ) (t : Bool) → is_blank b ≡ t → 0 < run false (b ∷ bs) → words (b ∷ bs) ≡ front (blankness false) (b ∷ bs) ∷ words (behind (blankness false) (b ∷ bs))
    of b bs true q h = absurd (omega (arith, rw q at h))
    of b bs false q h = words_of_letter b bs q ∙ rw q

    from : (bs : List ℕ) → 0 < run false bs → words bs ≡ front (blankness false) bs ∷ words (behind (blankness false) bs)
    from [] h = absurd (omega arith)
    from (b ∷ bs) h = of b bs (is_blank b) refl h

pub no_word_left : (bs : List ℕ) → run false (drop (run true bs) bs) ≡ 0 → words bs ≡ []
no_word_left bs h =
    let q = drop_leading (blankness true) bs in
    sym (words_behind_blanks bs) ∙ ap words (no_letter_behind_blanks bs (rw q at h))

pub next_word_is : (bs : List ℕ) → let t = drop (run true bs) bs in 0 < run false t → words bs ≡ take (run false t) t ∷ words (drop (run false t) t)
next_word_is bs h =
    sym (words_behind_blanks bs) ∙ ap words (sym (drop_leading (blankness true) bs)) ∙ words_of_letters (drop (run true bs) bs) h

-- what the reader finds: k blanks, then n letters
pub reads_no_word : (bs text : List ℕ) (k n : ℕ) → k ≡ run true bs → text ≡ drop k bs → n ≡ run false text → n ≡ 0 → read_word (words bs) ≡ None
reads_no_word bs text k n ek et en z =
    let t : text ≡ drop (run true bs) bs = et ∙ ap (λ j. drop j bs) ek in
    ap read_word (no_word_left bs (ap (run false) (sym t) ∙ sym en ∙ z))

pub reads_a_word : (bs text word rest : List ℕ) (k n : ℕ) → k ≡ run true bs → text ≡ drop k bs → n ≡ run false text → (n ≡ 0 → ⊥) → word ≡ take n text → rest ≡ drop n text → read_word (words bs) ≡ Some (word, words rest)
reads_a_word bs text word rest k n ek et en some ew er =
    let t : text ≡ drop (run true bs) bs = et ∙ ap (λ j. drop j bs) ek in
    let m : n ≡ run false (drop (run true bs) bs) = en ∙ ap (run false) t in
    let w : word ≡ take (run false (drop (run true bs) bs)) (drop (run true bs) bs) = ew ∙ ap (λ j. take j text) m ∙ ap (take (run false (drop (run true bs) bs))) t in
    let r : rest ≡ drop (run false (drop (run true bs) bs)) (drop (run true bs) bs) = er ∙ ap (λ j. drop j text) m ∙ ap (drop (run false (drop (run true bs) bs))) t in
    ap read_word (next_word_is bs (omega arith)) ∙ cc (w, r)
