-- Rooms: the longest list of a call, over a pile and over its plain stages in a row.
use Rattle.std.specs.Prelude.{◌≡◌, ℕ, ◌≤◌, max, List, [], ◌∷◌, ◌++◌, Some, None, Option, refl}
use Rattle.std.proofs.Common.{sym, ap, ◌∙◌, arith}
use Rattle.stage.specs.Lengths.{through, longest_with}
use Rattle.stage.specs.Model.{Model, plain, pile, coded_length, message_length, code_room, decode_room}
use Rattle.stage.specs.Piles.{longest_through, lengths_outward, lengths_inward}

-- the lists so far are counted
pub room_for_these : (longest : ℕ) (o : Option ℕ) (onward : ℕ → ℕ) → longest ≤ longest_with longest o onward
room_for_these longest None onward = omega arith
room_for_these longest (Some k) onward = omega arith

-- and so are those that follow
pub room_for_next : (longest : ℕ) (o : Option ℕ) (k : ℕ) (onward : ℕ → ℕ) → o ≡ Some k → onward k ≤ longest_with longest o onward
room_for_next longest o k onward e = rw e (omega arith)

-- the given list is counted
pub given_fits_code_room : (m : Model) (n : ℕ) → n ≤ code_room m n
given_fits_code_room (plain p) n = room_for_these n (p.coded_length n) (λ k. k)
given_fits_code_room (pile a b) n =
    omega (arith, given_fits_code_room a n, room_for_these (code_room a n) (coded_length a n) (code_room b))

pub given_fits_decode_room : (m : Model) (n : ℕ) → n ≤ decode_room m n
given_fits_decode_room (plain p) n = room_for_these n (p.message_length n) (λ k. k)
given_fits_decode_room (pile a b) n =
    omega (arith, given_fits_decode_room b n, room_for_these (decode_room b n) (message_length b n) (decode_room a))

-- the length behind stages in a row
abbrev end_through : List (ℕ → Option ℕ) → ℕ → Option ℕ
end_through [] n = Some n
end_through (next ∷ rest) n = through (next n) (end_through rest)

-- a longer list before counts the same before or after
max_longest : (n longest : ℕ) (o : Option ℕ) (onward : ℕ → ℕ) → max n (longest_with longest o onward) ≡ longest_with (max n longest) o onward
max_longest n longest None onward = refl
max_longest n longest (Some k) onward = omega arith

given_fits_through : (lengths : List (ℕ → Option ℕ)) (n : ℕ) → n ≤ longest_through lengths n
given_fits_through [] n = omega arith
given_fits_through (next ∷ rest) n = room_for_these n (next n) (longest_through rest)

-- the end behind two rows
end_through_append : (ls rs : List (ℕ → Option ℕ)) (n : ℕ) → end_through (ls ++ rs) n ≡ through (end_through ls n) (end_through rs)
end_through_append [] rs n = refl
end_through_append (next ∷ ls) rs n = of (next n) (λ k. end_through_append ls rs k)
  where
    of : (o : Option ℕ) → ((k : ℕ) → end_through (ls ++ rs) k ≡ through (end_through ls k) (end_through rs)) → through o (end_through (ls ++ rs)) ≡ through (through o (end_through ls)) (end_through rs)
    of None more = refl
    of (Some k) more = more k

-- the longest list of two rows
longest_through_append : (ls rs : List (ℕ → Option ℕ)) (n : ℕ) → longest_through (ls ++ rs) n ≡ longest_with (longest_through ls n) (end_through ls n) (longest_through rs)
longest_through_append [] rs n = omega (arith, given_fits_through rs n)
longest_through_append (next ∷ ls) rs n = of (next n) (λ k. longest_through_append ls rs k)
  where
    of : (o : Option ℕ) → ((k : ℕ) → longest_through (ls ++ rs) k ≡ longest_with (longest_through ls k) (end_through ls k) (longest_through rs)) → longest_with n o (longest_through (ls ++ rs)) ≡ longest_with (longest_with n o (longest_through ls)) (through o (end_through ls)) (longest_through rs)
    of None more = refl
    of (Some k) more = ap (max n) (more k) ∙ max_longest n (longest_through ls k) (end_through ls k) (longest_through rs)

through_end : (o : Option ℕ) → through o (λ k. Some k) ≡ o
through_end None = refl
through_end (Some k) = refl

same_longest_with : (r s : ℕ) (o : Option ℕ) (f g : ℕ → ℕ) → r ≡ s → ((k : ℕ) → f k ≡ g k) → longest_with r o f ≡ longest_with s o g
same_longest_with r s None f g e h = e
same_longest_with r s (Some k) f g e h = omega (arith, h k)

same_through : (o : Option ℕ) (f g : ℕ → Option ℕ) → ((k : ℕ) → f k ≡ g k) → through o f ≡ through o g
same_through None f g h = refl
same_through (Some k) f g h = h k

-- the coded length of a stage is the length behind its plain stages in a row
coded_length_outward : (m : Model) (n : ℕ) → coded_length m n ≡ end_through (lengths_outward m) n
coded_length_outward (plain p) n = sym (through_end (p.coded_length n))
coded_length_outward (pile a b) n =
    same_through (coded_length a n) (coded_length b) (end_through (lengths_outward b)) (coded_length_outward b)
    ∙ ap (λ o. through o (end_through (lengths_outward b))) (coded_length_outward a n)
    ∙ sym (end_through_append (lengths_outward a) (lengths_outward b) n)

message_length_inward : (m : Model) (n : ℕ) → message_length m n ≡ end_through (lengths_inward m) n
message_length_inward (plain p) n = sym (through_end (p.message_length n))
message_length_inward (pile a b) n =
    same_through (message_length b n) (message_length a) (end_through (lengths_inward a)) (message_length_inward a)
    ∙ ap (λ o. through o (end_through (lengths_inward a))) (message_length_inward b n)
    ∙ sym (end_through_append (lengths_inward b) (lengths_inward a) n)

-- room for coding is the longest list through the plain stages, toward the line
pub code_room_outward : (m : Model) (n : ℕ) → code_room m n ≡ longest_through (lengths_outward m) n
code_room_outward (plain p) n = refl
code_room_outward (pile a b) n =
    same_longest_with (code_room a n) (longest_through (lengths_outward a) n) (coded_length a n) (code_room b) (longest_through (lengths_outward b)) (code_room_outward a n) (code_room_outward b)
    ∙ ap (λ o. longest_with (longest_through (lengths_outward a) n) o (longest_through (lengths_outward b))) (coded_length_outward a n)
    ∙ sym (longest_through_append (lengths_outward a) (lengths_outward b) n)

-- room for decoding is the longest list through the plain stages, from the line inward
pub decode_room_inward : (m : Model) (n : ℕ) → decode_room m n ≡ longest_through (lengths_inward m) n
decode_room_inward (plain p) n = refl
decode_room_inward (pile a b) n =
    same_longest_with (decode_room b n) (longest_through (lengths_inward b) n) (message_length b n) (decode_room a) (longest_through (lengths_inward a)) (decode_room_inward b n) (decode_room_inward a)
    ∙ ap (λ o. longest_with (longest_through (lengths_inward b) n) o (longest_through (lengths_inward a))) (message_length_inward b n)
    ∙ sym (longest_through_append (lengths_inward b) (lengths_inward a) n)
