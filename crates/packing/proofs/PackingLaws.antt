-- Packing loses nothing.
use Rattle.std.proofs.Common.{◌≡◌, ℕ, Bool, true, false, cond, eqb, List, length, take, Some, None, Ok, Err, Option, Result, sym, refl, ap, ◌∙◌, arith}
use Rattle.std.proofs.lemmas.Bool.{eqb-true}
use Rattle.stage.specs.declared.faults.ChainFault.{ChainFault}
use Rattle.stage.specs.Model.{plain, coding, decoding}
use Rattle.stage.specs.Plain.{within}
use Rattle.codings.specs.Unpackers.{unpacking}
use Rattle.frame.specs.declared.headers.Header.{Header}
use Rattle.frame.specs.declared.refusals.Refusal.{Refusal}
use Rattle.frame.specs.Answers.{Legal, refusal}
use Rattle.packing.specs.declared.refusals.UnpackRefusal.TheVariants.{NotFiveBytes}
use Rattle.packing.specs.Bits.{header_bits, header_from}
use Rattle.packing.specs.Laws.{Packing_loses_nothing}
use Rattle.packing.specs.Packings.{bytes_of, fault_in, header_in, header_word, packed, unpack_answer, unpack_checked, unpack_unless}
use Rattle.packing.proofs.ByteLaws.{bytes_again, bytes_are_bytes, header_bits_in, header_in_is, header_in_range, word_again}
use Rattle.packing.proofs.HeaderBits.{header_from_legal, none_beyond}
use Rattle.packing.proofs.WordLaws.{front_of_word, legal_bits, length_word, word_bits, word_keeps}

word_long : (h : Header) → length (coding (plain header_word) (header_bits h)) ≡ 40
word_long h = length_word (header_bits h) (legal_bits h)

-- the bits of a header's bytes are its word
packed_unpacked : (h : Header) → coding (plain unpacking) (packed h) ≡ coding (plain header_word) (header_bits h)
packed_unpacked h = word_again (coding (plain header_word) (header_bits h)) (word_long h) (word_bits h)

packed_within : (h : Header) → within 255 (packed h) ≡ true
packed_within h = bytes_are_bytes (coding (plain header_word) (header_bits h)) (word_long h) (word_bits h)

-- the header is in its bytes
header_in_packed : (h : Header) → Legal h → header_in (packed h) ≡ h
header_in_packed h l =
    header_in_is (packed h) refl (packed_within h)
    ∙ ap (λ word. header_from (take 28 word)) (packed_unpacked h)
    ∙ ap header_from (front_of_word (header_bits h) (legal_bits h))
    ∙ header_from_legal h l

unpacked_again : (h : Header) → Legal h → unpack_answer (packed h) ≡ Ok h
unpacked_again h l =
    let no_fault : fault_in (decoding (plain header_word) (coding (plain unpacking) (packed h))) ≡ None =
    ap (λ word. fault_in (decoding (plain header_word) word)) (packed_unpacked h)
    ∙ ap fault_in (word_keeps.taken_back (header_bits h) (legal_bits h)) in
    ap (λ o. unpack_checked o (header_in (packed h))) no_fault
    ∙ ap (λ g. unpack_unless (refusal g) g) (header_in_packed h l)
    ∙ ap (λ o. unpack_unless o h) l

-- what an answer with a header says of the bytes
record Accepted (bytes : List ℕ) (h : Header) : Type 0 where
  five : length bytes ≡ 5
  message : List ℕ
  decoded : decoding (plain header_word) (coding (plain unpacking) bytes) ≡ Ok message
  is_legal : Legal (header_in bytes)
  is_header : header_in bytes ≡ h

unless_refused : (o : Option Refusal) (g h : Header) → unpack_unless o g ≡ Ok h → (o ≡ None) × (g ≡ h)
unless_refused None g h e = (refl, (cc))
unless_refused (Some r) g h e = let z : ◌≡◌ {A = ℕ} 0 1 = cc in absurd (omega arith)

accepted : (bytes : List ℕ) (h : Header) → unpack_answer bytes ≡ Ok h → Accepted bytes h
accepted bytes h e = of (eqb (length bytes) 5) (decoding (plain header_word) (coding (plain unpacking) bytes)) refl refl e
  where
    of : (five : Bool) (decoded : Result (List ℕ) ChainFault) → eqb (length bytes) 5 ≡ five → decoding (plain header_word) (coding (plain unpacking) bytes) ≡ decoded
        → cond five (unpack_checked (fault_in decoded) (header_in bytes)) (Err NotFiveBytes) ≡ Ok h → Accepted bytes h
    of true (Ok bits) ef ed a =
        let t = unless_refused (refusal (header_in bytes)) (header_in bytes) h a in
        record { five = eqb-true (length bytes) 5 ef; message = bits; decoded = ed; is_legal = t.0; is_header = t.1 }
    of true (Err f) ef ed a = let z : ◌≡◌ {A = ℕ} 0 1 = cc in absurd (omega arith)
    of false decoded ef ed a = let z : ◌≡◌ {A = ℕ} 0 1 = cc in absurd (omega arith)

only_packed : (bytes : List ℕ) (h : Header) → within 255 bytes ≡ true → unpack_answer bytes ≡ Ok h → Legal h × (packed h ≡ bytes)
only_packed bytes h w e =
    let a = accepted bytes h e in
    let codes = word_keeps.nothing_else (coding (plain unpacking) bytes) a.message a.decoded in
    let bits : header_bits (header_in bytes) ≡ a.message =
    header_bits_in bytes a.five w ∙ ap (take 28) (sym codes.is_coding) ∙ front_of_word a.message codes.is_legal in
    let same : packed (header_in bytes) ≡ bytes =
    ap (λ zs. bytes_of (coding (plain header_word) zs)) bits ∙ ap bytes_of codes.is_coding ∙ bytes_again bytes a.five w in
    (ap refusal (sym a.is_header) ∙ a.is_legal, ap packed (sym a.is_header) ∙ same)

pub packing_loses_nothing : Packing_loses_nothing
packing_loses_nothing =
    record {
      five = λ h l. refl;
      bytes = λ h l. packed_within h;
      word = λ h l. packed_unpacked h;
      taken_back = unpacked_again;
      nothing_else = only_packed;
      in_range = λ bytes w. none_beyond (header_in bytes) (header_in_range bytes w);
      promise = word_keeps;
    }
