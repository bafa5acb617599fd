-- A header and its bits: each is had from the other.
use Rattle.std.proofs.Common.{◌≡◌, ℕ, ◌+◌, ◌*◌, ◌/◌, ◌%◌, ◌≤◌, true, List, ◌++◌, length, drop, Some, None, Option, sym, refl, ap, ◌∙◌, arith}
use Rattle.std.proofs.lemmas.List.{length-drop, take_all}
use Rattle.std.proofs.lemmas.Bool.Decides.{nat_tests}
use Rattle.stage.specs.Plain.{within}
use Rattle.codings.specs.NearestBitLaws.{within_append}
use Rattle.frame.specs.declared.headers.Header.{Header}
use Rattle.frame.specs.declared.refusals.Field.{Field}
use Rattle.frame.specs.Answers.{Legal, refusal_in_range}
use Rattle.frame.specs.Refusals.{first_beyond}
use Rattle.packing.specs.Bits.{bits_of, value, part, header_bits, header_from}
use Rattle.packing.proofs.BitLaws.{bits_are_bits, value_of_bits, part_again, part_small, part_and_rest}

pub header_bits_length : (h : Header) → length (header_bits h) ≡ 28
unfolding header_bits
header_bits_length h = refl

pub header_bits_within : (h : Header) → within 1 (header_bits h) ≡ true
unfolding header_bits
header_bits_within h =
    let dt = bits_of 3 h.dt in
    let tm8 = bits_of 1 (h.tm / 256) ++ dt in
    let tm = bits_of 8 h.tm ++ tm8 in
    let fl = bits_of 6 h.fl ++ tm in
    let mo = bits_of 2 h.modulation ++ fl in
    within_append 1 (bits_of 8 h.pdc) mo (bits_are_bits 8 h.pdc)
    (within_append 1 (bits_of 2 h.modulation) fl (bits_are_bits 2 h.modulation)
    (within_append 1 (bits_of 6 h.fl) tm (bits_are_bits 6 h.fl)
    (within_append 1 (bits_of 8 h.tm) tm8 (bits_are_bits 8 h.tm)
    (within_append 1 (bits_of 1 (h.tm / 256)) dt (bits_are_bits 1 (h.tm / 256)) (bits_are_bits 3 h.dt)))))

-- no field holds more than its bits can
pub record InRange (h : Header) : Type 0 where
  pub pdc_range : h.pdc ≤ 255
  pub mod_range : h.modulation ≤ 3
  pub fl_range : h.fl ≤ 63
  pub tm_range : h.tm ≤ 511
  pub dt_range : h.dt ≤ 7

pub in_range : (h : Header) → first_beyond h ≡ None → InRange h
in_range h e =
    record {
      pdc_range = grind (arith, nat_tests);
      mod_range = grind (arith, nat_tests);
      fl_range = grind (arith, nat_tests);
      tm_range = grind (arith, nat_tests);
      dt_range = grind (arith, nat_tests);
    }

pub none_beyond : (h : Header) → InRange h → first_beyond h ≡ None
none_beyond h r = grind (arith, nat_tests)

pub legal_none_beyond : (h : Header) → Legal h → first_beyond h ≡ None
legal_none_beyond h l = of (first_beyond h) refl l
  where
    of : (o : Option Field) → first_beyond h ≡ o → refusal_in_range h o ≡ None → first_beyond h ≡ None
    of None e r = e
    of (Some f) e r = let z : ◌≡◌ {A = ℕ} 0 1 = cc in absurd (omega arith)

abbrev made : ℕ → ℕ → ℕ → ℕ → ℕ → Header
made p m f t d = record { pdc = p; modulation = m; fl = f; tm = t; dt = d }

-- a header is known by its five fields
same_header : (h : Header) (p m f t d : ℕ) → p ≡ h.pdc → m ≡ h.modulation → f ≡ h.fl → t ≡ h.tm → d ≡ h.dt → made p m f t d ≡ h
same_header h p m f t d ep em ef et ed =
    ap (λ x. made x m f t d) ep
    ∙ ap (λ x. made h.pdc x f t d) em
    ∙ ap (λ x. made h.pdc h.modulation x t d) ef
    ∙ ap (λ x. made h.pdc h.modulation h.fl x d) et
    ∙ ap (λ x. made h.pdc h.modulation h.fl h.tm x) ed

-- TM's low byte and its highest bit
pub low_byte : (high low : ℕ) → low / 256 ≡ 0 → bits_of 8 (256 * high + low) ≡ bits_of 8 low
low_byte high low l =
    let b7 : (256 * high + low) / 128 % 2 ≡ low / 128 % 2 = omega arith in
    let b6 : (256 * high + low) / 64 % 2 ≡ low / 64 % 2 = omega arith in
    let b5 : (256 * high + low) / 32 % 2 ≡ low / 32 % 2 = omega arith in
    let b4 : (256 * high + low) / 16 % 2 ≡ low / 16 % 2 = omega arith in
    let b3 : (256 * high + low) / 8 % 2 ≡ low / 8 % 2 = omega arith in
    let b2 : (256 * high + low) / 4 % 2 ≡ low / 4 % 2 = omega arith in
    let b1 : (256 * high + low) / 2 % 2 ≡ low / 2 % 2 = omega arith in
    let b0 : (256 * high + low) / 1 % 2 ≡ low / 1 % 2 = omega arith in cc

pub high_part : (high low : ℕ) → low / 256 ≡ 0 → (256 * high + low) / 256 ≡ high
high_part high low l = omega arith

low_value : (tm : ℕ) → value (bits_of 8 tm) ≡ tm % 256
low_value tm =
    let whole : 256 * (tm / 256) + tm % 256 ≡ tm = omega arith in
    ap (λ x. value (bits_of 8 x)) (sym whole)
    ∙ ap value (low_byte (tm / 256) (tm % 256) (omega arith))
    ∙ value_of_bits 8 (tm % 256) (omega arith)

pub header_from_in_range_bits : (h : Header) → InRange h → header_from (header_bits h) ≡ h
unfolding header_bits header_from
header_from_in_range_bits h r =
    let pdc = value_of_bits 8 h.pdc (omega (arith, r.pdc_range)) in
    let mo = value_of_bits 2 h.modulation (omega (arith, r.mod_range)) in
    let fl = value_of_bits 6 h.fl (omega (arith, r.fl_range)) in
    let high = value_of_bits 1 (h.tm / 256) (omega (arith, r.tm_range)) in
    let low = low_value h.tm in
    let tm : 256 * value (bits_of 1 (h.tm / 256)) + value (bits_of 8 h.tm) ≡ h.tm = omega arith in
    let dt = value_of_bits 3 h.dt (omega (arith, r.dt_range)) in
    same_header h _ _ _ _ _ pdc mo fl tm dt

pub header_from_bits : (h : Header) → first_beyond h ≡ None → header_from (header_bits h) ≡ h
header_from_bits h e = header_from_in_range_bits h (in_range h e)

pub header_from_legal : (h : Header) → Legal h → header_from (header_bits h) ≡ h
header_from_legal h l = header_from_bits h (legal_none_beyond h l)

fields_in_range : (bits : List ℕ) → length bits ≡ 28 → within 1 bits ≡ true → InRange (header_from bits)
unfolding header_from
fields_in_range bits l w =
    let pdc : value (part 0 8 bits) / 256 ≡ 0 = part_small 0 8 bits (omega arith) w in
    let mo : value (part 8 2 bits) / 4 ≡ 0 = part_small 8 2 bits (omega arith) w in
    let fl : value (part 10 6 bits) / 64 ≡ 0 = part_small 10 6 bits (omega arith) w in
    let low : value (part 16 8 bits) / 256 ≡ 0 = part_small 16 8 bits (omega arith) w in
    let high : value (part 24 1 bits) / 2 ≡ 0 = part_small 24 1 bits (omega arith) w in
    let dt : value (part 25 3 bits) / 8 ≡ 0 = part_small 25 3 bits (omega arith) w in
    record {
      pdc_range = omega arith;
      mod_range = omega arith;
      fl_range = omega arith;
      tm_range = omega arith;
      dt_range = omega arith;
    }

pub header_from_in_range : (bits : List ℕ) → length bits ≡ 28 → within 1 bits ≡ true → first_beyond (header_from bits) ≡ None
header_from_in_range bits l w = none_beyond (header_from bits) (fields_in_range bits l w)

-- the six parts of a header's bits, in their order
parts_together : (bits : List ℕ) → length bits ≡ 28 → part 0 8 bits ++ (part 8 2 bits ++ (part 10 6 bits ++ (part 16 8 bits ++ (part 24 1 bits ++ part 25 3 bits)))) ≡ bits
parts_together bits l =
    part_and_rest bits 0 8 8 _ refl
    (part_and_rest bits 8 2 10 _ refl
    (part_and_rest bits 10 6 16 _ refl
    (part_and_rest bits 16 8 24 _ refl (part_and_rest bits 24 1 25 _ refl (take_all 3 (drop 25 bits) (omega (arith, length-drop 25 bits)))))))

-- bits written one part after the other
parts_of_six : (a b c d e f a' b' c' d' e' f' : List ℕ) → a ≡ a' → b ≡ b' → c ≡ c' → d ≡ d' → e ≡ e' → f ≡ f' → a ++ (b ++ (c ++ (d ++ (e ++ f)))) ≡ a' ++ (b' ++ (c' ++ (d' ++ (e' ++ f'))))
parts_of_six a b c d e f a' b' c' d' e' f' ea eb ec ed ee ef = cc

pub header_bits_from : (bits : List ℕ) → length bits ≡ 28 → within 1 bits ≡ true → header_bits (header_from bits) ≡ bits
unfolding header_bits header_from
header_bits_from bits l w =
    let high = value (part 24 1 bits) in
    let low = value (part 16 8 bits) in
    let small : low / 256 ≡ 0 = part_small 16 8 bits (omega arith) w in
    parts_of_six
    (bits_of 8 (value (part 0 8 bits)))
    (bits_of 2 (value (part 8 2 bits)))
    (bits_of 6 (value (part 10 6 bits)))
    (bits_of 8 (256 * high + low))
    (bits_of 1 ((256 * high + low) / 256))
    (bits_of 3 (value (part 25 3 bits)))
    (part 0 8 bits)
    (part 8 2 bits)
    (part 10 6 bits)
    (part 16 8 bits)
    (part 24 1 bits)
    (part 25 3 bits)
    (part_again 0 8 bits (omega arith) w)
    (part_again 8 2 bits (omega arith) w)
    (part_again 10 6 bits (omega arith) w)
    (low_byte high low small ∙ part_again 16 8 bits (omega arith) w)
    (ap (bits_of 1) (high_part high low small) ∙ part_again 24 1 bits (omega arith) w)
    (part_again 25 3 bits (omega arith) w)
    ∙ parts_together bits l
