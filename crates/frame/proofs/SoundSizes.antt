-- The sizes of a legal header are sound.
use Rattle.std.proofs.Common.{◌≡◌, ℕ, zero, suc, ◌+◌, ◌-◌, ◌*◌, ◌/◌, ◌%◌, ◌<◌, ◌≤◌, cond, ltb, ap, ◌∙◌, mul_assoc, mul-zero, zero-mul, mul_left_comm, arith}
use lib.Count.{ones}
use Rattle.frame.specs.declared.headers.Header.{Header}
use Rattle.frame.specs.declared.modulations.Modulation.{Modulation}
use Rattle.frame.specs.declared.modulations.Modulation.TheVariants.{Robust, Dbpsk, Dqpsk, D8psk}
use Rattle.frame.specs.Answers.{Legal, block, parity}
use Rattle.frame.specs.Laws.{Legal_sizes_are_sound}
use Rattle.frame.specs.Modulations.{modulation_of, bits_per_cell, copies}
use Rattle.frame.specs.Sizes.{coded_bits, live_carriers, payload_rows}
use Rattle.frame.proofs.Legality.{legal_fl}
use Rattle.std.proofs.lemmas.Nat.{ones-le}
use Rattle.std.proofs.lemmas.Bool.Decides.{nat_tests}

-- six times o by four times f
cells : (o f : ℕ) → 6 * o * (4 * f) ≡ 24 * (o * f)
cells o f = mul_assoc 6 o (4 * f) ∙ ap (λ x. 6 * x) (mul_left_comm o 4 f) ∙ omega arith

-- the coded bits of one cell in each carrier and row of a sub-band and four rows
abbrev unit : Modulation → ℕ
unit Robust = 6
unit Dbpsk = 24
unit Dqpsk = 48
unit D8psk = 72

coded_units : (mo : Modulation) (fl tm : ℕ) → coded_bits mo fl tm ≡ unit mo * (ones tm * fl)
coded_units Robust fl tm = omega (arith, cells (ones tm) fl)
coded_units Dbpsk fl tm = omega (arith, cells (ones tm) fl)
coded_units Dqpsk fl tm = omega (arith, cells (ones tm) fl)
coded_units D8psk fl tm = omega (arith, cells (ones tm) fl)

filled : (mo : Modulation) (fl tm : ℕ) → coded_bits mo fl tm * copies mo ≡ live_carriers tm * payload_rows fl * bits_per_cell mo
filled Robust fl tm = omega (arith, cells (ones tm) fl)
filled Dbpsk fl tm = omega (arith, cells (ones tm) fl)
filled Dqpsk fl tm = omega (arith, cells (ones tm) fl)
filled D8psk fl tm = omega (arith, cells (ones tm) fl)

coded_even : (mo : Modulation) (fl tm : ℕ) → coded_bits mo fl tm % 2 ≡ 0
coded_even Robust fl tm = omega (arith, coded_units Robust fl tm)
coded_even Dbpsk fl tm = omega (arith, coded_units Dbpsk fl tm)
coded_even Dqpsk fl tm = omega (arith, coded_units Dqpsk fl tm)
coded_even D8psk fl tm = omega (arith, coded_units D8psk fl tm)

-- the block of p coded bits
abbrev block_of : ℕ → ℕ
block_of p = cond (ltb p 12) 0 ((p / 2 - 6) / 8)

block_of_fits : (p : ℕ) → p % 2 ≡ 0 → 0 < block_of p → 16 * block_of p + 12 ≤ p
block_of_fits p even some = grind (arith, nat_tests)

block_of_most : (p : ℕ) → p < 16 * (block_of p + 1) + 12
block_of_most p = grind (arith, nat_tests)

factors_positive : (o f : ℕ) → 0 < o * f → (0 < o) × (0 < f)
factors_positive zero f h = absurd (omega (arith, zero-mul f))
factors_positive (suc o) zero h = absurd (omega (arith, mul-zero (suc o)))
factors_positive (suc o) (suc f) h = (omega arith, omega arith)

product_positive : (mo : Modulation) (fl tm : ℕ) → 0 < coded_bits mo fl tm → 0 < ones tm * fl
product_positive Robust fl tm h = omega (arith, coded_units Robust fl tm)
product_positive Dbpsk fl tm h = omega (arith, coded_units Dbpsk fl tm)
product_positive Dqpsk fl tm h = omega (arith, coded_units Dqpsk fl tm)
product_positive D8psk fl tm h = omega (arith, coded_units D8psk fl tm)

legal_facts : (h : Header) → Legal h → (h.fl ≤ 63) × (h.tm < 64) × (parity h < block h) × (block h ≤ 255)
legal_facts h l = (legal_fl h l, grind (arith, nat_tests), grind (arith, nat_tests), grind (arith, nat_tests))

pub legal_sizes_are_sound : Legal_sizes_are_sound
legal_sizes_are_sound h l =
    let mo = modulation_of h.modulation in
    let facts = legal_facts h l in
    let fits = block_of_fits (coded_bits mo h.fl h.tm) (coded_even mo h.fl h.tm) (omega (arith, facts.2)) in
    let positive = factors_positive (ones h.tm) h.fl (product_positive mo h.fl h.tm (omega (arith, fits))) in
    record {
      some_rows = positive.1;
      few_rows = omega (arith, facts.0);
      some_payload = omega (arith, facts.2);
      whole_block = omega (arith, facts.2);
      short_block = facts.3;
      some_carriers = omega (arith, positive.0);
      few_carriers = omega (arith, ones-le 6 h.tm facts.1);
      cells_filled = filled mo h.fl h.tm;
      block_fits = fits;
      no_more_fits = block_of_most (coded_bits mo h.fl h.tm);
    }
