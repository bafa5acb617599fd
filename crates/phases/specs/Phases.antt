-- Phases added and subtracted modulo 8, in a byte.
use Rattle.std.specs.Prelude.{◌≡◌, ℕ, ◌+◌, ◌-◌, ◌%◌, ◌<◌, ◌≤◌, bit_and}
use Rattle.std.proofs.Common.{◌∙◌, arith}
use Rattle.std.proofs.lemmas.Nat.{and_mask}
use Rattle.phases.specs.Differences.{turn_between}

pub byte_sum_is_phase : (x before : ℕ) → bit_and ((x + before) % 256) 7 ≡ (x + before) % 8
byte_sum_is_phase x before =
    let e : (x + before) % 256 % 8 ≡ (x + before) % 8 = omega arith in and_mask ((x + before) % 256) 3 ∙ e

pub byte_difference_is_turn : (y before : ℕ) → before < 256 → bit_and ((y + (256 - before)) % 256) 7 ≡ turn_between y before
byte_difference_is_turn y before h =
    let e : (y + (256 - before)) % 256 % 8 ≡ (y + (8 - before % 8)) % 8 = omega arith in and_mask ((y + (256 - before)) % 256) 3 ∙ e

-- a turn is a phase
pub turn_small : (y before : ℕ) → turn_between y before ≤ 7
turn_small y before = omega arith

-- the turn to a cell leads to it
pub turn_leads : (y before : ℕ) → y ≤ 7 → before ≤ 7 → (turn_between y before + before) % 8 ≡ y
turn_leads y before h l = omega arith

-- and the turn to a sum is what was added
pub turn_back : (x before : ℕ) → x ≤ 7 → before ≤ 7 → turn_between ((x + before) % 8) before ≡ x
turn_back x before h l = omega arith
