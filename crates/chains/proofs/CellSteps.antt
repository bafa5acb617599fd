-- From bits to cells: the three stages nearest the line, of either chain.
use Rattle.std.proofs.Common.{◌≡◌, ℕ, ◌*◌, ◌/◌, ◌%◌, ◌<◌, ◌≤◌, true, ◌&&◌, eqb, leb, List, length, Some, None, refl, ap, ◌∙◌, mul_comm, mul-div_cancel, arith}
use native.Mathlib.Nat.{mul-mod_left}
use Rattle.chains.proofs.Steps.{Step, step_plain, step_pile}
use Rattle.chains.specs.Chains.{to_cells}
use Rattle.interleave.specs.MoveLaws.{interleaving_keeps}
use Rattle.interleave.specs.Interleavings.{interleaving, known_sizes, exactly}
use Rattle.phases.specs.DifferenceLaws.{difference_sound}
use Rattle.phases.specs.MapLaws.{mapping_sound}
use Rattle.phases.specs.Differences.{difference, is_reference, row_length, whole_rows}
use Rattle.phases.specs.Maps.{mapping, is_width, mapped_length}
use Rattle.stage.specs.Plains.{plain_keeps}
use Rattle.stage.specs.Model.{plain, pile}
use Rattle.stage.specs.Plain.{within}
use Rattle.std.proofs.lemmas.Nat.{mul-le}
use Rattle.std.proofs.lemmas.Bool.{and_from, and_parts, leb-true, le-leb, eq-eqb, cond-true}

interleaved_length : (bits : ℕ) → exactly bits bits ≡ Some bits
interleaved_length bits = cond-true (eqb bits bits) (Some bits) None (eq-eqb bits bits refl)

increments_length : (cells b : ℕ) → 0 < b → cells * b ≤ 9072 → mapped_length b (cells * b) ≡ Some cells
increments_length cells b some few =
    cond-true (leb (cells * b) 9072 && eqb (cells * b % b) 0) (Some (cells * b / b)) None (and_from (leb (cells * b) 9072) (eqb (cells * b % b) 0) (le-leb (cells * b) 9072 few) (eq-eqb (cells * b % b) 0 (mul-mod_left cells b)))
    ∙ ap Some (mul-div_cancel cells some)

rows_length : (m n : ℕ) → m * n ≤ 9072 → whole_rows m (m * n) ≡ Some (m * n)
rows_length m n few =
    let whole : m * n % m ≡ 0 = ap (λ x. x % m) (mul_comm m n) ∙ mul-mod_left n m in
    cond-true (leb (m * n) 9072 && eqb (m * n % m) 0) (Some (m * n)) None (and_from (leb (m * n) 9072) (eqb (m * n % m) 0) (le-leb (m * n) 9072 few) (eq-eqb (m * n % m) 0 whole))

-- what the interleaver's sizes say of the other two stages
pub known_row : (m n b : ℕ) → known_sizes m n b ≡ true → row_length m ≡ true
known_row m n b known =
    (and_parts (row_length m) ((leb 1 n && leb n 252) && (leb 1 b && leb b 3)) known).0

pub known_width : (m n b : ℕ) → known_sizes m n b ≡ true → is_width b ≡ true
known_width m n b known =
    (and_parts (leb 1 n && leb n 252) (is_width b) (and_parts (row_length m) ((leb 1 n && leb n 252) && (leb 1 b && leb b 3)) known).1).1

-- a cell carries a bit at least, so the cells are no more than the bits
cells_few : (cells b : ℕ) → 0 < b → cells ≤ cells * b
cells_few cells b some = omega (arith, mul-le cells 1 cells b (omega arith) some)

pub cells_step : (m n b room : ℕ) (reference : List ℕ) → known_sizes m n b ≡ true → m * n * b ≤ 9072 → m * n * b ≤ room → length reference ≡ m → within 7 reference ≡ true → Step (to_cells m n b reference) 1 7 (m * n * b) (m * n) room 3
cells_step m n b room reference known few enough long phases =
    let width = known_width m n b known in
    let some : 0 < b = leb-true 1 b (and_parts (leb 1 b) (leb b 3) width).0 in
    let less = cells_few (m * n) b some in
    let row : is_reference reference ≡ true = and_from (row_length (length reference)) (within 7 reference) (ap row_length long ∙ known_row m n b known) phases in
    let interleaved = step_plain (interleaving m n b) (m * n * b) (m * n * b) room (interleaving_keeps m n b known) (interleaved_length (m * n * b)) enough enough in
    let turned = step_plain (mapping b) (m * n * b) (m * n) room (plain_keeps (mapping b) (mapping_sound b width)) (increments_length (m * n) b some few) enough (omega arith) in
    let summed = step_plain (difference reference) (m * n) (m * n) room (plain_keeps (difference reference) (difference_sound reference row)) (ap (λ k. whole_rows k (m * n)) long ∙ rows_length m n (omega arith)) (omega arith) (omega arith) in
    let increments = step_pile (plain (interleaving m n b)) (plain (mapping b)) 1 1 1 7 (m * n * b) (m * n * b) (m * n) room 1 1 interleaved turned (omega arith) (omega arith) in
    step_pile (pile (plain (interleaving m n b)) (plain (mapping b))) (plain (difference reference)) 1 7 7 7 (m * n * b) (m * n) (m * n) room 2 1 increments summed (omega arith) (omega arith)
