-- The interleaver: bits in blocks, each block's bits put to other places of it.
use Rattle.std.specs.Prelude.{◌≡◌, ℕ, zero, suc, ◌+◌, ◌*◌, ◌/◌, ◌%◌, min, Bool, true, cond, ◌&&◌, List, map, Some, None, Ok, Err, Option, Result, ◌==◌, nat_le, slice_index}
use Rattle.std.specs.List.{range_with_len}
use Rattle.stage.specs.declared.faults.Refusal.{Refusal}
use Rattle.stage.specs.declared.faults.Refusal.TheVariants.{Setting}
use Rattle.stage.specs.Plain.{Plain}
use Rattle.stage.specs.Model.{Model, plain}
use Rattle.stage.specs.Promise.{Promise}
use Rattle.interleave.specs.Places.{place}

-- Rows have 6 to 36 bits in steps of 6; a block has 1 to 252 rows; there are 1 to 3 blocks.
abbrev pub known_sizes : ℕ → ℕ → ℕ → Bool
known_sizes m n b = ((nat_le 6 m && nat_le m 36) && m % 6 == 0) && ((nat_le 1 n && nat_le n 252) && (nat_le 1 b && nat_le b 3))

-- The place to which bit t of the list goes: it stays in its block.
abbrev pub goes_to : ℕ → ℕ → ℕ → ℕ
goes_to m n t = t / (m * n) * (m * n) + place m n (t % (m * n))

-- The number below `count` that a function takes to p.
abbrev pub comes_from : (ℕ → ℕ) → ℕ → ℕ → ℕ
comes_from f zero p = 0
comes_from f (suc k) p = cond (f k == p) k (comes_from f k p)

-- The list with each of its `count` elements moved: at p stands the one that goes there.
abbrev pub moved : ℕ → (ℕ → ℕ) → List ℕ → List ℕ
moved count f xs = map (λ p. slice_index xs (comes_from f count p)) (range_with_len 0 count)

-- The bit nearest to a received element: itself, or 1 where it is no bit.
abbrev pub nearest_bit : ℕ → ℕ
nearest_bit y = min y 1

-- The message nearest to a received list: each bit is read where it went.
abbrev pub fetched : (ℕ → ℕ) → ℕ → List ℕ → List ℕ
fetched f count ys = map (λ q. nearest_bit (slice_index ys (f q))) (range_with_len 0 count)

-- Exactly `count` elements are taken and put out.
abbrev pub exactly : ℕ → ℕ → Option ℕ
exactly count n = cond (n == count) (Some count) None

-- A stage that moves `count` bits by a function of their places.
abbrev pub moving : ℕ → (ℕ → ℕ) → Plain
moving count f =
    record {
      number = 8;
      takes = 1;
      puts = 1;
      coded_length = exactly count;
      message_length = exactly count;
      coding = moved count f;
      guess = fetched f;
    }

-- The interleaver of b blocks of n rows of m bits.
abbrev pub interleaving : ℕ → ℕ → ℕ → Plain
interleaving m n b = moving (m * n * b) (goes_to m n)

-- The stage that three sizes make, or the refusal of sizes that are not known.
abbrev pub made_interleave : ℕ → ℕ → ℕ → Result Model Refusal
made_interleave m n b = cond (known_sizes m n b) (Ok (plain (interleaving m n b))) (Err Setting)

-- With every known setting the interleaver keeps the promise of stages.
abbrev pub KeepsThePromise : Type 0
KeepsThePromise = (m n b : ℕ) → known_sizes m n b ≡ true → Promise (plain (interleaving m n b))
