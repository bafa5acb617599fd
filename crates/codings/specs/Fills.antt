-- Filling: zeros behind a list of bits of fixed length.
use Rattle.std.specs.Prelude.{ℕ, ◌-◌, Bool, cond, ◌&&◌, List, ◌++◌, map, take, replicate, Ok, Err, Result, nat_le}
use Rattle.stage.specs.declared.faults.Refusal.{Refusal}
use Rattle.stage.specs.declared.faults.Refusal.TheVariants.{Setting}
use Rattle.stage.specs.Model.{Model, plain}
use Rattle.stage.specs.Plain.{Plain}
use Rattle.codings.specs.NearestBits.{nearest_bit}
pub use Rattle.codings.specs.Fronts.{only_length}

-- The most bits that are put out.
abbrev pub most_filled : ℕ
most_filled = 9072

-- As many bits as are taken, or more, are put out, and not too many.
abbrev pub fillable : ℕ → ℕ → Bool
fillable bits total = nat_le bits total && nat_le total most_filled

-- Zeros are appended up to the total.
abbrev pub filled : ℕ → ℕ → List ℕ → List ℕ
filled bits total xs = xs ++ replicate (total - bits) 0

-- The stage that fills up with zeros; the message nearest to a received list stands in its front.
abbrev pub filling : ℕ → ℕ → Plain
filling bits total =
    record {
      number = 6;
      takes = 1;
      puts = 1;
      coded_length = only_length bits total;
      message_length = only_length total bits;
      coding = filled bits total;
      guess = λ n ys. map nearest_bit (take n ys);
    }

-- The stage that a number of bits and a total make, or the refusal of what cannot be filled.
abbrev pub made_fill : ℕ → ℕ → Result Model Refusal
made_fill bits total = cond (fillable bits total) (Ok (plain (filling bits total))) (Err Setting)
