-- Two members that do not fit.
use Rattle.std.proofs.Common.{◌≡◌, ◌+◌, false, ◌&&◌, leb, length, is_some}
use Rattle.std.proofs.lemmas.Bool.{and_left, and_right, cond-false}
use Rattle.stage.specs.Plain.{within}
use Rattle.stage.specs.Model.{Model, pile, fits, takes, puts, members, most_members, coded_length}
use Rattle.stage.specs.Piles.{MisfitLaw}

pub law_of_misfits : (a b : Model) → fits (pile a b) ≡ false → MisfitLaw a b
law_of_misfits a b h =
    record {
      nothing_legal = λ xs. and_left (fits (pile a b)) (within (takes a) xs && is_some (coded_length (pile a b) (length xs))) h;
      coding_refused = λ xs work result. cond-false (fits (pile a b)) _ _ h;
      decoding_refused = λ ys work result. cond-false (fits (pile a b)) _ _ h;
      around_as_first = λ m. and_left (fits (pile a b) && fits m) (leb (puts b) (takes m) && leb ((members a + members b) + members m) most_members) (and_left (fits (pile a b)) (fits m) h);
      around_as_second = λ m. and_left (fits m && fits (pile a b)) (leb (puts m) (takes a) && leb (members m + (members a + members b)) most_members) (and_right (fits m) (fits (pile a b)) h);
    }
