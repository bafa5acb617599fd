use Rattle.std.proofs.Common.{rules}
use Rattle.tables.proofs.lines.push_lengths.Goals as goal

pub returns : goal.returns
returns c =
    record {
      shortest = c.smallest.result;
      longest = c.largest.result;
      is_smallest = c.smallest.ensures;
      is_largest = c.largest.ensures;
      text = search rules;
    }
