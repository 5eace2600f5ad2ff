use Rattle.std.proofs.Common.{◌≡◌, ◌+◌, arith, rules}
use Rattle.wit_merge_match.proofs.comparison.Comparison.new.Goals as goal

pub returns-clause-sound : goal.returns-clause-sound
returns-clause-sound c =
    let sum : c.in_ok-count.count ≡ c.len.result + c.len-2.result = search rules in
    record {
      sides = record { from = c.requires.from; into = c.requires.into };
      classes = record {
        long = omega (arith, sum, c.len.ensures, c.len-2.ensures, c.in_ok-leaders.ensures.long);
        small = c.in_ok-leaders.ensures.small;
        descending = c.in_ok-leaders.ensures.descending;
        same = c.in_ok-leaders.ensures.same _;
      };
    }
