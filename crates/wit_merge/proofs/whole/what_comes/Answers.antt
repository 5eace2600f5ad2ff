use Rattle.std.proofs.Common.{◌<◌, ◌^◌}
use Rattle.wit_merge_match.specs.Differing.{merge_of_graphs_by}
use Rattle.wit_merge.proofs.Outcome.{all_fit}
use Rattle.wit_merge.proofs.whole.what_comes.Goals as goal

pub values-requires-clause-merge_ids : goal.values-requires-clause-merge_ids
values-requires-clause-merge_ids c = c.requires.merge_ids

pub moved_things-requires-clause-ready : goal.moved_things-requires-clause-ready
moved_things-requires-clause-ready c =
    let agree = c.requires.agree in
    let small : c.args.offset < 2 ^ 32 = c.ranges.offset.fits in
    record {
      valid = c.requires.valid;
      valid_other = c.requires.other;
      one = agree.one;
      matches = c.requires.matches;
      merge_ids = c.requires.merge_ids;
      values = (c.in_ok-value_ids.ensures.values c.args.offset).0;
      fits = all_fit (merge_of_graphs_by c.args.graph.now c.args.other.now c.args.offset) small agree.spans;
    }

pub moved_things-requires-clause-owns : goal.moved_things-requires-clause-owns
moved_things-requires-clause-owns c = (c.in_ok-value_ids.ensures.values c.args.offset).1
