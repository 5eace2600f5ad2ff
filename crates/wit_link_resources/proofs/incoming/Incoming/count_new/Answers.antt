use Rattle.std.proofs.Common.{rules, ◌+◌, ◌<◌, arith}
use Rattle.wit_link_resources.specs.steps.IncomingTypes.{new_of}
use Rattle.wit_link_resources.proofs.Ranks.{rank-most}
use Rattle.wit_link_resources.proofs.incoming.Incoming.count_new.Goals as goal

pub overflow_add-count : goal.overflow_add-count
overflow_add-count c =
    let most = rank-most (new_of c.args.self.now) c.loop-index.index in
    let low : c.loop-index.count + 1 < 18446744073709551616 = let first = c.loop-index-test.true in let end = c.as_slice-ids.type_inv.0 in let is = c.loop-index.invariant in omega arith in
    search rules
