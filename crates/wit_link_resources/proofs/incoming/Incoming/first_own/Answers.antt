use Rattle.std.proofs.Common.{rules, ◌+◌, ◌<◌, length, arith}
use Rattle.wit_link_resources.specs.steps.IncomingTypes.{new_of}
use Rattle.wit_link_resources.proofs.Ranks.{rank-most}
use Rattle.wit_link_resources.proofs.incoming.Incoming.first_own.Goals as goal

pub overflow_add-result : goal.overflow_add-result
overflow_add-result c =
    let most = rank-most (new_of c.args.self.now) (length c.args.self.now.ids.now) in
    let low : length c.as_slice.result.now + c.count_new.result < 18446744073709551616 = let end = c.as_slice.type_inv.1 in let count = c.count_new.ensures.count in let small = c.count_new.ensures.small in omega arith in
    search rules

pub returns-clause-room : goal.returns-clause-room
returns-clause-room c =
    let most = rank-most (new_of c.args.self.now) (length c.args.self.now.ids.now) in
    let end = c.as_slice.type_inv.1 in
    let count = c.count_new.ensures.count in
    let small = c.count_new.ensures.small in
    omega arith
