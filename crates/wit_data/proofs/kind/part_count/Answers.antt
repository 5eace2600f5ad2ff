use Rattle.std.proofs.Common.{rules}
use Rattle.wit_data.proofs.PartsRead.{tuple_count}
use Rattle.wit_data.proofs.kind.part_count.Goals as goal

pub returns-in-Tuple : goal.returns-in-Tuple
returns-in-Tuple c = tuple_count c.args.kind.now c.in-Tuple.types c.len-in-Tuple.result (search rules) (search rules)
