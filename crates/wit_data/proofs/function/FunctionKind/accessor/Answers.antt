use Rattle.std.proofs.Common.{rules}
use Rattle.wit_data.proofs.function.FunctionKind.accessor.Goals as goal

pub returns-in-Setter : goal.returns-in-Setter
returns-in-Setter c = search rules

pub returns-in-Setter-2 : goal.returns-in-Setter-2
returns-in-Setter-2 c = search rules

pub returns-in-Setter-3 : goal.returns-in-Setter-3
returns-in-Setter-3 c = search rules
