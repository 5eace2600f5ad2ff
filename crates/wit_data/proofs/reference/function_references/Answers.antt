use Rattle.std.proofs.Common.{rules}
use Rattle.wit_data.proofs.reference.function_references.Goals as goal

pub returns : goal.returns
returns c = search rules
