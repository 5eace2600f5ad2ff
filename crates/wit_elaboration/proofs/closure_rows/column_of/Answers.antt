use Rattle.wit_elaboration.proofs.ReachedColumns.{column_is}
use Rattle.wit_elaboration.proofs.closure_rows.column_of.Goals as goal

pub returns-clause-column : goal.returns-clause-column
returns-clause-column c = column_is c.args.node
