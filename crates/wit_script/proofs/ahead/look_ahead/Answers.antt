use Rattle.wit_script_lines.specs.Statement.{statement_of}
use Rattle.wit_script.proofs.Past.{passed-is}
use Rattle.wit_script.proofs.ahead.look_ahead.Goals as goal

pub returns-then-mentions_nothing : goal.returns-then-mentions_nothing
returns-then-mentions_nothing c = passed-is c.args.at c.args.line.now (statement_of c.args.line.now) (c.mentions_nothing.ensures c.if-mentions_nothing.true) c.pass_over.result c.pass_over.ensures
