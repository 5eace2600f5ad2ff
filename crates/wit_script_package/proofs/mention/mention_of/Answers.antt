use Rattle.std.proofs.Common.{rules}
use Rattle.wit_script_package.proofs.mention.mention_of.Goals as goal

pub returns-in-Include : goal.returns-in-Include
returns-in-Include c = search rules
