use Rattle.wit_script_package.proofs.NoMention.{line-told}
use Rattle.wit_script_package.proofs.mention.mentions_nothing.Goals as goal

pub returns-in-Some : goal.returns-in-Some
returns-in-Some c = λ yes. line-told c.args.line.now c.in-Some.word.now c.has_no_foreign_path.result c.in-Some.ensures c.has_no_foreign_path.ensures yes
