use Rattle.wit_script_lines.proofs.Words.{stripped_front}
use Rattle.wit_script_lines.proofs.token.after_prefix.Goals as goal

pub returns-clause-after : goal.returns-clause-after
returns-clause-after c = stripped_front c.args.word.now c.args.text.now c.strip_prefix.result c.strip_prefix.ensures.cases
