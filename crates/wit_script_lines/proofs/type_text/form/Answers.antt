use Rattle.std.proofs.Common.{rules}
use Rattle.wit_script_lines.proofs.type_text.form.Goals as goal

pub returns-in-Some-inside-clause-form : goal.returns-in-Some-inside-clause-form
returns-in-Some-inside-clause-form c = search rules
