use Rattle.std.proofs.Common.{rules}
use Rattle.wit_transform.proofs.new_lists.is_answer.Goals as goal

pub returns-then-answer : goal.returns-then-answer
returns-then-answer c = search rules

pub returns-else-answer : goal.returns-else-answer
returns-else-answer c = search rules
