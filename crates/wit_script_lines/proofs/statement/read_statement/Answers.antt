use Rattle.std.proofs.Common.{ℕ, List, Bor, Option, map, subst, sym}
use Rattle.wit_script_lines.proofs.LineWords.{line-begins}
use Rattle.wit_script_lines.specs.declared.statement.Statement.{Statement}
use Rattle.wit_script_lines.specs.steps.ReadResult.{IsRead}
use Rattle.wit_script_lines.proofs.statement.read_statement.Goals as goal

pub returns-in-Some : goal.returns-in-Some
returns-in-Some c =
    subst (λ (said : Option Statement). IsRead said c.gated_line.result)
    (sym (line-begins c.args.word.now (map (λ (t : Bor (List ℕ)). t.now) c.args.arguments.now) c.in-Some.word (sym c.in-Some.ensures))) c.gated_line.ensures
