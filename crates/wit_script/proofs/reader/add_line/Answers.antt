use Rattle.std.proofs.Common.{◌≡◌, ◌∙◌, ap, Some, None}
use Rattle.wit_script_lines.specs.Line.{tokens_of}
use Rattle.wit_script_lines.specs.Statement.{statement_of}
use Rattle.wit_script.specs.facts.Scripts.{said_nothing, said_something}
use Rattle.wit_script.proofs.ReadyLines.{line-ready}
use Rattle.wit_script.proofs.reader.add_line.Goals as goal

pub returns-in-None-clause-told : goal.returns-in-None-clause-told
returns-in-None-clause-told c =
    let nothing : statement_of c.args.line.now ≡ Some None = c.in_ok-read_line.ensures ∙ ap Some c.in-None.is in said_nothing (tokens_of c.args.line.now) nothing

pub returns-in_ok-add-in-Some-clause-told : goal.returns-in_ok-add-in-Some-clause-told
returns-in_ok-add-in-Some-clause-told c =
    let something : statement_of c.args.line.now ≡ Some (Some c.in-Some.said) = c.in_ok-read_line.ensures ∙ ap Some c.in-Some.is in said_something (tokens_of c.args.line.now) c.in-Some.said something

pub add-requires-clause-said : goal.add-requires-clause-said
add-requires-clause-said c =
    let something : statement_of c.args.line.now ≡ Some (Some c.in-Some.said) = c.in_ok-read_line.ensures ∙ ap Some c.in-Some.is in line-ready c.in-Some.said c.args.line.now something
