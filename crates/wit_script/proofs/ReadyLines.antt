-- What a line asks by its own words is ready.
use Rattle.std.proofs.Common.{◌≡◌, ℕ, List, Some}
use Rattle.wit_commands.specs.declared.change.Change.TheVariants as change
use Rattle.wit_script_lines.specs.Statement.{statement_of}
use Rattle.wit_script_lines.specs.declared.request.Request.{Request}
use Rattle.wit_script_lines.specs.declared.request.Request.TheVariants as request
use Rattle.wit_script_lines.specs.declared.statement.Statement.{Statement}
use Rattle.wit_script_lines.specs.declared.statement.Statement.TheVariants as says
use Rattle.wit_script_lines.specs.facts.RequestFacts.{line-brings-none}
use Rattle.wit_script_lines.specs.steps.Request.{BringsNone}
use Rattle.wit_script.specs.Ready.{IsReady}
use Rattle.wit_script.specs.steps.Ready.{IsReadyStatement}

-- a command that brings no package
none-ready : (asked : Request) → BringsNone asked → IsReady asked
none-ready (request.Change (change.PushGroups main deps)) none = absurd none
none-ready asked none = tt

pub line-ready : (said : Statement) (line : List ℕ) → statement_of line ≡ Some (Some said) → IsReadyStatement said
line-ready (says.Package name) line is = tt
line-ready (says.Line part gate) line is = tt
line-ready says.Push line is = tt
line-ready (says.Request asked) line is = none-ready asked (line-brings-none asked line is)
