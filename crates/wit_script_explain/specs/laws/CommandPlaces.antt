-- The lines that are told of commands are those that ask them.
use Rattle.std.specs.Prelude.{◌≡◌, ℕ, List, Some, slice_get}
use Rattle.std.specs.List.{AllZip}
use Rattle.wit_commands.specs.declared.change.Change.TheVariants.{PushGroups}
use Rattle.wit_script.specs.Script.{IsUnderstood}
use Rattle.wit_script_lines.specs.Line.{lines_of}
use Rattle.wit_script_lines.specs.Statement.{statement_of}
use Rattle.wit_script_lines.specs.declared.request.Request.{Request}
use Rattle.wit_script_lines.specs.declared.request.Request.TheVariants as request
use Rattle.wit_script_lines.specs.declared.statement.Statement.{Statement}
use Rattle.wit_script_lines.specs.declared.statement.Statement.TheVariants as says
use Rattle.wit_script_explain.specs.Lines.{script_lines_of}
use Rattle.wit_script_explain.specs.declared.lines.CommandPlace.{CommandPlace}

-- what a line says that asks a command
abbrev pub said_of : Request → Statement
said_of (request.Change (PushGroups main deps)) = says.Push
said_of asked = says.Request asked

-- at a place among lines stands one that asks the command
pub record StandsAt (lines : List (List ℕ)) (place : CommandPlace) (command : Request) : Type 0
  where
    pub line : List ℕ
    pub there : slice_get lines place.line ≡ Some line
    pub said : statement_of line ≡ Some (Some (said_of command))

-- of a script that is understood there are as many places as commands, and at each stands the line of its command
abbrev pub CommandsHavePlaces : Type 0
CommandsHavePlaces =
    (text : List ℕ) (commands : List Request) → IsUnderstood text commands
    → AllZip (StandsAt (lines_of text)) (script_lines_of (lines_of text)).commands commands
