-- Words of inner contracts and proofs, beside `Ready`.
use Rattle.std.specs.Prelude.{Bool, IsTrue, is_some, List, [], ◌∷◌, Option, Some, option_and_then}
use Rattle.wit_script_lines.specs.declared.request.Request.{Request}
use Rattle.wit_script_lines.specs.declared.statement.Statement.{Statement}
use Rattle.wit_script_lines.specs.declared.statement.Statement.TheVariants as says
use Rattle.wit_script.specs.Ready.{IsReady, other_after}

-- a command can be asked where an `other` waits or none does
abbrev pub CanBeAsked : Request → Bool → Type 0
CanBeAsked command other = IsTrue (is_some (other_after command other))

-- what a line says, where it asks a command, is a command whose packages have their shape
abbrev pub IsReadyStatement : Statement → Type 0
IsReadyStatement (says.Request asked) = IsReady asked
IsReadyStatement _ = Unit {0}

-- the same after some commands, one after another
abbrev pub other_after_all : List Request → Bool → Option Bool
other_after_all [] other = Some other
other_after_all (command ∷ commands) other =
    option_and_then (other_after_all commands) (other_after command other)

-- commands can be asked, each after those before it
abbrev pub CanAllBeAsked : List Request → Bool → Type 0
CanAllBeAsked commands other = IsTrue (is_some (other_after_all commands other))
