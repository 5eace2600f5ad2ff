-- Which commands may be asked: packages that are pushed have their shape, and of `other` and `merge` each comes where it may.
use Rattle.std.specs.Prelude.{Bool, true, false, List, Option, Some, None}
use Rattle.std.specs.List.{AllByRecursion}
use Rattle.wit_resolve_graph.specs.Step.{IsCommandShaped, command_of}
use Rattle.wit_script_lines.specs.declared.request.Request.{Request}
use Rattle.wit_script_lines.specs.declared.request.Request.TheVariants as request

-- ---- packages

-- a command whose packages have the shape that a graph takes
abbrev pub IsReady : Request → Type 0
IsReady (request.Change change) = IsCommandShaped (command_of change)
IsReady _ = Unit {0}

abbrev pub AreReady : List Request → Type 0
AreReady commands = AllByRecursion IsReady commands

-- ---- `other` and `merge`

-- whether an `other` waits for its `merge` after a command, where one waited before or none did; None where the command
-- can't be asked then: `other` once more, or `merge` without it
abbrev pub other_after : Request → Bool → Option Bool
other_after request.Other true = None
other_after request.Other false = Some true
other_after request.Merge true = Some false
other_after request.Merge false = None
other_after _ other = Some other
