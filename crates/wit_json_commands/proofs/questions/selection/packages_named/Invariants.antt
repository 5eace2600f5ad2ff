use Rattle.std.proofs.Common.{◌≡◌, drop}
use Rattle.wit_json_commands.specs.Tells.{packages_named}
use Rattle.wit_json_commands.proofs.Named.{ids_before}
use Rattle.wit_json_commands.proofs.questions.selection.packages_named.Given as goal

-- those so far are there, and those that are left decide
abbrev pub invariant-loop-name : goal.invariant-loop-name
invariant-loop-name l = packages_named l.graph l.names ≡ ids_before l.ids.items (packages_named l.graph (drop l.name-index l.names))
