use Rattle.std.proofs.Common.{◌≡◌, Some, rules}
use Rattle.wit_json_commands.specs.Tells.{interface_id_named}
use Rattle.wit_json_commands.proofs.Within.{interface_within}
use Rattle.wit_json_commands.proofs.questions.dependencies.interface_dependencies.Goals as goal

pub interfaces_of-requires : goal.interfaces_of-requires
interfaces_of-requires c =
    let named : interface_id_named c.args.graph.now c.args.«package».now c.args.interface.now ≡ Some c.in-Some.id = search rules in
    interface_within c.args.graph.now c.requires c.args.«package».now c.args.interface.now c.in-Some.id named
