use Rattle.std.proofs.Common.{◌≡◌, Some, rules}
use Rattle.wit_graph_data.specs.Named.{package_named}
use Rattle.wit_json_commands.proofs.Within.{package_within}
use Rattle.wit_json_commands.proofs.questions.dependencies.package_dependencies.Goals as goal

pub packages_of-requires : goal.packages_of-requires
packages_of-requires c =
    let named : package_named c.args.graph.now c.args.«package».now ≡ Some c.in-Some.id.now = search rules in
    package_within c.args.graph.now c.requires c.args.«package».now c.in-Some.id.now named
