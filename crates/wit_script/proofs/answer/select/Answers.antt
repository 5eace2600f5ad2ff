use Rattle.std.proofs.Common.{◌≡◌, Some, rules}
use Rattle.wit_graph_data.specs.Named.{package_named}
use Rattle.wit_script.proofs.Told.{selected_some}
use Rattle.wit_script.proofs.answer.select.Goals as goal

pub returns-in-Some : goal.returns-in-Some
returns-in-Some c =
    let there : package_named c.args.resolve.now.graph c.args.owner.now ≡ Some c.in-Some.id.now = search rules in
    selected_some c.args.resolve.now.graph c.args.owner.now c.args.text.now c.in-Some.id.now c.selected.result c.told.result there c.selected.ensures.ok c.selected.ensures.cause c.told.ensures
