use Rattle.std.proofs.Common.{◌≡◌, Some, rules}
use Rattle.wit_graph_data.specs.Named.{package_named}
use Rattle.wit_script_explain.proofs.Explained.{select-refused}
use Rattle.wit_script_explain.proofs.refusals.select.Goals as goal

pub returns-in-Err : goal.returns-in-Err
returns-in-Err c =
    let there : package_named c.args.tracked.now.resolve.graph c.args.owner.now ≡ Some c.in-Some.id.now = search rules in
    select-refused c.args.script.now c.args.place.now c.args.tracked.now c.args.owner.now c.args.text.now c.in-Some.id.now c.in-Err.refusal c.refusal_text.result there c.in-Err.ensures.cause c.refusal_text.ensures
