use Rattle.std.proofs.Common.{◌≡◌, Some, None, rules}
use Rattle.wit_script_explain.proofs.Staged.{changes-first, changes-second}
use Rattle.wit_script_explain.proofs.refusals.change_graph.Goals as goal

pub returns-in-Some : goal.returns-in-Some
returns-in-Some c =
    let there : c.args.desk.now.second ≡ Some c.in-Some.second = search rules in
    changes-second c.args.script.now c.args.place.now c.args.desk.now c.args.change c.coming_packages-coming.result.now c.coming_packages-coming.ensures c.explain_reply.result c.in-Some.second c.explain_reply.new.tracked there
    (rw c.command_of-command.ensures at c.explain_reply.ensures)

pub returns-in-None : goal.returns-in-None
returns-in-None c =
    let closed : c.args.desk.now.second ≡ None = search rules in
    changes-first c.args.script.now c.args.place.now c.args.desk.now c.args.change c.coming_packages-coming.result.now c.coming_packages-coming.ensures c.explain_reply-in-None.result c.explain_reply-in-None.new.tracked closed
    (rw c.command_of-command.ensures at c.explain_reply-in-None.ensures)
