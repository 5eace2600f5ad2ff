use Rattle.std.proofs.Common.{◌≡◌, Some, None, rules}
use Rattle.wit_script.proofs.Staged.{changes-first, changes-second}
use Rattle.wit_script.proofs.answer.Stage.change.Goals as goal

pub returns-in-Some : goal.returns-in-Some
returns-in-Some c =
    let there : c.args.self.now.second ≡ Some c.in-Some.second = search rules in
    changes-second c.args.self.now c.args.change c.reply_to.result c.in-Some.second c.reply_to.new.resolve there
    (rw (c.is_setting-is_setting.ensures, c.command_of-command.ensures) at c.reply_to.ensures)

pub returns-in-None : goal.returns-in-None
returns-in-None c =
    let closed : c.args.self.now.second ≡ None = search rules in
    changes-first c.args.self.now c.args.change c.reply_to-in-None.result c.reply_to-in-None.new.resolve closed
    (rw (c.is_setting-is_setting.ensures, c.command_of-command.ensures) at c.reply_to-in-None.ensures)
