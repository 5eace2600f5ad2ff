use Rattle.std.proofs.Common.{◌≡◌, Option, Some, None, rules, subst, sym}
use Rattle.wit_resolve_graph.specs.State.{State}
use Rattle.wit_script.proofs.Staged.{AreAnswers, merges}
use Rattle.wit_script_lines.specs.declared.request.Request.TheVariants as request
use Rattle.wit_script.proofs.answer.Stage.merge.Goals as goal

pub returns : goal.returns
returns c =
    let there : c.args.self.now.second ≡ Some c.in-Some.second = search rules in
    let gone : c.take.new.self ≡ None = search rules in
    subst (λ (s : Option State). AreAnswers c.args.self.now request.Merge c.reply_to.result (record { first = c.reply_to.new.resolve; second = s }))
    (sym gone)
    (merges c.args.self.now c.reply_to.result c.in-Some.second c.reply_to.new.resolve there c.reply_to.ensures)
