use Rattle.std.proofs.Common.{◌≡◌, IfOk, None, Option, Some, rules, string_bytes, subst, sym}
use Rattle.wit_resolve_graph.specs.declared.command.Command.TheVariants.{Merge}
use Rattle.wit_script_explain.specs.steps.Explained.{ExplainsReply}
use Rattle.wit_script_explain.specs.declared.desk.TrackedGraph.{TrackedGraph}
use Rattle.wit_script_explain.specs.declared.outcome.Outcome.{Outcome}
use Rattle.wit_script_explain.proofs.Staged.{AreTold, merges}
use Rattle.wit_script_lines.specs.declared.request.Request.TheVariants as request
use Rattle.wit_script_explain.proofs.refusals.merge.Goals as goal

pub returns : goal.returns
returns c =
    let second = c.in-Some.second in
    let there : c.args.desk.now.second ≡ Some second = search rules in
    let gone : c.take.new.self ≡ None = search rules in
    let told : IfOk c.explain_reply.result (λ (outcome : Outcome). ExplainsReply c.args.script.now c.args.place.now c.args.desk.now.first (Merge second.resolve) second.file_starts second.package_starts outcome.reply
    (string_bytes outcome.text) c.explain_reply.new.tracked) = search rules in
    subst (λ (s : Option TrackedGraph). AreTold c.args.script.now c.args.place.now c.args.desk.now request.Merge c.explain_reply.result (record { first = c.explain_reply.new.tracked; second = s }))
    (sym gone)
    (merges c.args.script.now c.args.place.now c.args.desk.now c.explain_reply.result second c.explain_reply.new.tracked there told)
