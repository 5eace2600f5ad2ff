use Rattle.std.proofs.Common.{◌≡◌, ◌∙◌, Some, rules}
use Rattle.wit_resolve_graph.specs.declared.command.Reply.TheVariants as reply
use Rattle.witgraph_dot.proofs.Staged.{no-want}
use Rattle.witgraph_dot.proofs.stage.check_memory.Goals as goal

pub returns-in_default-kind : goal.returns-in_default-kind
returns-in_default-kind c =
    let is : c.args.reply.now ≡ Some (reply.Refused c.in-Some-Refused.refusal) = search rules in
    no-want c.in-Some-Refused.refusal c.args.reply.now is (λ same. c.in_default-kind.not-OutOfMemory (c.kind.ensures ∙ same))
