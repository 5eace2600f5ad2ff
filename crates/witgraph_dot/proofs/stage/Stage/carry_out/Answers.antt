use Rattle.std.proofs.Common.{◌∙◌, ap, is_some, string_bytes, subst, sym}
use Rattle.wit_script.specs.steps.Ready.{CanBeAsked}
use Rattle.wit_script_lines.specs.declared.request.Request.{Request}
use Rattle.wit_script_explain.specs.Desk.{working}
use Rattle.witgraph_dot.proofs.Staged.{makes}
use Rattle.witgraph_dot.proofs.stage.Stage.carry_out.Goals as goal
use Rattle.witgraph_dot.specs.Effects.{request_effect}

pub returns : goal.returns
returns c =
    makes c.args.script.now c.args.place.now c.args.self.now c.list.new.self c.args.command c.new-command.result (string_bytes c.in_ok-reply.field-0.text) c.explain_command.new.desk c.in_ok-effect.effect
    c.in_ok-reply.field-0.reply (c.new-command.ensures ∙ c.into_request-request.ensures.same)
    (c.in_ok-effect.ensures ∙ ap (request_effect (working c.args.self.now.desk).resolve.graph) c.into_request-request.ensures.same) c.in_ok-reply.ensures c.in_ok-check_memory.ensures c.in_ok-list.ensures

pub explain_command-requires : goal.explain_command-requires
explain_command-requires c =
    subst (λ (r : Request). CanBeAsked r (is_some c.args.self.now.desk.second)) (sym (c.new-command.ensures ∙ c.into_request-request.ensures.same)) c.requires
