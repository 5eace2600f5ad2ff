use Rattle.std.proofs.Common.{string_bytes}
use Rattle.wit_script.specs.facts.Waiting.{understood-come}
use Rattle.wit_script_explain.proofs.Explained.{told_understood}
use Rattle.wit_script_explain.proofs.refusals.explain_text.Goals as goal

pub refusals_to-requires : goal.refusals_to-requires
refusals_to-requires c = understood-come c.args.script.now c.in-Ok.commands c.in-Ok.ensures.ok

pub returns-in-Ok-refusals_to : goal.returns-in-Ok-refusals_to
returns-in-Ok-refusals_to c =
    told_understood c.args.script.now (string_bytes c.in-Ok-refusals_to.text) c.in_ok-lines.lines c.in-Ok.commands c.in-Ok-refusals_to.ensures.0 c.utf8.script c.in_ok-lines.ensures
    c.in-Ok.ensures.ok c.in-Ok-refusals_to.ensures.1
