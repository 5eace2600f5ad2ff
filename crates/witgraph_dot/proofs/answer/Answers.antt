use Rattle.std.proofs.Common.{string_bytes}
use Rattle.wit_script.specs.facts.Waiting.{understood-come}
use Rattle.wit_script_lines.specs.Line.{lines_of}
use Rattle.witgraph_dot.proofs.Viewed.{drawn-by}
use Rattle.witgraph_dot.proofs.answer.Goals as goal

pub after-requires : goal.after-requires
after-requires c = understood-come c.args.script.now c.in-Ok.commands c.in-Ok.ensures.ok

pub returns-in-Ok : goal.returns-in-Ok
returns-in-Ok c =
    drawn-by c.args.script.now (string_bytes c.in_ok-draw-in-Ok.field-0) c.in_ok-lines.lines c.in_ok-lines.ensures c.in-Ok.commands c.in-Ok.ensures.ok
    (string_bytes c.in_ok-stage-in-Ok.note) c.in_ok-stage-in-Ok.stage c.in_ok-stage-in-Ok.ensures c.in_ok-choice-in-Ok.choice c.in_ok-choice-in-Ok.ensures
    c.deref.result.now c.deref.ensures c.in_ok-draw-in-Ok.ensures
