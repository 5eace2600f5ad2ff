use Rattle.std.proofs.Common.{◌∙◌, sym}
use Rattle.wit_script.proofs.Told.{printed_some}
use Rattle.wit_script.proofs.answer.print.Goals as goal

pub returns-in-Some : goal.returns-in-Some
returns-in-Some c =
    printed_some c.args.resolve.now.graph c.args.owner.now c.args.world.now c.in-Some.id c.print_world.result c.told.result
    (sym (rw c.as_str.ensures at c.world_named.ensures.id) ∙ c.in-Some.is) c.print_world.ensures.text c.print_world.ensures.memory c.told.ensures
