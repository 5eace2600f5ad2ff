use Rattle.std.proofs.Common.{◌≡◌, is_some, string_bytes}
use Rattle.std.specs.Vec.Iter.{into_iter_items}
use Rattle.wit_script.specs.Answer.{InTurn}
use Rattle.wit_script_explain.specs.Desk.{new_desk}
use Rattle.wit_script_explain.specs.Explained.{ExplainsPlaced, with_places}
use Rattle.wit_script_explain.specs.steps.Explained.{rest_after}
use Rattle.wit_script_explain.proofs.refusals.refusals_to.Given as goal
use Rattle.wit_script.specs.steps.Ready.{CanAllBeAsked}

-- what is told of the commands so far, the places of those that are left, and that these can be asked
abbrev pub invariant-loop-command : goal.invariant-loop-command
invariant-loop-command l = record {
  told : InTurn (ExplainsPlaced l.script) new_desk (with_places l.script l.script.commands l.yielded) (string_bytes l.all) l.desk;
  places : l.places ≡ rest_after l.script.commands l.yielded;
  come : CanAllBeAsked (into_iter_items l.command-iterator) (is_some l.desk.second);
}
