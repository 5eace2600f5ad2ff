use Rattle.std.proofs.Common.{◌≡◌, is_some, string_bytes}
use Rattle.std.specs.Vec.Iter.{into_iter_items}
use Rattle.wit_script_explain.specs.steps.Explained.{rest_after}
use Rattle.witgraph_dot.proofs.stage.Stage.after.Given as goal
use Rattle.witgraph_dot.specs.Made.{ScriptMakes}
use Rattle.wit_script.specs.steps.Ready.{CanAllBeAsked}

-- what there is after the commands so far, the places of those that are left, and that these can be asked
abbrev pub invariant-loop-command : goal.invariant-loop-command
invariant-loop-command l = record {
  made : ScriptMakes l.script l.yielded (string_bytes l.all) l.stage;
  places : l.places ≡ rest_after l.script.commands l.yielded;
  come : CanAllBeAsked (into_iter_items l.command-iterator) (is_some l.stage.desk.second);
}
