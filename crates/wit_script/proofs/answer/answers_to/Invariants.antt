use Rattle.std.proofs.Common.{string_bytes, is_some}
use Rattle.std.specs.Vec.Iter.{into_iter_items}
use Rattle.wit_resolve_graph.specs.State.{new_state}
use Rattle.wit_script.specs.Answer.{Answers, InTurn, only_first}
use Rattle.wit_script.proofs.answer.answers_to.Given as goal
use Rattle.wit_script.specs.steps.Ready.{CanAllBeAsked}

-- the answers so far, and the commands that are left can be asked
abbrev pub invariant-loop-command : goal.invariant-loop-command
invariant-loop-command l = record {
  answered : InTurn Answers (only_first new_state) l.yielded (string_bytes l.answers) l.stage;
  come : CanAllBeAsked (into_iter_items l.command-iterator) (is_some l.stage.second);
}
