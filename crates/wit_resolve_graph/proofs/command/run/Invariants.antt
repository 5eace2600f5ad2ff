use Rattle.std.proofs.Common.{◌+◌, ◌≤◌, length, vec_capacity, vec_len}
use Rattle.std.specs.List.{AllByRecursion}
use Rattle.std.specs.Vec.Iter.{into_iter_items}
use Rattle.wit_resolve_graph.specs.Step.{IsCommandShaped, Run}
use Rattle.wit_resolve_graph.proofs.command.run.Given as goal

-- there is room for the replies that are left, the commands that are left have their shape, and those so far
-- are run
abbrev pub invariant-loop-command : goal.invariant-loop-command
invariant-loop-command l = record {
  room : vec_len l.replies + length (into_iter_items l.command-iterator) ≤ vec_capacity l.replies;
  shaped : AllByRecursion IsCommandShaped (into_iter_items l.command-iterator);
  run : Run l.initial.resolve l.yielded l.replies.items l.resolve;
}
