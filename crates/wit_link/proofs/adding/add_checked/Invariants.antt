use Rattle.std.proofs.Common.{◌≡◌, ◌++◌}
use Rattle.std.specs.Vec.Iter.{into_iter_items}
use Rattle.wit_elaboration.specs.Elaboration.{graph_uses}
use Rattle.wit_remap.specs.Grown.{Begins, Grown}
use Rattle.wit_link.specs.Appending.{addition}
use Rattle.wit_link.specs.steps.Including.{ready_worlds}
use Rattle.wit_link.proofs.WorldStages.{IsAdding}
use Rattle.wit_link.proofs.adding.add_checked.Given as goal

-- the worlds so far are added, and those to come
abbrev pub invariant-loop-updated : goal.invariant-loop-updated
invariant-loop-updated l = record {
  adding : IsAdding (addition l.fn.features l.fn.graph l.fn.package l.fn.span_offset) l.yielded l.graph;
  uses : l.elaborator ≡ graph_uses l.graph;
  grown : Grown l.fn.graph l.graph;
  rows : Begins l.fn.elaborator l.elaborator;
  left : l.yielded ++ into_iter_items l.updated-iterator ≡ ready_worlds (addition l.fn.features l.fn.graph l.fn.package l.fn.span_offset);
}
