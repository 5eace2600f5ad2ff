use Rattle.std.proofs.Common.{◌≡◌, take, length}
use Rattle.wit_elaboration.specs.steps.Closures.{IsMarkRow}
use Rattle.wit_elaboration.proofs.passes.mark_leading.Given as goal

abbrev pub invariant-loop-node : goal.invariant-loop-node
invariant-loop-node l = record {
  marked : IsMarkRow l.uses (take l.node-index l.order) (λ t. t ≡ l.to) l.marks;
  long : length l.marks ≡ length l.fn.marks;
}
