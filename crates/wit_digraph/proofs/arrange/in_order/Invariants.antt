use Rattle.wit_digraph.proofs.Arranging.{IsArranging}
use Rattle.wit_digraph.proofs.arrange.in_order.Given as goal

abbrev pub invariant-loop-place : goal.invariant-loop-place
invariant-loop-place g l = IsArranging l.fn.items l.order l.place-index l.slots l.arranged
