-- The worked graphs.
use Rattle.std.proofs.Common.{refl}
use Rattle.wit_digraph.specs.PostOrder.{post_order, post_order_within}
use Rattle.examples_resolve.specs.graph.Worked.{ExamplesOfWorked}

pub worked : ExamplesOfWorked
unfolding post_order post_order_within
worked = record {
  exported = refl;
  derived = refl;
  setter = refl;
  getter_comes = refl;
  include_off = refl;
  include_on = refl;
  half = refl;
  whole = refl;
  own_of_alias = refl;
  moved = refl;
}
