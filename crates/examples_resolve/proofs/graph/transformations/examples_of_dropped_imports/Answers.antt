use Rattle.std.proofs.Common.{◌≡◌, refl, ap, arith}
use Rattle.wit_digraph.specs.PostOrder.{post_order, post_order_within}
use Rattle.examples_resolve.proofs.OfGraphs.Transformed.{first_params, import_count}
use Rattle.examples_resolve.proofs.graph.transformations.examples_of_dropped_imports.Goals as goal

pub returns : goal.returns
unfolding post_order post_order_within
returns c = record {
  interface = refl;
  interface_not_kept = λ same. let apart : 1 ≡ 2 = ap import_count same in absurd (omega (arith, apart));
  labelled = refl;
  labelled_not_kept = λ same. let apart : 1 ≡ 2 = ap import_count same in absurd (omega (arith, apart));
  function = refl;
  function_not_kept = λ same. let apart : 1 ≡ 2 = ap import_count same in absurd (omega (arith, apart));
  same_label = refl;
  not_that_of_the_imports = λ same. let apart : 1 ≡ 0 = ap first_params same in absurd (omega (arith, apart));
  all = refl;
  not_as_it_was = λ same. let apart : 0 ≡ 3 = ap import_count same in absurd (omega (arith, apart));
}
