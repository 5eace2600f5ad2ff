use Rattle.std.proofs.Common.{◌≡◌, refl, ap, arith}
use Rattle.wit_digraph.specs.PostOrder.{post_order, post_order_within}
use Rattle.examples_resolve.proofs.OfGraphs.Transformed.{import_count}
use Rattle.examples_resolve.proofs.graph.transformations.examples_of_kept_imports.Goals as goal

pub returns : goal.returns
unfolding post_order post_order_within
returns c = record {
  types_stay = refl;
  not_exports_alone = λ same. let apart : 4 ≡ 2 = ap import_count same in absurd (omega (arith, apart));
  own_not_dropped = λ same. let apart : 4 ≡ 3 = ap import_count same in absurd (omega (arith, apart));
  use_not_dropped = λ same. let apart : 4 ≡ 3 = ap import_count same in absurd (omega (arith, apart));
  needed_again = refl;
  not_types_alone = λ same. let apart : 3 ≡ 2 = ap import_count same in absurd (omega (arith, apart));
  not_needed = refl;
  not_kept = λ same. let apart : 3 ≡ 4 = ap import_count same in absurd (omega (arith, apart));
}
