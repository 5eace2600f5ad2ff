-- Merges against which no cause holds.
use Rattle.std.proofs.Common.{◌-◌, refl}
use Rattle.wit_digraph.specs.PostOrder.{post_order, post_order_within}
use Rattle.wit_merge_spec.specs.Structure.{structure, structure_within}
use Rattle.examples_resolve.proofs.OfMerges.Passing.{can_merge}
use Rattle.examples_resolve.specs.merge.Refusals.{ExamplesOfAccepted}

pub accepted : ExamplesOfAccepted
unfolding post_order post_order_within structure structure_within
accepted = record {
  nothing_comes = can_merge _ (record { interfaces = refl; worlds = refl; types = refl; rank = λ i. i; uses = refl; packages = refl; exports = refl; gates = record { types = refl; interfaces = refl; worlds = refl }; results = refl; spans = refl });
  itself = can_merge _ (record { interfaces = refl; worlds = refl; types = refl; rank = λ i. i; uses = refl; packages = refl; exports = refl; gates = record { types = refl; interfaces = refl; worlds = refl }; results = refl; spans = refl });
  grown = can_merge _ (record { interfaces = refl; worlds = refl; types = refl; rank = λ i. i; uses = refl; packages = refl; exports = refl; gates = record { types = refl; interfaces = refl; worlds = refl }; results = refl; spans = refl });
  resource = can_merge _ (record { interfaces = refl; worlds = refl; types = refl; rank = λ i. i; uses = refl; packages = refl; exports = refl; gates = record { types = refl; interfaces = refl; worlds = refl }; results = refl; spans = refl });
  first_order = can_merge _ (record { interfaces = refl; worlds = refl; types = refl; rank = λ i. i; uses = refl; packages = refl; exports = refl; gates = record { types = refl; interfaces = refl; worlds = refl }; results = refl; spans = refl });
  second_order = can_merge _ (record { interfaces = refl; worlds = refl; types = refl; rank = λ i. i; uses = refl; packages = refl; exports = refl; gates = record { types = refl; interfaces = refl; worlds = refl }; results = refl; spans = refl });
  elaborated = can_merge _ (record { interfaces = refl; worlds = refl; types = refl; rank = λ i. 1 - i; uses = refl; packages = refl; exports = refl; gates = record { types = refl; interfaces = refl; worlds = refl }; results = refl; spans = refl });
  into_nothing = can_merge _ (record { interfaces = refl; worlds = refl; types = refl; rank = λ i. i; uses = refl; packages = refl; exports = refl; gates = record { types = refl; interfaces = refl; worlds = refl }; results = refl; spans = refl });
  less = can_merge _ (record { interfaces = refl; worlds = refl; types = refl; rank = λ i. i; uses = refl; packages = refl; exports = refl; gates = record { types = refl; interfaces = refl; worlds = refl }; results = refl; spans = refl });
  no_own = can_merge _ (record { interfaces = refl; worlds = refl; types = refl; rank = λ i. i; uses = refl; packages = refl; exports = refl; gates = record { types = refl; interfaces = refl; worlds = refl }; results = refl; spans = refl });
  not_owned = can_merge _ (record { interfaces = refl; worlds = refl; types = refl; rank = λ i. i; uses = refl; packages = refl; exports = refl; gates = record { types = refl; interfaces = refl; worlds = refl }; results = refl; spans = refl });
  inner_joined = can_merge _ (record { interfaces = refl; worlds = refl; types = refl; rank = λ i. i; uses = refl; packages = refl; exports = refl; gates = record { types = refl; interfaces = refl; worlds = refl }; results = refl; spans = refl });
  function_once = can_merge _ (record { interfaces = refl; worlds = refl; types = refl; rank = λ i. i; uses = refl; packages = refl; exports = refl; gates = record { types = refl; interfaces = refl; worlds = refl }; results = refl; spans = refl });
  world_comes = can_merge _ (record { interfaces = refl; worlds = refl; types = refl; rank = λ i. i; uses = refl; packages = refl; exports = refl; gates = record { types = refl; interfaces = refl; worlds = refl }; results = refl; spans = refl });
  types_once = can_merge _ (record { interfaces = refl; worlds = refl; types = refl; rank = λ i. i; uses = refl; packages = refl; exports = refl; gates = record { types = refl; interfaces = refl; worlds = refl }; results = refl; spans = refl });
  packages = can_merge _ (record { interfaces = refl; worlds = refl; types = refl; rank = λ i. i; uses = refl; packages = refl; exports = refl; gates = record { types = refl; interfaces = refl; worlds = refl }; results = refl; spans = refl });
  package_comes = can_merge _ (record { interfaces = refl; worlds = refl; types = refl; rank = λ i. i; uses = refl; packages = refl; exports = refl; gates = record { types = refl; interfaces = refl; worlds = refl }; results = refl; spans = refl });
  gate_comes = can_merge _ (record { interfaces = refl; worlds = refl; types = refl; rank = λ i. i; uses = refl; packages = refl; exports = refl; gates = record { types = refl; interfaces = refl; worlds = refl }; results = refl; spans = refl });
  gate_stays = can_merge _ (record { interfaces = refl; worlds = refl; types = refl; rank = λ i. i; uses = refl; packages = refl; exports = refl; gates = record { types = refl; interfaces = refl; worlds = refl }; results = refl; spans = refl });
  moved = can_merge _ (record { interfaces = refl; worlds = refl; types = refl; rank = λ i. i; uses = refl; packages = refl; exports = refl; gates = record { types = refl; interfaces = refl; worlds = refl }; results = refl; spans = refl });
}
