-- What is known of a graph beside it.
use Rattle.std.specs.Prelude.{◌≡◌, length, take}
use Rattle.wit_elaboration.specs.Elaboration.{graph_uses}
use Rattle.wit_graph_data.specs.declared.graph.Graph.{Graph}
use Rattle.wit_link.specs.declared.caches.GraphCaches.{GraphCaches}
use Rattle.wit_link_resources.specs.steps.Leading.{AreRight}

-- caches of a graph: which of its interfaces use which, and of types of it whether they lead to a resource along aliases
pub record AreCachesOf (graph : Graph) (caches : GraphCaches) : Type 0 where
  pub uses : caches.elaborator ≡ graph_uses graph
  pub met : AreRight graph.types caches.met

-- all that was known of the old graph is known of the new one, in front
pub record HaveGrown (old new : GraphCaches) : Type 0 where
  pub rows : take (length old.elaborator) new.elaborator ≡ old.elaborator
  pub met : take (length old.met) new.met ≡ old.met
