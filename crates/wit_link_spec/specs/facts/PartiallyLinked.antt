-- A partially linked graph: so many worlds of a package are finished, and those to come stand behind them as they are listed.
use Rattle.wit_digraph.specs.Relation.{IsAcyclic}
use Rattle.wit_data.specs.Kind.{type_references}
use Rattle.wit_data.specs.Uses.{uses_of}
use Rattle.wit_graph_data.specs.declared.graph.Graph.{Graph}
use Rattle.wit_graph_theory.specs.facts.Good.{HasGoodItems}
use Rattle.wit_graph_theory.specs.steps.UnnamedOnce.{StandsOnceOnly}

-- its types, interfaces and worlds are good, no type refers to itself, no interface uses itself, and an interface without
-- a name stands in one place
pub record IsSoundSoFar (g : Graph) : Type 0 where
  pub items : HasGoodItems g
  pub references : IsAcyclic (type_references g.types)
  pub uses : IsAcyclic (uses_of g.types g.interfaces)
  pub once : StandsOnceOnly g.interfaces g.worlds
