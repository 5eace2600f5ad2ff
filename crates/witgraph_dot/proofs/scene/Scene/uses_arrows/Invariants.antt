use Rattle.std.proofs.Common.{◌≡◌, ◌++◌, ℕ, List, filter}
use Rattle.wit_graph_data.specs.Queries.{interface_direct_deps}
use Rattle.wit_digraph.specs.PostOrder.{first_of_each, fresh}
use Rattle.witgraph_dot.specs.Sets.{is_one_of}
use Rattle.witgraph_dot.specs.Scene.{View}
use Rattle.witgraph_dot.proofs.scene.Scene.uses_arrows.Given as goal
use Rattle.witgraph_dot.specs.steps.Parts.{view_of}

-- the interfaces that interface i uses and that are shown, each once
abbrev shown_uses : View → ℕ → List ℕ
shown_uses v i = first_of_each (filter (is_one_of v.interfaces) (interface_direct_deps v.graph.types v.graph.interfaces i))

-- those so far, and those that are left and aren't among them
abbrev pub invariant-loop-interface : goal.invariant-loop-interface
invariant-loop-interface l = l.used.items ++ fresh l.used.items (filter (is_one_of l.self.interfaces.items) l.interface-iterator) ≡ shown_uses (view_of l.self) l.fn.user
