use Rattle.std.proofs.Common.{ℕ, ◌<◌, IfSome, length, sym, subst}
use Rattle.wit_elaboration.specs.Valid.{IsValid}
use Rattle.wit_graph_data.specs.declared.graph.Graph.{Graph}
use Rattle.wit_resolve_graph.specs.facts.NamedWorlds.{found_within}
use Rattle.wit_resolve_graph.proofs.resolve.Resolve.world_named.Goals as goal

pub returns-clause-within : goal.returns-clause-within
returns-clause-within c =
    let graph = c.graph-graph.result.now in
    let valid = subst IsValid (sym c.graph-graph.ensures.value) c.graph-graph.ensures.valid in
    subst (λ (g : Graph). IfSome c.world_in.result (λ (w : ℕ). w < length g.worlds)) c.graph-graph.ensures.value
    (found_within graph valid c.args.name.now c.in_ok-package.package.now c.world_in.result c.world_in.ensures)
