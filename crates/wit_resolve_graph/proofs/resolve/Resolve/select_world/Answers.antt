use Rattle.std.proofs.Common.{ℕ, ◌<◌, IfOk, length, option_copied, subst, sym}
use Rattle.wit_elaboration.specs.Valid.{IsValid}
use Rattle.wit_graph_data.specs.declared.graph.Graph.{Graph}
use Rattle.wit_resolve_graph.proofs.ChosenWorlds.{chosen_within}
use Rattle.wit_resolve_graph.proofs.resolve.Resolve.select_world.Goals as goal

pub returns-clause-within : goal.returns-clause-within
returns-clause-within c =
    subst (λ (g : Graph). IfOk c.select_world.result (λ (id : ℕ). id < length g.worlds)) c.graph.ensures.value
    (chosen_within c.graph.result.now c.args.main_packages.now (option_copied c.args.world) c.select_world.result (subst (λ (g : Graph). IsValid g) (sym c.graph.ensures.value) c.graph.ensures.valid) c.select_world.ensures)
