use Rattle.std.proofs.Common.{◌≡◌, ◌∙◌, [], List, Bool, Option, Some, IfOk, slice_get, sym, ap, subst}
use Rattle.std.specs.Option.{option_map_or}
use Rattle.wit_data.specs.declared.world.World.{World}
use Rattle.wit_graph_data.specs.declared.graph.Graph.{Graph}
use Rattle.wit_resolve_graph.specs.steps.Parts.{listed_answers}
use Rattle.wit_resolve_graph.proofs.ListedKeys.{answers_alike}
use Rattle.wit_resolve_graph.proofs.transformations.world_answers.Goals as goal

pub returns-clause-ok : goal.returns-clause-ok
returns-clause-ok c =
    let g : Graph = c.graph-graph.result.now in
    let whole : Graph = c.args.resolve.now.graph in
    let same : g ≡ whole = c.graph-graph.ensures.value in
    let current : World = c.at-current.result.now in
    let keys = c.args.keys.now in
    let there : slice_get whole.worlds c.args.world ≡ Some current =
    ap (λ (x : Graph). slice_get x.worlds c.args.world) (sym same) ∙ ap (slice_get g.worlds) (sym c.index.ensures) ∙ c.at-current.ensures in
    subst (λ (is : List Bool). IfOk c.key_answers.result (λ answers. answers ≡ is))
    (answers_alike g c.in_ok-listed.listed keys c.in_ok-listed.ensures current.imports
    ∙ ap (λ (x : Graph). listed_answers x keys current.imports) same
    ∙ ap (λ (o : Option World). listed_answers whole keys (option_map_or (λ (world : World). world.imports) o [])) (sym there))
    c.key_answers.ensures.ok
