use Rattle.std.proofs.Common.{◌≡◌, ◌∙◌, rules, sym, subst}
use Rattle.wit_graph_data.specs.declared.cause.Cause.TheVariants.{InterfaceCycle}
use Rattle.wit_graph_data.specs.declared.error_kind.ResolveErrorKind.{ResolveErrorKind}
use Rattle.wit_graph_data.specs.declared.error_kind.ResolveErrorKind.TheVariants.{Semantic}
use Rattle.wit_ways.specs.Told.{IsTold}
use Rattle.wit_ways.proofs.Outcomes.{if_ok}
use Rattle.wit_ways.proofs.told_way.way_of.Goals as goal

pub returns-in-InvalidTransitiveDependency : goal.returns-in-InvalidTransitiveDependency
returns-in-InvalidTransitiveDependency c =
    if_ok c.conflict_way.result c.conflict_way.ensures
    (λ way is. subst (λ (k : ResolveErrorKind). IsTold c.args.resolve.now c.args.asked.now k way) (sym c.in-InvalidTransitiveDependency.is) is)

pub returns-in-Semantic-default-default-InterfaceCycle : goal.returns-in-Semantic-default-default-InterfaceCycle
returns-in-Semantic-default-default-InterfaceCycle c =
    let it = c.in-Semantic-default-default-InterfaceCycle in
    let kind_is : c.args.kind.now ≡ Semantic it.span it.message InterfaceCycle = search rules in
    if_ok c.interface_round.result c.interface_round.ensures
    (λ way is.
    subst (λ (k : ResolveErrorKind). IsTold c.args.resolve.now c.args.asked.now k way) (sym kind_is)
    (λ name told. is name (c.as_str.ensures ∙ told)))
