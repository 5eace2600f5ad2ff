use Rattle.std.proofs.Common.{◌∙◌, ◌≡◌, ◌<◌, List, [], ℕ, All, length, ap, sym, subst, arith}
use Rattle.std.specs.List.{flat_map}
use Rattle.wit_digraph.specs.Relation.{IsAcyclic}
use Rattle.wit_data.specs.declared.types.TypeDef.{TypeDef}
use Rattle.wit_graph_data.specs.facts.ContentFacts.{contents_acyclic, held_long}
use Rattle.wit_graph_data.specs.Queries.{type_contents}
use Rattle.wit_queries.specs.steps.Unfolding.{futures_of, places_within}
use Rattle.wit_queries.proofs.Unfolds.{told_within, within_below}
use Rattle.wit_queries.proofs.futures.find_futures_and_streams.Goals as goal
use Rattle.wit_data.specs.Kind.{signature_types}

pub returns-then-is_empty-clause-found : goal.returns-then-is_empty-clause-found
returns-then-is_empty-clause-found c =
    let types : List TypeDef = c.args.graph.now.types in
    let ts : List ℕ = signature_types c.args.function.now in
    let none : places_within (length types) ts ≡ [] =
    sym (ap (λ (ds : List TypeDef). places_within (length ds) ts) c.as_slice-types.ensures) ∙ sym c.in_ok-places.ensures ∙ c.is_empty.ensures.0 c.if-is_empty.true in
    c.new.ensures.items ∙ ap (flat_map (futures_of types (type_contents types))) (sym none) ∙ told_within types (type_contents types) ts (held_long types)

pub futures_below-requires-clause-acyclic : goal.futures_below-requires-clause-acyclic
futures_below-requires-clause-acyclic c =
    subst IsAcyclic (sym (c.as_slice.ensures ∙ c.in_ok-held.ensures ∙ ap type_contents c.as_slice-types.ensures)) (contents_acyclic c.args.graph.now.types c.requires.acyclic)

pub futures_below-requires-clause-roots : goal.futures_below-requires-clause-roots
futures_below-requires-clause-roots c =
    let types : List TypeDef = c.args.graph.now.types in
    let ts : List ℕ = signature_types c.args.function.now in
    let rows : c.as_slice.result.now ≡ type_contents types = c.as_slice.ensures ∙ c.in_ok-held.ensures ∙ ap type_contents c.as_slice-types.ensures in
    let places : c.as_slice-2.result.now ≡ places_within (length types) ts =
    c.as_slice-2.ensures ∙ c.in_ok-places.ensures ∙ ap (λ (ds : List TypeDef). places_within (length ds) ts) c.as_slice-types.ensures in
    subst (λ (us : List ℕ). All (λ t. t < length c.as_slice.result.now) us) (sym places)
    (λ k d below. omega (arith, within_below types (type_contents types) ts k d below, ap length rows, held_long types))

pub returns-clause-found : goal.returns-clause-found
returns-clause-found c =
    let types : List TypeDef = c.args.graph.now.types in
    let ts : List ℕ = signature_types c.args.function.now in
    let rows : c.as_slice.result.now ≡ type_contents types = c.as_slice.ensures ∙ c.in_ok-held.ensures ∙ ap type_contents c.as_slice-types.ensures in
    let places : c.as_slice-2.result.now ≡ places_within (length types) ts =
    c.as_slice-2.ensures ∙ c.in_ok-places.ensures ∙ ap (λ (ds : List TypeDef). places_within (length ds) ts) c.as_slice-types.ensures in
    c.in_ok-futures_below.ensures
    ∙ ap (λ (ds : List TypeDef). flat_map (futures_of ds c.as_slice.result.now) c.as_slice-2.result.now) c.as_slice-types.ensures
    ∙ ap (λ (hs : List (List ℕ)). flat_map (futures_of types hs) c.as_slice-2.result.now) rows
    ∙ ap (flat_map (futures_of types (type_contents types))) places
    ∙ told_within types (type_contents types) ts (held_long types)
