use Rattle.std.proofs.Common.{◌∙◌, ◌≡◌, ◌<◌, false, true, List, ℕ, All, length, ap, nat_eq, sym, subst, arith, rules}
use Rattle.std.specs.List.{flat_map, list_any}
use Rattle.wit_digraph.specs.Relation.{IsAcyclic}
use Rattle.wit_digraph.specs.PostOrder.{first_of_each, post_order}
use Rattle.wit_data.specs.declared.types.TypeDef.{TypeDef}
use Rattle.wit_graph_data.specs.facts.ContentFacts.{contents_acyclic, held_long}
use Rattle.wit_graph_data.specs.Queries.{type_contents}
use Rattle.wit_queries.specs.steps.Unfolding.{places_within}
use Rattle.wit_queries.proofs.Unfolds.{filter-post_orders, none_picked, picked_once, told_within, within_below}
use Rattle.wit_queries.proofs.futures.holds_future_or_stream.Goals as goal
use Rattle.wit_data.specs.Kind.{signature_types}
use Rattle.wit_graph_data.specs.steps.Parts.{is_future}

pub returns-then-not-is_future-clause-told : goal.returns-then-not-is_future-clause-told
returns-then-not-is_future-clause-told c =
    let types : List TypeDef = c.args.graph.now.types in
    let is : c.is_future.result ≡ is_future types c.args.ty =
    c.is_future.ensures ∙ ap (λ (ds : List TypeDef). is_future ds c.index.result) c.as_slice-types.ensures ∙ ap (is_future types) c.index.ensures in
    let fails : c.is_future.result ≡ false = search rules in
    sym (none_picked (is_future types) (flat_map (post_order (type_contents types)) (signature_types c.args.function.now)) c.args.ty (sym is ∙ fails))

pub post_order_of_roots-requires-clause-acyclic : goal.post_order_of_roots-requires-clause-acyclic
post_order_of_roots-requires-clause-acyclic c =
    subst IsAcyclic (sym (c.as_slice.ensures ∙ c.in_ok-held.ensures ∙ ap type_contents c.as_slice-types.ensures)) (contents_acyclic c.args.graph.now.types c.requires.acyclic)

pub post_order_of_roots-requires-clause-roots : goal.post_order_of_roots-requires-clause-roots
post_order_of_roots-requires-clause-roots c =
    let types : List TypeDef = c.args.graph.now.types in
    let ts : List ℕ = signature_types c.args.function.now in
    let rows : c.as_slice.result.now ≡ type_contents types = c.as_slice.ensures ∙ c.in_ok-held.ensures ∙ ap type_contents c.as_slice-types.ensures in
    let places : c.as_slice-2.result.now ≡ places_within (length types) ts =
    c.as_slice-2.ensures ∙ c.in_ok-places.ensures ∙ ap (λ (ds : List TypeDef). places_within (length ds) ts) c.as_slice-types.ensures in
    subst (λ (us : List ℕ). All (λ t. t < length c.as_slice.result.now) us) (sym places)
    (λ k d below. omega (arith, within_below types (type_contents types) ts k d below, ap length rows, held_long types))

pub returns-clause-told : goal.returns-clause-told
returns-clause-told c =
    let types : List TypeDef = c.args.graph.now.types in
    let ts : List ℕ = signature_types c.args.function.now in
    let held : List (List ℕ) = type_contents types in
    let within : List ℕ = places_within (length types) ts in
    let rows : c.as_slice.result.now ≡ held = c.as_slice.ensures ∙ c.in_ok-held.ensures ∙ ap type_contents c.as_slice-types.ensures in
    let places : c.as_slice-2.result.now ≡ within =
    c.as_slice-2.ensures ∙ c.in_ok-places.ensures ∙ ap (λ (ds : List TypeDef). places_within (length ds) ts) c.as_slice-types.ensures in
    let order : c.as_slice-3.result.now ≡ first_of_each (flat_map (post_order held) within) =
    c.as_slice-3.ensures ∙ c.in_ok-order.ensures
    ∙ ap (λ (hs : List (List ℕ)). first_of_each (flat_map (post_order hs) c.as_slice-2.result.now)) rows
    ∙ ap (λ (us : List ℕ). first_of_each (flat_map (post_order held) us)) places in
    let is : c.is_future.result ≡ is_future types c.args.ty =
    c.is_future.ensures ∙ ap (λ (ds : List TypeDef). is_future ds c.index.result) c.as_slice-types.ensures ∙ ap (is_future types) c.index.ensures in
    let passes : c.is_future.result ≡ true = search rules in
    c.is_among.ensures
    ∙ ap (λ (t : ℕ). list_any (nat_eq t) c.as_slice-3.result.now) c.index-2.ensures
    ∙ ap (list_any (nat_eq c.args.ty)) order
    ∙ picked_once (is_future types) (flat_map (post_order held) within) c.args.ty (sym is ∙ passes)
    ∙ ap (list_any (nat_eq c.args.ty)) (filter-post_orders (is_future types) (post_order held) within ∙ told_within types held ts (held_long types))
