-- What an include copies, by what is reached.
use Rattle.std.proofs.Common.{◌≡◌, ◌&&◌, ◌++◌, inl, inr, ℕ, ◌<◌, true, Bool, List, Some, slice_get, Contains, length, nat_eq}
use Rattle.std.specs.List.{flat_map, list_any}
use Rattle.wit_digraph.specs.PostOrder.{post_order}
use Rattle.wit_digraph.specs.facts.FreshFacts.{any_from_contains, contains_from_any}
use Rattle.wit_digraph.specs.facts.MemberFacts.{Contains-flat_map, Contains-flat_map_cases}
use Rattle.wit_digraph.specs.facts.PostOrderFacts.{Reaches-from_post_order, post_order-from_IsPath}
use Rattle.wit_data.specs.Kind.{type_references}
use Rattle.wit_data.specs.declared.world.World.{World}
use Rattle.wit_elaboration.specs.Valid.{IsValid}
use Rattle.wit_graph_data.specs.declared.graph.Graph.{Graph}
use Rattle.wit_graph_theory.specs.facts.GoodIsValid.{good_things}
use Rattle.wit_graph_theory.specs.facts.UnnamedOnceFrom.{StandsOnceOnly-from_once}
use Rattle.wit_link_spec.specs.Include.{entry_mentions, is_owned_within, is_unnamed_type, named_types}
use Rattle.wit_link_spec.specs.facts.Mentioned.{entry_mentioned, in_rows, mentioned_with}
use Rattle.wit_link_spec.specs.facts.PartiallyLinked.{IsSoundSoFar}
use Rattle.wit_link_spec.specs.facts.Truth.{and_both, and_parts, one_passes, or_cases, or_left, or_right, passing}
use Rattle.wit_link_spec.specs.laws.IncludingLaws.{CopiesAreExact, IsOnWay}
use Rattle.wit_link_spec.specs.steps.Parts.{is_on_way}

-- a valid graph is partially linked
valid_stands : (g : Graph) → IsValid g → IsSoundSoFar g
valid_stands g valid =
    let things = good_things g valid in
    record {
      items = record { types = things.types; known = things.known; interfaces = things.interfaces; worlds = things.worlds };
      references = valid.no_cycles.types;
      uses = valid.no_cycles.uses;
      once = StandsOnceOnly-from_once g.interfaces g.worlds valid.well_formed.worlds.once;
    }

module _ (g : Graph) (stands : IsSoundSoFar g) (w : ℕ) (world : World) (there : slice_get g.worlds w ≡ Some world) where
  abbrev rows : List (List ℕ)
  rows = type_references g.types

  abbrev roots : List ℕ
  roots = flat_map (entry_mentions g world) (world.imports ++ world.exports)

  abbrev owned : ℕ → Bool
  owned = is_owned_within g w world

  -- what an entry names is there
  root_within : (r : ℕ) → Contains roots r → r < length rows
  root_within r has =
      let e = Contains-flat_map_cases (entry_mentions g world) (world.imports ++ world.exports) r has in
      in_rows g stands w world there r (mentioned_with g stands w world there r (entry_mentioned g stands w world there e.0 r e.1.0 e.1.1)).own.there

  way_from : (t : ℕ) → is_on_way g w world t ≡ true → IsOnWay g w world t
  way_from t is =
      let parts = and_parts (list_any (nat_eq t) (named_types g world)) (list_any owned (post_order rows t)) is in
      let named = contains_from_any t (named_types g world) parts.0 in
      let r = Contains-flat_map_cases (post_order rows) roots t named in
      let b = passing owned (post_order rows t) parts.1 in
      let within = in_rows g stands w world there t (mentioned_with g stands w world there t named).own.there in
      (r.0, b.0, r.1.0, Reaches-from_post_order rows stands.references r.0 (root_within r.0 r.1.0) t r.1.1, Reaches-from_post_order rows stands.references t within b.0 b.1, b.2)

  way_into : (t : ℕ) → IsOnWay g w world t → is_on_way g w world t ≡ true
  way_into t way =
      let named : Contains (named_types g world) t = Contains-flat_map (post_order rows) roots way.0 t way.2 (post_order-from_IsPath rows stands.references way.0 way.3.0 t (root_within way.0 way.2) way.3.1) in
      let within = in_rows g stands w world there t (mentioned_with g stands w world there t named).own.there in
      and_both (list_any (nat_eq t) (named_types g world)) _ (any_from_contains t (named_types g world) named)
      (one_passes owned (post_order rows t) way.1 (post_order-from_IsPath rows stands.references t way.4.0 way.1 within way.4.1) way.5)

pub copies_are_exact : CopiesAreExact
copies_are_exact g w t world valid there =
    let stands = valid_stands g valid in (
      λ is. elim (or_cases (is_owned_within g w world t) (is_unnamed_type g t && is_on_way g w world t) is) [
        | inl own ↦ inl own
        | inr other ↦ let parts = and_parts (is_unnamed_type g t) (is_on_way g w world t) other in inr (parts.0, way_from g stands w world there t parts.1)
      ],
      λ is. elim is [
        | inl own ↦ or_left (is_owned_within g w world t) _ own
        | inr other ↦ or_right (is_owned_within g w world t) _ (and_both (is_unnamed_type g t) _ other.0 (way_into g stands w world there t other.1))
      ],
    )
