-- Each world that has its new entries lists what its interfaces without a name use: the named one, since what it keeps is
-- closed; each other as before, since an interface without a name stands in one world, so its types don't follow.
use Rattle.std.proofs.Common.{◌≡◌, ◌∙◌, inl, inr, ℕ, Bool, true, false, not, List, [], ◌∷◌, ◌++◌, Some, slice_get, refl, sym, ap, subst, Contains}
use Rattle.std.proofs.lemmas.List.Elements.{Contains-append_cases}
use Rattle.wit_digraph.specs.facts.FreshFacts.{contains_from_any}
use Rattle.wit_digraph.specs.facts.MemberFacts.{Contains-flat_map_cases, Contains-nil}
use Rattle.wit_digraph.specs.Relation.{direct}
use Rattle.wit_data.specs.Entries.{IsImport, is_unnamed, item_interface, entries_of}
use Rattle.wit_data.specs.Uses.{interface_uses, type_interface_dep, uses_of}
use Rattle.wit_data.specs.declared.interface.Interface.{Interface}
use Rattle.wit_data.specs.declared.types.TypeDef.{TypeDef}
use Rattle.wit_data.specs.declared.types.TypeOwner.{TypeOwner}
use Rattle.wit_data.specs.declared.world.World.{World}
use Rattle.wit_data.specs.declared.world.WorldItem.{WorldItem}
use Rattle.wit_data.specs.declared.world.WorldKey.{WorldKey}
use Rattle.wit_data.specs.declared.types.TypeOwner.TheVariants as owner
use Rattle.wit_data.specs.declared.world.WorldItem.TheVariants as item
use Rattle.wit_data.specs.declared.world.WorldKey.TheVariants as key
use Rattle.wit_elaboration.specs.facts.Filters.{Contains-filter}
use Rattle.wit_elaboration.specs.Entries.{Entry}
use Rattle.wit_elaboration.specs.laws.KeptByElaboration.{ImportsAreLeast}
use Rattle.wit_elaboration.specs.Valid.{IsValid}
use Rattle.wit_graph_theory.specs.facts.DependencyFacts.{filter_map_from, filter_map_into}
use Rattle.wit_graph_theory.specs.facts.EntryFacts.{canonical_lists_uses, one_of}
use Rattle.wit_graph_theory.specs.facts.Good.{HasGoodThings}
use Rattle.wit_graph_theory.specs.facts.GoodIsValid.{good_things}
use Rattle.wit_graph_theory.specs.facts.GoodWorlds.{import_from_export}
use Rattle.wit_graph_theory.specs.facts.ListFacts.{Contains-map_cases, found_at, from_row, in_row, place_of, same_at}
use Rattle.wit_graph_theory.specs.steps.UnnamedOnce.{Holds, StandsOnceOnly}
use Rattle.wit_graph_theory.specs.facts.UnnamedOnceFrom.{StandsOnceOnly-from_once}
use Rattle.wit_graph_theory.specs.laws.PackageCycles.{ListsUses}
use Rattle.wit_graph_theory.specs.facts.PackagesAcyclic.{there_is}
use Rattle.wit_transform.specs.facts.UnnamedOnceTransformed.{set_split}
use Rattle.wit_semver.specs.SemverMerged.{entry_types, kept_imports, types_of_new_entries, types_with_new_targets, SemverMerge, IsComplete}
use Rattle.wit_semver.specs.facts.Accepting.{new_uses, relisted_worlds}
use Rattle.wit_semver.specs.facts.KeptKeys.{named_lists_uses}
use Rattle.wit_semver.specs.facts.TypesAfter.{needs_after}
use Rattle.wit_semver.specs.steps.Parts.{is_replaced_entry, listed_world, types_of}

instance_item : (held : WorldItem) (i : ℕ) → Contains (item_interface held) i → item_interface held ≡ i ∷ []
instance_item (item.Interface id stability docs span external_id) i has = ap (λ (x : ℕ). x ∷ []) (one_of id i has)
instance_item (item.Function f) i has = absurd (Contains-nil has)
instance_item (item.Type_ t span) i has = absurd (Contains-nil has)

module _ (least : ImportsAreLeast) (u : SemverMerge) (valid : IsValid u.graph) (w : ℕ) (there : slice_get u.graph.worlds w ≡ Some u.world) (complete : IsComplete u) where
  abbrev interfaces : List Interface
  interfaces = u.graph.interfaces

  abbrev types : List TypeDef
  types = u.graph.types

  things : HasGoodThings u.graph
  things = good_things u.graph valid

  one_place : StandsOnceOnly interfaces u.graph.worlds
  one_place = StandsOnceOnly-from_once interfaces u.graph.worlds valid.well_formed.worlds.once

  -- ---- whose types follow

  abbrev owned_by : TypeOwner → ℕ → Type 0
  owned_by by t = (def : TypeDef) × (slice_get types t ≡ Some def) × (def.owner ≡ by)

  one_owner : (t : ℕ) (a b : TypeOwner) → owned_by a t → owned_by b t → a ≡ b
  one_owner t a b first second = sym first.2 ∙ ap (λ (def : TypeDef). def.owner) (same_at types t t first.0 second.0 refl first.1 second.1) ∙ second.2

  interface_owns : (f : ℕ) (interface : Interface) (name : List ℕ) (t : ℕ) → slice_get interfaces f ≡ Some interface → Contains interface.types (name, t) → owned_by (owner.Interface f) t
  interface_owns f interface name t at has =
      let place = place_of interface.types (name, t) has in
      let found = found_at (λ (def : TypeDef). (def.name ≡ Some name) × (def.owner ≡ owner.Interface f)) types t ((things.interfaces f interface at).own_types place.0 (name, t) place.1) in
      (found.0, found.1, found.2.1)

  -- an entry whose types have one of interface f holds f
  holds_owner : (k : WorldKey) (held : WorldItem) (f t : ℕ) → IsImport interfaces types w k held → owned_by (owner.Interface f) t → Contains (entry_types interfaces (k, held)) t → item_interface held ≡ f ∷ []
  holds_owner k (item.Interface i stability docs span external_id) f t is owned has =
      let of = there_is types_of (slice_get interfaces i) t has in
      let n = Contains-map_cases (λ (n : List ℕ × ℕ). n.1) of.0.types t of.2 in
      let owns = interface_owns i of.0 n.0.0 t of.1 (subst (λ (x : ℕ). Contains of.0.types (n.0.0, x)) n.2 n.1) in
      let same : i ≡ f = let one = one_owner t (owner.Interface i) (owner.Interface f) owns owned in cc in
      ap (λ (x : ℕ). x ∷ []) same
  holds_owner k (item.Function fn) f t is owned has = absurd (Contains-nil has)
  holds_owner (key.Interface i) (item.Type_ s span) f t is owned has = absurd is
  holds_owner (key.Name name) (item.Type_ s span) f t is owned has =
      let found = found_at (λ (def : TypeDef). (def.name ≡ Some name) × (def.owner ≡ owner.World w)) types s is in
      let one = one_owner t (owner.World w) (owner.Interface f) (subst (owned_by (owner.World w)) (one_of s t has) (found.0, found.1, found.2.1)) owned in
      cc

  -- where an interface stands whose type follows
  follower : (f t : ℕ) → owned_by (owner.Interface f) t → Contains (types_of_new_entries u) t → (b : Bool) × (i : ℕ) × Holds u.graph.worlds w b i f
  follower f t owned follows =
      let e = Contains-flat_map_cases (entry_types interfaces) (kept_imports u ++ u.world.exports) t follows in
      elim (Contains-append_cases (kept_imports u) u.world.exports e.0 e.1.0) [
        | inl stays ↦
            let place = place_of u.world.imports e.0 (Contains-filter (λ (e : Entry). not (is_replaced_entry u e)) u.world.imports e.0 stays).0 in
            let is = valid.well_formed.worlds.imports w u.world there place.0 e.0 place.1 in
            (false, place.0, record { world = u.world; there = there; entry = e.0; at = place.1; held = holds_owner e.0.0 e.0.1 f t is owned e.1.1 })
        | inr exported ↦
            let place = place_of u.world.exports e.0 exported in
            let is = import_from_export interfaces types w e.0.0 e.0.1 (valid.well_formed.worlds.exports w u.world there place.0 e.0 place.1) in
            (true, place.0, record { world = u.world; there = there; entry = e.0; at = place.1; held = holds_owner e.0.0 e.0.1 f t is owned e.1.1 })
      ]

  -- ---- another world

  module _ (v : ℕ) (elsewhere : v ≡ w → ⊥) (world : World) (at : slice_get u.graph.worlds v ≡ Some world) where
    -- what an interface without a name uses that stands in it, it used before
    used_before : (b : Bool) (e : Entry) (f j : ℕ) → Contains (entries_of b world) e → Contains (item_interface e.1) f → is_unnamed interfaces f ≡ true → Contains (direct (new_uses u valid w there) f) j → Contains (direct (uses_of types interfaces) f) j
    used_before b e f j has holds_f unnamed edge =
        let row = from_row (interface_uses (types_with_new_targets u)) interfaces f j edge in
        let n = filter_map_from (λ (n : List ℕ × ℕ). type_interface_dep (types_with_new_targets u) n.1) row.0.types j row.2 in
        let needs = needs_after u valid complete n.0.1 j n.2 in
        elim needs.is [
          | inl same ↦ in_row (interface_uses types) interfaces f row.0 j row.1 (filter_map_into (λ (n : List ℕ × ℕ). type_interface_dep types n.1) row.0.types n.0 j n.1 (needs.needed ∙ ap Some (sym same.0)))
          | inr transformed ↦
              let owned = interface_owns f row.0 n.0.0 n.0.1 row.1 n.1 in
              let there_too = follower f n.0.1 owned (contains_from_any n.0.1 (types_of_new_entries u) transformed.1) in
              let place = place_of (entries_of b world) e has in
              let here : Holds u.graph.worlds v b place.0 f = record { world = world; there = at; entry = e; at = place.1; held = instance_item e.1 f holds_f } in
              absurd (elsewhere (one_place f v w b there_too.0 place.0 there_too.1 unnamed here there_too.2).0)
        ]

    other_lists_uses : ListsUses interfaces (new_uses u valid w there) world
    other_lists_uses =
        let before = canonical_lists_uses least types interfaces valid.well_formed.references.aliases valid.no_cycles.uses v world (valid.well_formed.worlds.imports v world at) (valid.well_formed.worlds.exports v world at) (valid.canonical v world at) in
        record {
          imports = λ e f j has holds_f unnamed edge. before.imports e f j has holds_f unnamed (used_before false e f j has holds_f unnamed edge);
          exports = λ e f j has holds_f unnamed edge. before.exports e f j has holds_f unnamed (used_before true e f j has holds_f unnamed edge);
        }

  pub listed_lists_uses : (v : ℕ) (world : World) → slice_get (relisted_worlds u valid w there) v ≡ Some world → ListsUses interfaces (new_uses u valid w there) world
  listed_lists_uses v world at =
      elim (set_split u.graph.worlds w (listed_world u) v world at) [
        | inl here ↦ subst (ListsUses interfaces (new_uses u valid w there)) (sym here.1) (named_lists_uses least u valid w there complete)
        | inr stays ↦ other_lists_uses v stays.0 world stays.1
      ]
