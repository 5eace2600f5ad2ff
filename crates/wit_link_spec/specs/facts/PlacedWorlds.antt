-- A world of a partially linked graph, its setters placed: its keys and ids are in order, and what elaboration adds has a
-- name.
use Rattle.std.proofs.Common.{◌≡◌, inl, inr, ℕ, List, [], Some, length, slice_get, subst, Contains}
use Rattle.wit_digraph.specs.facts.MemberFacts.{Contains-cons_cases, Contains-flat_map_cases, Contains-nil}
use Rattle.wit_values.specs.Table.{HasDistinctKeys}
use Rattle.wit_data.specs.Each.{Each}
use Rattle.wit_data.specs.Entries.{Entry, ExportsAreAllowed, ImportsAreAllowed, IsExport}
use Rattle.wit_data.specs.Ownership.{AliasesNamed, IsNamed}
use Rattle.wit_data.specs.Uses.{uses_of}
use Rattle.wit_data.specs.declared.interface.Interface.{Interface}
use Rattle.wit_data.specs.declared.world.World.{World}
use Rattle.wit_data.specs.declared.world.WorldItem.{WorldItem}
use Rattle.wit_data.specs.declared.world.WorldKey.{WorldKey}
use Rattle.wit_data.specs.declared.world.WorldItem.TheVariants as item
use Rattle.wit_data.specs.declared.world.WorldKey.TheVariants as key
use Rattle.wit_elaboration.specs.Entries.{key_interface}
use Rattle.wit_elaboration.specs.laws.KeptByElaboration.{IsUsed}
use Rattle.wit_elaboration.specs.Sound.{HasSoundEntries}
use Rattle.wit_elaboration.specs.facts.SoundFacts.{HasSoundEntries-of_world, lists_in_order}
use Rattle.wit_graph_data.specs.declared.graph.Graph.{Graph}
use Rattle.wit_graph_theory.specs.facts.ListFacts.{contained_at, place_of}
use Rattle.wit_graph_theory.specs.facts.NamedUses.{IsUsed_named}
use Rattle.wit_labels.specs.Setters.{setters_placed}
use Rattle.wit_link_spec.specs.facts.PartiallyLinked.{IsSoundSoFar}
use Rattle.wit_labels.specs.facts.PlacedFacts.{placed_distinct, placed_in}
use Rattle.wit_elaboration.specs.steps.Parts.{exported_keys}
use Rattle.wit_link_spec.specs.steps.Parts.{with_setters_placed}

pub named_export : (interfaces : List Interface) (k : WorldKey) (held : WorldItem) (j : ℕ) → Contains (key_interface k) j → IsExport interfaces k held → IsNamed interfaces j
named_export interfaces (key.Name name) held j has is = absurd (Contains-nil has)
named_export interfaces (key.Interface f) (item.Interface i stability docs span external_id) j has is =
    elim (Contains-cons_cases f j [] has) [ inl same ↦ subst (IsNamed interfaces) same is.1 | inr none ↦ absurd (Contains-nil none) ]
named_export interfaces (key.Interface f) (item.Function fn) j has is = absurd is
named_export interfaces (key.Interface f) (item.Type_ t span) j has is = absurd is

module _ (g : Graph) (stands : IsSoundSoFar g) where
  pub aliases_named : Each (AliasesNamed g.types g.interfaces) g.types
  aliases_named i def at = (stands.items.types i def at).alias

  module _ (w : ℕ) (world : World) (at : slice_get g.worlds w ≡ Some world) where
    placed_imports : ImportsAreAllowed g.interfaces g.types w (with_setters_placed world)
    placed_imports i e on =
        let place = place_of world.imports e (placed_in world.imports e (contained_at (setters_placed world.imports) i e on)) in
        ((stands.items.worlds w world at).imports place.0 e place.1).is

    placed_exports : ExportsAreAllowed g.interfaces (with_setters_placed world)
    placed_exports i e on =
        let place = place_of world.exports e (placed_in world.exports e (contained_at (setters_placed world.exports) i e on)) in
        ((stands.items.worlds w world at).exports place.0 e place.1).is

    -- keys and ids are in order, over the interfaces and over the rows of their uses
    pub placed_listed : HasSoundEntries g.types (length g.interfaces) (setters_placed world.imports) (setters_placed world.exports)
    placed_listed = HasSoundEntries-of_world g.types g.interfaces aliases_named w (with_setters_placed world) placed_imports placed_exports

    pub placed_in_order : HasSoundEntries g.types (length (uses_of g.types g.interfaces)) (setters_placed world.imports) (setters_placed world.exports)
    placed_in_order = lists_in_order g.types g.interfaces aliases_named w (with_setters_placed world) placed_imports placed_exports

    pub imports_distinct : HasDistinctKeys (setters_placed world.imports)
    imports_distinct = placed_distinct world.imports (stands.items.worlds w world at).distinct_imports

    pub exports_distinct : HasDistinctKeys (setters_placed world.exports)
    exports_distinct = placed_distinct world.exports (stands.items.worlds w world at).distinct_exports

    -- what its elaboration adds has a name
    pub used_named : (j : ℕ) → IsUsed g.types (uses_of g.types g.interfaces) (setters_placed world.imports) j → IsNamed g.interfaces j
    used_named j used = IsUsed_named g.types g.interfaces aliases_named (setters_placed world.imports) j used

    pub exported_named : (j : ℕ) → Contains (exported_keys (setters_placed world.exports)) j → IsNamed g.interfaces j
    exported_named j has =
        let part = Contains-flat_map_cases (λ (e : Entry). key_interface e.0) (setters_placed world.exports) j has in
        let place = place_of (setters_placed world.exports) part.0 part.1.0 in
        named_export g.interfaces part.0.0 part.0.1 j part.1.1 (placed_exports place.0 part.0 place.1)
