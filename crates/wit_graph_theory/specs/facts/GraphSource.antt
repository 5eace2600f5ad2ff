-- A valid graph is a good source, and where it stays in another it stands there.
use Rattle.std.proofs.Common.{◌≡◌, ◌∙◌, inl, ℕ, ◌<◌, true, List, Option, None, Some, length, slice_get, refl, sym, subst, arith, Contains}
use Rattle.std.proofs.lemmas.Bool.{lt-ltb, ltb-true}
use Rattle.std.proofs.lemmas.List.{length-map}
use Rattle.std.proofs.lemmas.List.Elements.{All-contains}
use Rattle.std.proofs.lemmas.Option.{slice_get_within}
use Rattle.wit_digraph.specs.facts.MemberFacts.{Contains-flat_map, Contains-flat_map_cases}
use Rattle.wit_digraph.specs.Relation.{IsAcyclic, direct}
use Rattle.wit_data.specs.Each.{Each, EachAt, SomeAt}
use Rattle.wit_data.specs.Entries.{Entry, IsExport, IsImport, ItemUsesOwn}
use Rattle.wit_data.specs.Ownership.{IsListed, IsNamed, entry_type, world_types}
use Rattle.wit_data.specs.Kind.{referred, type_references}
use Rattle.wit_data.specs.declared.interface.Interface.{Interface}
use Rattle.wit_data.specs.declared.types.TypeDef.{TypeDef}
use Rattle.wit_data.specs.declared.types.TypeDefKind.{TypeDefKind}
use Rattle.wit_data.specs.declared.types.TypeOwner.{TypeOwner}
use Rattle.wit_data.specs.declared.world.World.{World}
use Rattle.wit_data.specs.declared.world.WorldItem.{WorldItem}
use Rattle.wit_data.specs.declared.world.WorldKey.{WorldKey}
use Rattle.wit_data.specs.declared.types.TypeOwner.TheVariants as owner
use Rattle.wit_data.specs.declared.world.WorldItem.TheVariants as item
use Rattle.wit_data.specs.declared.world.WorldKey.TheVariants as key
use Rattle.wit_elaboration.specs.facts.Filters.{Contains-filter}
use Rattle.wit_graph_data.specs.declared.graph.Graph.{Graph}
use Rattle.wit_graph_theory.specs.Cut.{IsClosedCut, IsGoodWhere, ItemIsKept, OwnerIsKept, StaysIn, graph_source, kept_whole, mapped_source}
use Rattle.wit_remap_spec.specs.Kept.{cut_interface, cut_world}
use Rattle.wit_graph_theory.specs.facts.Good.{HasGoodItems, HasGoodThings}
use Rattle.wit_remap_spec.specs.Image.{Maps}
use Rattle.wit_graph_theory.specs.facts.Referred.{RefersUnder}
use Rattle.wit_graph_theory.specs.steps.Sources.{Carries, InterfaceStands, IsGoodSource, Stands, WorldStands}
use Rattle.wit_graph_theory.specs.facts.CarriedImages.{itself_stands}
use Rattle.wit_graph_theory.specs.facts.CutIsGood.{cut_is_good}
use Rattle.wit_graph_theory.specs.facts.ListFacts.{contained_at, found_at, from_map, in_row, some_at}
use Rattle.wit_remap_spec.specs.steps.Parts.{identity}

module _ (g : Graph) (good : HasGoodItems g) (acyclic : IsAcyclic (type_references g.types)) where
  type_in_range : (t : ℕ) (def : TypeDef) → slice_get g.types t ≡ Some def → (kept_whole g).types t ≡ true
  type_in_range t def at = lt-ltb t (length g.types) (slice_get_within g.types t def at)

  refers_in_range : EachAt (λ t (def : TypeDef). (kept_whole g).types t ≡ true → Each (λ u. (kept_whole g).types u ≡ true) (referred def.kind)) g.types
  refers_in_range t def at takes i u on =
      let edge = in_row (λ (d : TypeDef). referred d.kind) g.types t def u at (contained_at (referred def.kind) i u on) in
      let within : u < length (type_references g.types) = All-contains (λ x. x < length (type_references g.types)) (direct (type_references g.types) t) u (acyclic.in_range t) edge in
      lt-ltb u (length g.types) (omega (arith, within, length-map g.types (λ (d : TypeDef). referred d.kind)))

  owner_in_range : (t : ℕ) (name : Option (List ℕ)) (by : TypeOwner) → IsListed g.interfaces g.worlds t name by → OwnerIsKept (kept_whole g) by
  owner_in_range t name owner.None h = tt
  owner_in_range t None (owner.Interface f) h = absurd h
  owner_in_range t None (owner.World w) h = absurd h
  owner_in_range t (Some name) (owner.Interface f) h =
      let found = found_at (λ (interface : Interface). Contains interface.types (name, t)) g.interfaces f h in
      lt-ltb f (length g.interfaces) (slice_get_within g.interfaces f found.0 found.1)
  owner_in_range t (Some name) (owner.World w) h =
      let found = found_at (λ (world : World). Contains (world_types world) (name, t)) g.worlds w h in
      lt-ltb w (length g.worlds) (slice_get_within g.worlds w found.0 found.1)

  interface_in_range : (f : ℕ) → IsNamed g.interfaces f → (kept_whole g).interfaces f ≡ true
  interface_in_range f named =
      let found = found_at (λ (interface : Interface). _) g.interfaces f named in
      lt-ltb f (length g.interfaces) (slice_get_within g.interfaces f found.0 found.1)

  item_kept : (w : ℕ) (k : WorldKey) (held : WorldItem) → IsImport g.interfaces g.types w k held → ItemUsesOwn g.types w held → ItemIsKept (kept_whole g) held
  item_kept w (key.Interface f) (item.Interface i stability docs span external_id) is own = subst (λ (x : ℕ). (kept_whole g).interfaces x ≡ true) (sym is.0) (interface_in_range f is.1)
  item_kept w (key.Interface f) (item.Function fn) is own = absurd is
  item_kept w (key.Interface f) (item.Type_ t span) is own = absurd is
  item_kept w (key.Name name) (item.Interface i stability docs span external_id) is own = lt-ltb i (length g.interfaces) is
  item_kept w (key.Name name) (item.Function fn) is own = λ i t on. let there = (own i t on).there in lt-ltb t (length g.types) there
  item_kept w (key.Name name) (item.Type_ t span) is own =
      let found = found_at (λ (def : TypeDef). (def.name ≡ Some name) × (def.owner ≡ owner.World w)) g.types t is in
      type_in_range t found.0 found.1

  export_is_import : (w : ℕ) (k : WorldKey) (held : WorldItem) → IsExport g.interfaces k held → IsImport g.interfaces g.types w k held
  export_is_import w (key.Name name) (item.Type_ t span) is = absurd is
  export_is_import w (key.Name name) (item.Interface i stability docs span external_id) is = is
  export_is_import w (key.Name name) (item.Function fn) is = is
  export_is_import w (key.Interface f) held is = is

  whole_is_closed : IsClosedCut (kept_whole g) g.types g.interfaces g.worlds
  whole_is_closed = record {
    in_range = λ t takes. ltb-true t (length g.types) takes;
    interfaces_in_range = λ f takes. ltb-true f (length g.interfaces) takes;
    references = refers_in_range;
    owners = λ t def at takes. owner_in_range t def.name def.owner (good.types t def at).listed;
    functions = λ f interface at takes i e on kept j t there. let within = ((good.interfaces f interface at).own_functions i e on j t there).there in lt-ltb t (length g.types) within;
    imports = λ w world at takes i e on kept. let is = (good.worlds w world at).imports i e on in item_kept w e.0 e.1 is.is is.own;
    exports = λ w world at takes i e on kept. let is = (good.worlds w world at).exports i e on in item_kept w e.0 e.1 (export_is_import w e.0 e.1 is.is) is.own;
    type_items = λ t span. refl;
  }

  whole_is_good : IsGoodWhere (kept_whole g) g.types g.interfaces g.worlds
  whole_is_good = record {
    types_are = λ t def at takes. good.types t def at;
    interfaces_are = λ f interface at takes. good.interfaces f interface at;
    imports_are = λ w world at takes. (good.worlds w world at).imports;
    exports_are = λ w world at takes. (good.worlds w world at).exports;
  }

  -- a graph whose types, interfaces and worlds are good is a good source, under whatever maps
  pub items_are_good : (m : Maps) → IsGoodSource (mapped_source g m)
  items_are_good m = cut_is_good (kept_whole g) g.types g.interfaces g.worlds m whole_is_closed whole_is_good

pub good_items : (g : Graph) → HasGoodThings g → HasGoodItems g
good_items g good = record { types = good.types; known = good.known; interfaces = good.interfaces; worlds = good.worlds }

-- so is a valid graph
pub mapped_is_good : (g : Graph) → HasGoodThings g → IsAcyclic (type_references g.types) → (m : Maps) → IsGoodSource (mapped_source g m)
mapped_is_good g good acyclic m = items_are_good g (good_items g good) acyclic m

-- what keeps name, owner and kind stands
stands_kept : (def new : TypeDef) → new.name ≡ def.name → new.owner ≡ def.owner → ((def.name ≡ None) → new.kind ≡ def.kind) → Stands identity def new
stands_kept def new name by is =
    let itself = itself_stands def in
    record {
      name = name ∙ itself.name;
      owner = by ∙ itself.owner;
      through = λ none. subst (λ (k : TypeDefKind). RefersUnder identity (referred def.kind) (referred k)) (sym (is none)) (itself.through none);
    }

-- a graph that stays in another stands there
pub graph_stands : (old g : Graph) → StaysIn old g → Carries (graph_source old) g
graph_stands old g stays = record {
  types = λ t def at takes.
      let found = found_at (λ (new : TypeDef). (new.name ≡ def.name) × (new.owner ≡ def.owner) × ((def.name ≡ None) → new.kind ≡ def.kind)) g.types t (stays.types t def at) in
      some_at (Stands identity def) g.types t found.0 found.1 (stands_kept def found.0 found.2.0 found.2.1 found.2.2);
  values = λ t def at takes. inl refl;
  interfaces = λ f interface at takes.
      let from = from_map (cut_interface (kept_whole old)) old.interfaces f interface at in
      let found = found_at (λ (new : Interface). (new.name ≡ from.0.name) × (new.package ≡ from.0.package) × ((e : List ℕ × ℕ) → Contains from.0.types e → Contains new.types e)) g.interfaces f (stays.interfaces f from.0 from.1) in
      subst (λ (x : Interface). SomeAt g.interfaces f (InterfaceStands (graph_source old) x)) from.2
      (some_at (InterfaceStands (graph_source old) (cut_interface (kept_whole old) from.0)) g.interfaces f found.0 found.1 (record {
        name = found.2.0;
        types = λ name t has taken. found.2.2 (name, t) (Contains-filter (λ (e : List ℕ × ℕ). (kept_whole old).types e.1) from.0.types (name, t) has).0;
        home = λ none. found.2.1;
      }));
  worlds = λ w world at takes.
      let from = from_map (cut_world (kept_whole old)) old.worlds w world at in
      let found = found_at (λ (new : World). (new.package ≡ from.0.package) × ((e : List ℕ × ℕ) → Contains (world_types from.0) e → Contains (world_types new) e)) g.worlds w (stays.worlds w from.0 from.1) in
      subst (λ (x : World). SomeAt g.worlds w (WorldStands (graph_source old) w x)) from.2
      (some_at (WorldStands (graph_source old) w (cut_world (kept_whole old) from.0)) g.worlds w found.0 found.1 (record {
        types = λ name t has taken.
            let entry = Contains-flat_map_cases (λ (e : Entry). entry_type e.0 e.1) (cut_world (kept_whole old) from.0).imports (name, t) has in
            let listed = Contains-filter (λ (e : Entry). (kept_whole old).items e.1) from.0.imports entry.0 entry.1.0 in
            found.2.1 (name, t) (Contains-flat_map (λ (e : Entry). entry_type e.0 e.1) from.0.imports entry.0 (name, t) listed.0 entry.1.1);
        home = found.2.0;
      }));
}
