-- What of a partially linked graph remains comes of itself, where the graph is one of two sources.
use Rattle.std.proofs.Common.{◌≡◌, inl, ℕ, Bool, true, false, List, ◌++◌, length, Some, slice_get, refl, Contains}
use Rattle.std.proofs.lemmas.Bool.{lt-ltb}
use Rattle.std.proofs.lemmas.List.Elements.{Contains-append_left, Contains-append_right}
use Rattle.std.proofs.lemmas.Option.{slice_get_within}
use Rattle.wit_data.specs.Each.{Each}
use Rattle.wit_data.specs.Entries.{Entry, IsExport, IsImport}
use Rattle.wit_data.specs.declared.function.Function.{Function}
use Rattle.wit_data.specs.declared.interface.Interface.{Interface}
use Rattle.wit_data.specs.declared.types.TypeDef.{TypeDef}
use Rattle.wit_data.specs.declared.world.World.{World}
use Rattle.wit_data.specs.declared.world.WorldItem.{WorldItem}
use Rattle.wit_data.specs.declared.world.WorldKey.{WorldKey}
use Rattle.wit_data.specs.declared.types.TypeOwner.TheVariants as owner
use Rattle.wit_data.specs.declared.world.WorldItem.TheVariants as item
use Rattle.wit_data.specs.declared.world.WorldKey.TheVariants as key
use Rattle.wit_elaboration.specs.facts.Filters.{Contains-filtered}
use Rattle.wit_graph_data.specs.declared.graph.Graph.{Graph}
use Rattle.wit_graph_theory.specs.facts.CarriedImages.{function_itself_carried, itself_carried}
use Rattle.wit_graph_theory.specs.facts.Covered.{EntryComes, InterfaceAt, InterfaceComes, IsNoType, ItemComes, TypeComes, WorldComes}
use Rattle.wit_graph_theory.specs.Cut.{graph_source, item_in_range, kept_whole}
use Rattle.wit_remap_spec.specs.Kept.{cut_interface, cut_world}
use Rattle.wit_graph_theory.specs.facts.Good.{HasGoodItems}
use Rattle.wit_remap_spec.specs.Image.{Maps, item_image, key_image}
use Rattle.wit_graph_theory.specs.facts.ListFacts.{at_map, contained_at, found_at}
use Rattle.wit_graph_theory.specs.steps.Sources.{Source}
use Rattle.wit_remap_spec.specs.steps.Parts.{identity}

-- a graph and another source
abbrev pub beside : Graph → Source → Bool → Source
beside g other false = graph_source g
beside g other true = other

-- what stays at its place, under its key, comes of itself
pub key_stays : (w : ℕ) (k : WorldKey) → k ≡ key_image identity w k
key_stays w (key.Name label) = refl
key_stays w (key.Interface f) = refl

pub item_stays : (g : Graph) (w : ℕ) (held : WorldItem) → ItemComes (graph_source g) w held held
item_stays g w (item.Interface i stability docs span external_id) = refl
item_stays g w (item.Function f) = (f, refl, refl, function_itself_carried (graph_source g) f refl)
item_stays g w (item.Type_ t span) = (span, refl)

module _ (interfaces : List Interface) (types : List TypeDef) where
  pub import_in_range : (w : ℕ) (k : WorldKey) (held : WorldItem) → IsImport interfaces types w k held → item_in_range (length types) held ≡ true
  import_in_range w k (item.Interface i stability docs span external_id) is = refl
  import_in_range w k (item.Function f) is = refl
  import_in_range w (key.Interface f) (item.Type_ t span) is = absurd is
  import_in_range w (key.Name name) (item.Type_ t span) is =
      let found = found_at (λ (def : TypeDef). (def.name ≡ Some name) × (def.owner ≡ owner.World w)) types t is in
      lt-ltb t (length types) (slice_get_within types t found.0 found.1)

-- an export is no type
pub export_no_type : (interfaces : List Interface) (k : WorldKey) (held : WorldItem) → IsExport interfaces k held → IsNoType held
export_no_type interfaces k (item.Interface i stability docs span external_id) is = tt
export_no_type interfaces k (item.Function f) is = tt
export_no_type interfaces (key.Interface f) (item.Type_ t span) is = absurd is
export_no_type interfaces (key.Name name) (item.Type_ t span) is = absurd is

pub no_type_in_range : (types : ℕ) (held : WorldItem) → IsNoType held → item_in_range types held ≡ true
no_type_in_range types (item.Interface i stability docs span external_id) is = refl
no_type_in_range types (item.Function f) is = refl
no_type_in_range types (item.Type_ t span) is = absurd is

module _ (g : Graph) (items : HasGoodItems g) (other : Source) where
  -- a type
  pub type_remains : (new : Graph) (t : ℕ) (def : TypeDef) → slice_get g.types t ≡ Some def → TypeComes (beside g other) new t def
  type_remains new t def there = record {
    source = false;
    t = t;
    old = def;
    there = there;
    takes = lt-ltb t (length g.types) (slice_get_within g.types t def there);
    place = refl;
    carried = itself_carried (graph_source g) new def refl (items.known t def there);
  }

  -- an interface
  listed_there : (f : ℕ) (interface : Interface) → slice_get g.interfaces f ≡ Some interface → Each (λ (e : List ℕ × ℕ). (kept_whole g).types e.1 ≡ true) interface.types
  listed_there f interface there i e on =
      let found = found_at (λ (def : TypeDef). (def.name ≡ Some e.0) × (def.owner ≡ owner.Interface f)) g.types e.1 ((items.interfaces f interface there).own_types i e on) in
      lt-ltb e.1 (length g.types) (slice_get_within g.types e.1 found.0 found.1)

  pub interface_remains : (f : ℕ) (interface : Interface) → slice_get g.interfaces f ≡ Some interface → InterfaceComes (beside g other) f interface
  interface_remains f interface there =
      let from : InterfaceAt (graph_source g) f = record {
        f = f;
        old = cut_interface (kept_whole g) interface;
        there = at_map (cut_interface (kept_whole g)) g.interfaces f interface there;
        takes = lt-ltb f (length g.interfaces) (slice_get_within g.interfaces f interface there);
        place = refl;
      } in
      record {
        source = false;
        from = from;
        name = refl;
        types = λ i e on. record {
          source = false;
          from = from;
          t = e.1;
          listed = Contains-filtered (λ (e : List ℕ × ℕ). (kept_whole g).types e.1) interface.types e (contained_at interface.types i e on) (listed_there f interface there i e on);
          takes = listed_there f interface there i e on;
          place = refl;
        };
        functions = λ i e on. record {
          source = false;
          from = from;
          old = e.1;
          listed = Contains-filtered (λ (e : List ℕ × Function). (kept_whole g).functions e.1) interface.functions e (contained_at interface.functions i e on) refl;
          name = refl;
          carried = function_itself_carried (graph_source g) e.1 refl;
        };
        distinct_types = (items.interfaces f interface there).distinct_types;
        distinct_functions = (items.interfaces f interface there).distinct_functions;
      }

  -- an entry
  remains : (w : ℕ) (world : World) (e : Entry) → slice_get g.worlds w ≡ Some world → Contains ((cut_world (kept_whole g) world).imports ++ (cut_world (kept_whole g) world).exports) e → EntryComes (beside g other) w e
  remains w world e at listed = record {
    source = false;
    from = record {
      w = w;
      old = cut_world (kept_whole g) world;
      there = at_map (cut_world (kept_whole g)) g.worlds w world at;
      takes = lt-ltb w (length g.worlds) (slice_get_within g.worlds w world at);
      place = refl;
    };
    old = e;
    listed = listed;
    key = key_stays w e.0;
    held = item_stays g w e.1;
  }

  pub import_remains : (w : ℕ) (world : World) (i : ℕ) (e : Entry) → slice_get g.worlds w ≡ Some world → slice_get world.imports i ≡ Some e → EntryComes (beside g other) w e
  import_remains w world i e at on =
      let kept = cut_world (kept_whole g) world in
      remains w world e at
      (Contains-append_left kept.imports kept.exports e
      (Contains-filtered (λ (d : Entry). (kept_whole g).items d.1) world.imports e (contained_at world.imports i e on) (import_in_range g.interfaces g.types w e.0 e.1 ((items.worlds w world at).imports i e on).is)))

  pub export_remains : (w : ℕ) (world : World) (i : ℕ) (e : Entry) → slice_get g.worlds w ≡ Some world → slice_get world.exports i ≡ Some e → EntryComes (beside g other) w e × IsNoType e.1
  export_remains w world i e at on =
      let kept = cut_world (kept_whole g) world in
      let is = export_no_type g.interfaces e.0 e.1 ((items.worlds w world at).exports i e on).is in (
        remains w world e at (Contains-append_right kept.imports kept.exports e
            (Contains-filtered (λ (d : Entry). (kept_whole g).items d.1) world.exports e (contained_at world.exports i e on) (no_type_in_range (length g.types) e.1 is))),
        is,
      )

  -- a world
  pub world_remains : (new : Graph) (w : ℕ) (world : World) → slice_get g.worlds w ≡ Some world → WorldComes (beside g other) new w world
  world_remains new w world at =
      let good = items.worlds w world at in
      record {
        imports = λ i e on. inl (import_remains w world i e at on);
        exports = λ i e on. inl (export_remains w world i e at on);
        distinct_imports = good.distinct_imports;
        distinct_exports = good.distinct_exports;
        no_includes = good.no_includes;
      }

-- the image of what is no type is none
pub image_no_type : (m : Maps) (w : ℕ) (held : WorldItem) → IsNoType held → IsNoType (item_image m w held)
image_no_type m w (item.Interface i stability docs span external_id) is = tt
image_no_type m w (item.Function f) is = tt
image_no_type m w (item.Type_ t span) is = absurd is
