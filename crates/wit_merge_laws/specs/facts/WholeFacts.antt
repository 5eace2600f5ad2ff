-- Of a valid graph all is selected, so what is cut to what is selected is as it was.
use Rattle.std.proofs.Common.{◌≡◌, ◌∙◌, ℕ, suc, Bool, true, List, [], ◌∷◌, cond, filter, length, Some, slice_get, refl, sym, ap}
use Rattle.std.proofs.lemmas.Bool.{lt-ltb}
use Rattle.std.proofs.lemmas.Option.{slice_get_within}
use Rattle.wit_data.specs.Each.{Each}
use Rattle.wit_data.specs.Entries.{Entry, IsExport, IsImport}
use Rattle.wit_data.specs.declared.function.Function.{Function}
use Rattle.wit_data.specs.declared.interface.Interface.{Interface}
use Rattle.wit_data.specs.declared.types.TypeDef.{TypeDef}
use Rattle.wit_data.specs.declared.world.World.{World}
use Rattle.wit_data.specs.declared.world.WorldItem.{WorldItem}
use Rattle.wit_data.specs.declared.world.WorldKey.{WorldKey}
use Rattle.wit_data.specs.declared.types.TypeOwner.TheVariants as owner
use Rattle.wit_data.specs.declared.world.WorldItem.TheVariants as item
use Rattle.wit_data.specs.declared.world.WorldKey.TheVariants as key
use Rattle.wit_elaboration.specs.Valid.{IsValid}
use Rattle.wit_graph_data.specs.declared.graph.Graph.{Graph}
use Rattle.wit_graph_theory.specs.Cut.{kept_whole, mapped_source}
use Rattle.wit_remap_spec.specs.Kept.{cut_interface, cut_world}
use Rattle.wit_remap_spec.specs.Image.{Maps}
use Rattle.wit_graph_theory.specs.facts.ListFacts.{at_map, found_at, from_map}

-- what passes all is as it was
pub all_pass : {X : Type 0} (p : X → Bool) (xs : List X) → Each (λ x. p x ≡ true) xs → filter p xs ≡ xs
all_pass p [] all = refl
all_pass p (x ∷ xs) all = ap (λ (b : Bool). cond b (x ∷ filter p xs) (filter p xs)) (all 0 x refl) ∙ ap (λ l. x ∷ l) (all_pass p xs (λ i y at. all (suc i) y at))

module _ (g : Graph) (valid : IsValid g) where
  pub types_within : (f : ℕ) (interface : Interface) → slice_get g.interfaces f ≡ Some interface → Each (λ (e : List ℕ × ℕ). (kept_whole g).types e.1 ≡ true) interface.types
  types_within f interface at i e on =
      let is = found_at (λ (def : TypeDef). (def.name ≡ Some e.0) × (def.owner ≡ owner.Interface f)) g.types e.1 (valid.well_formed.owners.own_types f interface at i e on) in
      lt-ltb e.1 (length g.types) (slice_get_within g.types e.1 is.0 is.1)

  -- an interface
  pub whole_interface : (f : ℕ) (interface : Interface) → slice_get g.interfaces f ≡ Some interface → cut_interface (kept_whole g) interface ≡ interface
  whole_interface f interface at = λ i. record interface {
    types = all_pass (λ (e : List ℕ × ℕ). (kept_whole g).types e.1) interface.types (types_within f interface at) i;
    functions = all_pass (λ (e : List ℕ × Function). true) interface.functions (λ k e on. refl) i;
  }

  item_within : (w : ℕ) (k : WorldKey) (held : WorldItem) → IsImport g.interfaces g.types w k held → (kept_whole g).items held ≡ true
  item_within w k (item.Interface i stability docs span external_id) is = refl
  item_within w k (item.Function f) is = refl
  item_within w (key.Name name) (item.Type_ t span) is =
      let found = found_at (λ (def : TypeDef). (def.name ≡ Some name) × (def.owner ≡ owner.World w)) g.types t is in
      lt-ltb t (length g.types) (slice_get_within g.types t found.0 found.1)
  item_within w (key.Interface i) (item.Type_ t span) is = absurd is

  exported_within : (k : WorldKey) (held : WorldItem) → IsExport g.interfaces k held → (kept_whole g).items held ≡ true
  exported_within k (item.Interface i stability docs span external_id) is = refl
  exported_within k (item.Function f) is = refl
  exported_within (key.Name name) (item.Type_ t span) is = absurd is
  exported_within (key.Interface i) (item.Type_ t span) is = absurd is

  -- a world
  pub whole_world : (w : ℕ) (world : World) → slice_get g.worlds w ≡ Some world → cut_world (kept_whole g) world ≡ world
  whole_world w world at = λ i. record world {
    imports = all_pass (λ (e : Entry). (kept_whole g).items e.1) world.imports (λ k e on. item_within w e.0 e.1 (valid.well_formed.worlds.imports w world at k e on)) i;
    exports = all_pass (λ (e : Entry). (kept_whole g).items e.1) world.exports (λ k e on. exported_within e.0 e.1 (valid.well_formed.worlds.exports w world at k e on)) i;
  }

  -- at its place in the source
  pub interface_at : (m : Maps) (f : ℕ) (interface : Interface) → slice_get g.interfaces f ≡ Some interface → slice_get (mapped_source g m).graph.interfaces f ≡ Some interface
  interface_at m f interface at = at_map (cut_interface (kept_whole g)) g.interfaces f interface at ∙ ap (λ (x : Interface). Some x) (whole_interface f interface at)

  pub interface_from : (m : Maps) (f : ℕ) (interface : Interface) → slice_get (mapped_source g m).graph.interfaces f ≡ Some interface → slice_get g.interfaces f ≡ Some interface
  interface_from m f interface at =
      let from = from_map (cut_interface (kept_whole g)) g.interfaces f interface at in
      from.1 ∙ ap (λ (x : Interface). Some x) (sym (whole_interface f from.0 from.1) ∙ from.2)

  pub world_at : (m : Maps) (w : ℕ) (world : World) → slice_get g.worlds w ≡ Some world → slice_get (mapped_source g m).graph.worlds w ≡ Some world
  world_at m w world at = at_map (cut_world (kept_whole g)) g.worlds w world at ∙ ap (λ (x : World). Some x) (whole_world w world at)

  pub world_from : (m : Maps) (w : ℕ) (world : World) → slice_get (mapped_source g m).graph.worlds w ≡ Some world → slice_get g.worlds w ≡ Some world
  world_from m w world at =
      let from = from_map (cut_world (kept_whole g)) g.worlds w world at in
      from.1 ∙ ap (λ (x : World). Some x) (sym (whole_world w from.0 from.1) ∙ from.2)
