-- The parts of an addition can be moved to the ends of its graph, and are then what the addition says.
use Rattle.std.proofs.Common.{◌≡◌, ◌∙◌, ℕ, ◌<◌, ◌^◌, ◌&&◌, Bool, not, List, [], ◌∷◌, ◌++◌, map, length, None, Some, slice_get, drop, filter, refl, sym, ap, subst}
use Rattle.std.specs.List.{IsDistinct}
use Rattle.std.specs.Map.{keys_of, lookup}
use Rattle.std.specs.Str.{bytes_eq}
use Rattle.std.proofs.lemmas.Bool.{lt-ltb}
use Rattle.wit_data.specs.Foreign.{foreign_interfaces, foreign_worlds}
use Rattle.wit_names.specs.PackageName.{same_package}
use Rattle.wit_data.specs.Shape.{IsShaped}
use Rattle.wit_data.specs.declared.interface.Interface.{Interface}
use Rattle.wit_data.specs.declared.types.TypeDef.{TypeDef}
use Rattle.wit_data.specs.declared.unresolved.UnresolvedPackage.{UnresolvedPackage}
use Rattle.wit_data.specs.declared.world.World.{World}
use Rattle.wit_elaboration.specs.Valid.{IsValid}
use Rattle.wit_graph_data.specs.declared.features.Features.{Features}
use Rattle.wit_graph_data.specs.declared.graph.Graph.{Graph}
use Rattle.wit_remap_spec.specs.Kept.{KeptIds, cut_interface, cut_world}
use Rattle.wit_remap_spec.specs.Image.{Maps, interface_image, type_image, world_image}
use Rattle.wit_link_spec.specs.steps.AdditionRefs.{new_ids_of}
use Rattle.wit_link_spec.specs.Addition.{Addition, active, addition_maps, own_interface, own_type, own_world, remap_of_addition}
use Rattle.wit_remap_spec.specs.Selected.{selected, selected_with_index}
use Rattle.wit_link_spec.specs.Gates.{interface_is_active, world_is_active}
use Rattle.wit_link_spec.specs.Added.{with_parts}
use Rattle.wit_link_spec.specs.facts.RankFacts.{selected_with_index-from}
use Rattle.wit_link_spec.specs.Reasons.{IsResolved}
use Rattle.wit_link_spec.specs.declared.addition.NewIds.{NewIds}
use Rattle.wit_link_spec.specs.steps.NewThings.{is_new}
use Rattle.wit_link_spec.specs.facts.NewFacts.{new_interfaces, new_types, new_worlds}
use Rattle.wit_remap.specs.steps.Fits.{CanMoveParts, added_world, added_worlds, interfaces_at, moved_package, moved_parts, updated_world, worlds_at}
use Rattle.wit_remap.specs.steps.Movers.{maps_with}
use Rattle.wit_remap.specs.steps.Parts.{kept_of}
use Rattle.wit_remap.specs.declared.part.Part.{Part}
use Rattle.wit_remap.specs.declared.worlds.UpdatedWorld.{UpdatedWorld}
use Rattle.wit_remap.proofs.KeysApart.{world_keys_apart}
use Rattle.wit_remap.proofs.NamesApart.{keys_all, keys_named, names_all, names_differ, names_some}
use Rattle.wit_remap.proofs.SpansFit.{interfaces_fit, types_fit, worlds_fit}
use Rattle.wit_remap_spec.specs.steps.Parts.{owns}
use Rattle.wit_link_spec.specs.steps.Parts.{include_is_active, AdditionOverflows}

module _ (a : Addition) (valid : IsValid a.graph) (shaped : IsShaped a.unresolved) (image : IsResolved a) where
  interface_names_apart : IsDistinct bytes_eq (keys_of (interfaces_at (addition_maps a) (selected_with_index (own_interface a) a.unresolved.interfaces)))
  interface_names_apart =
      let own = own_interface a in
      let foreign = length (foreign_interfaces a.unresolved.foreign_deps) in
      let name = λ (interface : Interface). interface.name in
      subst (λ (l : List (List ℕ)). IsDistinct bytes_eq l) (sym (keys_named (λ (e : ℕ × Interface). e.1.name) (λ (e : ℕ × Interface). (addition_maps a).interfaces e.0) (selected_with_index own a.unresolved.interfaces)))
      (names_differ name own foreign a.unresolved.interfaces (λ i below. ap (λ (b : Bool). not b && interface_is_active a.features a.unresolved i) (lt-ltb i foreign below))
      (subst (λ (l : List (List ℕ)). IsDistinct bytes_eq l) (names_some name (drop foreign a.unresolved.interfaces)) shaped.names.interfaces_differ))

  world_names_apart : IsDistinct bytes_eq (keys_of (worlds_at (addition_maps a) (selected_with_index (own_world a) a.unresolved.worlds)))
  world_names_apart =
      let own = own_world a in
      let foreign = length (foreign_worlds a.unresolved.foreign_deps) in
      subst (λ (l : List (List ℕ)). IsDistinct bytes_eq l) (sym (keys_all (λ (e : ℕ × World). e.1.name) (λ (e : ℕ × World). (addition_maps a).worlds e.0) (selected_with_index own a.unresolved.worlds)))
      (names_differ (λ (world : World). Some world.name) own foreign a.unresolved.worlds (λ w below. ap (λ (b : Bool). not b && world_is_active a.features a.unresolved w) (lt-ltb w foreign below))
      (subst (λ (l : List (List ℕ)). IsDistinct bytes_eq l) (names_all (λ (world : World). world.name) (drop foreign a.unresolved.worlds)) shaped.names.worlds_differ))

  pub is_ready : a.offset < 2 ^ 32 → (AdditionOverflows a → ⊥) → lookup (same_package a.unresolved.name) a.graph.package_names ≡ None → CanMoveParts (new_ids_of a) (addition_maps a) (active a) a.graph a.unresolved
  is_ready small fit new = record {
    new = new;
    types = types_fit a small fit;
    interfaces = interfaces_fit a small fit;
    worlds = worlds_fit a small fit;
    interface_names = subst (λ (own : ℕ → Bool). IsDistinct bytes_eq (keys_of (interfaces_at (addition_maps a) (selected_with_index own a.unresolved.interfaces)))) (sym (new_interfaces a valid shaped image)) interface_names_apart;
    world_names = subst (λ (own : ℕ → Bool). IsDistinct bytes_eq (keys_of (worlds_at (addition_maps a) (selected_with_index own a.unresolved.worlds)))) (sym (new_worlds a valid shaped image)) world_names_apart;
    keys = λ k e at.
        let is = selected_with_index-from (own_world a) a.unresolved.worlds k e (subst (λ (own : ℕ → Bool). slice_get (selected_with_index own a.unresolved.worlds) k ≡ Some e) (new_worlds a valid shaped image) at) in
        world_keys_apart a valid shaped image e.0 e.1 is.0 is.1;
  }

  abbrev graph_with : (ℕ → Bool) → (ℕ → Bool) → Graph
  graph_with own_i own_w = record (with_parts a) {
    interfaces = a.graph.interfaces ++ map (interface_image (addition_maps a)) (map (cut_interface (active a)) (selected own_i a.unresolved.interfaces));
    packages = a.graph.packages ++ moved_package (addition_maps a) a.unresolved own_i own_w ∷ [];
  }

  abbrev graph_of : (ℕ → Bool) → Graph
  graph_of own = record (moved_parts (new_ids_of a) (addition_maps a) (active a) (owns (remap_of_addition a)) a.unresolved a.graph) { types = a.graph.types ++ (map (type_image (addition_maps a)) (selected own a.unresolved.types) ++ owns (remap_of_addition a)) }

  -- the parts that go to new ids are those of the addition
  pub moved_are : moved_parts (new_ids_of a) (addition_maps a) (active a) (owns (remap_of_addition a)) a.unresolved a.graph ≡ with_parts a
  moved_are =
      let types : graph_of (is_new (length a.graph.types) (new_ids_of a).types) ≡ graph_of (own_type a) = ap graph_of (new_types a valid shaped image) in
      let interfaces : graph_with (is_new (length a.graph.interfaces) (new_ids_of a).interfaces) (is_new (length a.graph.worlds) (new_ids_of a).worlds) ≡ graph_with (own_interface a) (is_new (length a.graph.worlds) (new_ids_of a).worlds) =
      ap (λ (own : ℕ → Bool). graph_with own (is_new (length a.graph.worlds) (new_ids_of a).worlds)) (new_interfaces a valid shaped image) in
      let worlds : graph_with (own_interface a) (is_new (length a.graph.worlds) (new_ids_of a).worlds) ≡ graph_with (own_interface a) (own_world a) = ap (λ (own : ℕ → Bool). graph_with (own_interface a) own) (new_worlds a valid shaped image) in
      types ∙ (interfaces ∙ worlds)

joined : {X Y Z : Type 0} (f : Y → Z) (g : X → Y) (xs : List X) → map (λ (x : X). f (g x)) xs ≡ map f (map g xs)
joined f g [] = refl
joined f g (x ∷ xs) = ap (λ l. f (g x) ∷ l) (joined f g xs)

-- and so are the worlds
pub worlds_are : (a : Addition) (valid : IsValid a.graph) (shaped : IsShaped a.unresolved) (image : IsResolved a) (part : Part) → part.features.now ≡ a.features → kept_of part ≡ active a
    → map (updated_world (addition_maps a) part) (selected_with_index (is_new (length a.graph.worlds) (new_ids_of a).worlds) a.unresolved.worlds) ≡ added_worlds a
worlds_are a valid shaped image part features kept =
    let world_of : KeptIds → (ℕ × World) → UpdatedWorld = λ k e. record { id = e.0; world = world_image (addition_maps a) e.0 (cut_world k e.1); includes = filter (include_is_active part.features.now) e.1.includes } in
    ap (λ (own : ℕ → Bool). map (updated_world (addition_maps a) part) (selected_with_index own a.unresolved.worlds)) (new_worlds a valid shaped image)
    ∙ (ap (λ (k : KeptIds). map (world_of k) (selected_with_index (own_world a) a.unresolved.worlds)) kept
    ∙ (ap (λ (features : Features). map (λ (e : ℕ × World). let r : UpdatedWorld = record { id = e.0; world = world_image (addition_maps a) e.0 (cut_world (active a) e.1); includes = filter (include_is_active features) e.1.includes } in r) (selected_with_index (own_world a) a.unresolved.worlds)) features
    ∙ joined (added_world a) (λ (e : ℕ × World). let r : ℕ × World = (e.0, cut_world (active a) e.1) in r) (selected_with_index (own_world a) a.unresolved.worlds)))

-- what is ready by one account is by an equal one
pub ready_so : (p q : NewIds) (m n : Maps) (k l : KeptIds) (g : Graph) (u : UnresolvedPackage) → p ≡ q → m ≡ n → k ≡ l → CanMoveParts q n l g u → CanMoveParts p m k g u
ready_so p q m n k l g u new_ids maps kept ready =
    subst (λ (x : NewIds). CanMoveParts x m k g u) (sym new_ids) (subst (λ (x : Maps). CanMoveParts q x k g u) (sym maps) (subst (λ (x : KeptIds). CanMoveParts q n x g u) (sym kept) ready))

-- the same of maps, parts and worlds
pub maps_so : (p q : NewIds) (v w : List ℕ) (h k offset : ℕ) → p ≡ q → v ≡ w → h ≡ k → maps_with p v h offset ≡ maps_with q w k offset
maps_so p q v w h k offset new_ids values home = λ j. maps_with (new_ids j) (values j) (home j) offset

pub moved_so : (p q : NewIds) (m n : Maps) (k l : KeptIds) (o r : List TypeDef) (u : UnresolvedPackage) (g : Graph) → p ≡ q → m ≡ n → k ≡ l → o ≡ r → moved_parts p m k o u g ≡ moved_parts q n l r u g
moved_so p q m n k l o r u g new_ids maps kept owns = λ j. moved_parts (new_ids j) (maps j) (kept j) (owns j) u g

pub updated_so : (p q : NewIds) (m n : Maps) (part : Part) (first : ℕ) (worlds : List World) → p ≡ q → m ≡ n
    → map (updated_world m part) (selected_with_index (is_new first p.worlds) worlds) ≡ map (updated_world n part) (selected_with_index (is_new first q.worlds) worlds)
updated_so p q m n part first worlds new_ids maps = λ j. map (updated_world (maps j) part) (selected_with_index (is_new first (new_ids j).worlds) worlds)
