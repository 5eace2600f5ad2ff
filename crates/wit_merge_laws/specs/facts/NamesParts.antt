-- The two graphs are parts of a merged graph.
use Rattle.std.proofs.Common.{◌≡◌, ◌∙◌, ℕ, Bool, true, false, not, List, [], ◌∷◌, ◌++◌, inl, inr, map, is_some, nat_eq, Option, None, Some, option_map, slice_get, refl, sym, ap, subst, Contains}
use Rattle.std.specs.Map.{lookup}
use Rattle.std.specs.Option.{option_eq, option_map_or}
use Rattle.std.specs.Str.{bytes_eq}
use Rattle.std.proofs.lemmas.Bool.{cases_Bool, false≢true}
use Rattle.std.proofs.lemmas.List.Elements.{Contains-append_left, Contains-append_right}
use Rattle.std.proofs.lemmas.Map.Views.{Contains-from_lookup}
use Rattle.std.proofs.lemmas.Slice.Eq.{bytes_eq-Decides}
use Rattle.wit_data.specs.Each.{SomeAt}
use Rattle.wit_data.specs.declared.function.Function.{Function}
use Rattle.wit_data.specs.declared.interface.Interface.{Interface}
use Rattle.wit_data.specs.declared.world.World.{World}
use Rattle.wit_data.specs.declared.world.WorldItem.{WorldItem}
use Rattle.wit_data.specs.declared.world.WorldKey.{WorldKey}
use Rattle.wit_data.specs.declared.world.WorldItem.TheVariants as item
use Rattle.wit_data.specs.declared.world.WorldKey.TheVariants as key
use Rattle.wit_elaboration.specs.facts.Filters.{Contains-filtered}
use Rattle.wit_elaboration.specs.facts.FreshEntries.{same_key-true}
use Rattle.wit_elaboration.specs.Valid.{IsValid}
use Rattle.wit_graph_data.specs.declared.graph.Graph.{Graph}
use Rattle.wit_graph_data.specs.declared.graph.Package.{Package}
use Rattle.wit_elaboration.specs.AllElaborated.{elaborated_world}
use Rattle.wit_graph_theory.specs.Cut.{mapped_source}
use Rattle.wit_graph_theory.specs.facts.GoodWorlds.{same_one}
use Rattle.wit_remap_spec.specs.Image.{entry_image, function_image, interface_image, item_image, world_image}
use Rattle.wit_graph_theory.specs.facts.LawsOfElaboration.{LawsOfElaboration}
use Rattle.wit_graph_theory.specs.facts.ListFacts.{Contains-map, at_map, found_at, place_of, same_at, some_at}
use Rattle.wit_data.specs.Entries.{entries_of}
use Rattle.wit_graph_theory.specs.facts.OptionFacts.{some_same}
use Rattle.wit_graph_theory.specs.steps.Sources.{InterfaceStands}
use Rattle.wit_merge_spec.specs.Cause.{same_sort, HasNoMismatch}
use Rattle.wit_merge_spec.specs.Cause as differ
use Rattle.wit_merge_spec.specs.Merged.{joined_graph, merged, with_interface, brought_functions, merge_maps, merged_interface, merged_package, merged_type, merged_world}
use Rattle.wit_merge_spec.specs.Matches.{GraphMerge, counterpart_interface, counterpart_of, counterpart_world}
use Rattle.wit_merge_laws.specs.facts.InterfacesStand as interfaces
use Rattle.wit_merge_laws.specs.facts.InterfacesStand.{option_is, option_so}
use Rattle.wit_merge_laws.specs.facts.JoinedGood.{MergeCanElaborate}
use Rattle.wit_merge_laws.specs.facts.LabelsStay.{export_into, label_into}
use Rattle.wit_merge_laws.specs.facts.ListedStand.{new_world_at, old_world_at}
use Rattle.wit_merge_laws.specs.facts.MatchFacts.{goes_to, interface_is, world_is}
use Rattle.wit_merge_laws.specs.facts.NamesGo.{InterfaceRemap, ItemRemap, MapsInto, NewIds, WorldRemap}
use Rattle.wit_merge_laws.specs.facts.PackagesStand.{ListsMoved, old_package_at, package_keeps, package_stands, world_keeps}
use Rattle.wit_merge_laws.specs.facts.TypesStand.{matched_some}
use Rattle.wit_merge_laws.specs.facts.UsesListed.{key_remapped, world_keeps_entries}
use Rattle.wit_merge_laws.specs.facts.WholeFacts.{types_within}
use Rattle.wit_merge_laws.specs.facts.WorldsStand.{entry, entry_there}
use Rattle.wit_merge_spec.specs.steps.Parts.{joined_interface, joined_world, moves_interface, moves_world}

-- the places of the things of the graph, which stay, and of those of the other
abbrev pub staying : NewIds
staying = record { packages = λ p. p; interfaces = λ i. i; worlds = λ w. w }

abbrev pub going_to : GraphMerge → NewIds
going_to m =
    record { packages = merged_package m; interfaces = merged_interface m; worlds = merged_world m }

-- ---- interfaces

-- what stands under a name in a list stands there behind more
behind : {V : Type 0} (xs ys : List (List ℕ × V)) (name : List ℕ) (v : V) → Contains xs (name, v) → (w : V) × Contains (xs ++ ys) (name, w)
behind xs ys name v has = (v, Contains-append_left xs ys (name, v) has)

joined_goes : (m : GraphMerge) (e : ℕ × Interface) → InterfaceRemap (λ p. p) e.1 (joined_interface m e)
joined_goes m e = by (counterpart_of (counterpart_interface m) m.other.interfaces e.0)
  where
    by : (o : Option (ℕ × Interface)) → InterfaceRemap (λ p. p) e.1 (option_map_or (λ (p : ℕ × Interface). with_interface m p.1 e.1) o e.1)
    by None = record { name = refl; home = λ p is. is; types = λ name t has. (t, has); functions = λ name f has. (f, has) }
    by (Some p) = record { name = refl; home = λ p is. is; types = behind e.1.types _; functions = behind e.1.functions _ }

image_goes : (m : GraphMerge) (old : Interface) → InterfaceRemap (merged_package m) old (interface_image (merge_maps m) old)
image_goes m old = record {
  name = refl;
  home = λ p is. ap (option_map (merged_package m)) is;
  types = λ name t has. ((merge_maps m).types t, Contains-map (λ (e : List ℕ × ℕ). let r : List ℕ × ℕ = (e.0, (merge_maps m).types e.1) in r) old.types (name, t) has);
  functions = λ name f has. (function_image (merge_maps m) f, Contains-map (λ (e : List ℕ × Function). let r : List ℕ × Function = (e.0, function_image (merge_maps m) e.1) in r) old.functions (name, f) has);
}

-- a function under its name, as its image
abbrev imaged : GraphMerge → List ℕ × Function → List ℕ × Function
imaged m e = (e.0, function_image (merge_maps m) e.1)

-- a function of another interface is there, or comes
function_comes : (m : GraphMerge) (from into : Interface) (name : List ℕ) (f : Function) → Contains from.functions (name, f) → (f' : Function) × Contains (with_interface m from into).functions (name, f')
function_comes m from into name f has = by (lookup (bytes_eq name) into.functions) refl
  where
    by : (o : Option Function) → lookup (bytes_eq name) into.functions ≡ o → (f' : Function) × Contains (with_interface m from into).functions (name, f')
    by (Some f') is = (f', Contains-append_left into.functions _ (name, f') (Contains-from_lookup (λ a b. (bytes_eq-Decides a b).0) name f' into.functions is))
    by None is = (
      function_image (merge_maps m) f,
      Contains-append_right into.functions (map (imaged m) (brought_functions from into)) (name, function_image (merge_maps m) f)
          (Contains-map (imaged m) (brought_functions from into) (name, f) (Contains-filtered (λ (e : List ℕ × Function). not (is_some (lookup (bytes_eq e.0) into.functions))) from.functions (name, f) has (ap (λ (o : Option Function). not (is_some o)) is))),
    )

-- ---- worlds

-- a world with stabilities joined to its entries has the labels of it, and exports what it exported
keeps_labels : (m : GraphMerge) (e : ℕ × World) → WorldRemap (λ p. p) (λ i. i) e.1 (joined_world m e)
keeps_labels m e =
    let keeps = world_keeps_entries m e in
    let same = world_keeps m e in
    record {
      name = same.0;
      home = λ p is. same.1 ∙ is;
      labels = λ exported label held has. let now = keeps.into exported (entry (key.Name label) held) has in (now.0, now.1, λ i is. now.2 ∙ is);
      exports = λ i held has. let now = keeps.into true (entry (key.Interface i) held) has in (now.0, now.1);
    }

image_item_goes : (m : GraphMerge) (w : ℕ) (held : WorldItem) → ItemRemap (merged_interface m) held (item_image (merge_maps m) w held)
image_item_goes m w (item.Interface j stability docs span external_id) i is = ap (λ (x : ℕ). merged_interface m x ∷ []) (one is)
  where
    one : j ∷ [] ≡ i ∷ [] → j ≡ i
    one same = cc
image_item_goes m w (item.Function f) i is = cc
image_item_goes m w (item.Type_ t span) i is = cc

world_image_goes : (m : GraphMerge) (w : ℕ) (old : World) → WorldRemap (merged_package m) (merged_interface m) old (world_image (merge_maps m) w old)
world_image_goes m w old = record {
  name = refl;
  home = λ p is. ap (option_map (merged_package m)) is;
  labels = labels;
  exports = λ i held has. (item_image (merge_maps m) w held, Contains-map (entry_image (merge_maps m) w) old.exports (entry (key.Interface i) held) has);
}
  where
    labels : (exported : Bool) (label : List ℕ) (held : WorldItem) → Contains (entries_of exported old) (entry (key.Name label) held)
        → (there : WorldItem) × Contains (entries_of exported (world_image (merge_maps m) w old)) (entry (key.Name label) there) × ItemRemap (merged_interface m) held there
    labels false label held has = (item_image (merge_maps m) w held, Contains-map (entry_image (merge_maps m) w) old.imports (entry (key.Name label) held) has, image_item_goes m w held)
    labels true label held has = (item_image (merge_maps m) w held, Contains-map (entry_image (merge_maps m) w) old.exports (entry (key.Name label) held) has, image_item_goes m w held)

-- an interface in a matched world is matched with the one under its key there
pub item_matched : (m : GraphMerge) (held here : WorldItem) → same_sort held here ≡ true → ((text : List ℕ) → differ.ItemsDiffer m held here text → ⊥) → ItemRemap (merged_interface m) held here
item_matched m (item.Interface j stability docs span external_id) (item.Interface j' stability' docs' span' external_id') sort agrees i is =
    elim (cases_Bool (option_eq nat_eq (counterpart_interface m j) (Some j'))) [
      | inl same ↦ ap (λ (x : ℕ). x ∷ []) (sym (goes_to (counterpart_interface m j) _ j' (option_is (counterpart_interface m j) j' same)) ∙ ap (merged_interface m) (same_one j i is))
      | inr other ↦ absurd (agrees _ (differ.interfaces j j' refl refl (λ same. false≢true (sym other ∙ option_so (counterpart_interface m j) j' same))))
    ]
item_matched m (item.Interface j stability docs span external_id) (item.Function f) sort agrees i is = absurd (false≢true sort)
item_matched m (item.Interface j stability docs span external_id) (item.Type_ t span') sort agrees i is = absurd (false≢true sort)
item_matched m (item.Function f) here sort agrees i is = cc
item_matched m (item.Type_ t span) here sort agrees i is = cc

-- what goes to a listed world goes to the elaborated one
module _ (laws : LawsOfElaboration) (m : GraphMerge) (valid : IsValid m.graph) (valid_other : IsValid m.other) (one : HasNoMismatch m) (can : MergeCanElaborate m) where
  abbrev g : Graph
  g = joined_graph m

  elaborated_goes : (packages_to interfaces_to : ℕ → ℕ) (old : World) (w' : ℕ) (listed : World) → slice_get g.worlds w' ≡ Some listed → WorldRemap packages_to interfaces_to old listed
      → SomeAt (merged m).worlds w' (WorldRemap packages_to interfaces_to old)
  elaborated_goes packages_to interfaces_to old w' listed there goes =
      some_at (WorldRemap packages_to interfaces_to old) (merged m).worlds w' (elaborated_world g listed) (at_map (elaborated_world g) g.worlds w' listed there) (record {
        name = goes.name;
        home = goes.home;
        labels = λ exported label held has.
            let before = goes.labels exported label held has in
            let now = label_into laws m valid valid_other one can w' listed there exported label before.0 before.1 in
            (now.there, now.has, λ i is. now.same ∙ before.2 i is);
        exports = λ i held has.
            let before = goes.exports i held has in
            export_into laws m valid valid_other one can w' listed there (interfaces_to i) before.0 before.1;
      })

  -- ---- the graph is a part

  pub graph_part : MapsInto m.graph (merged m) staying
  graph_part = record {
    packages_go = λ p old there. some_at (λ (new : Package). new.name ≡ old.name) (merged m).packages p _ (old_package_at m p old there) (package_keeps m (p, old)).name;
    interfaces_go = λ i old there. some_at (InterfaceRemap (λ p. p) old) (merged m).interfaces i (joined_interface m (i, old)) (interfaces.old_interface_at m i old there) (joined_goes m (i, old));
    worlds_go = λ w old there. elaborated_goes (λ p. p) (λ i. i) old w (joined_world m (w, old)) (old_world_at m w old there) (keeps_labels m (w, old));
  }

  -- ---- so is the other

  other_interface_remapped : (i : ℕ) (old : Interface) → slice_get m.other.interfaces i ≡ Some old → SomeAt (merged m).interfaces (merged_interface m i) (InterfaceRemap (merged_package m) old)
  other_interface_remapped i old there = elim (cases_Bool (moves_interface m i)) [
    | inl moves ↦ some_at (InterfaceRemap (merged_package m) old) (merged m).interfaces (merged_interface m i) _ (interfaces.new_interface_at m i old there moves) (image_goes m old)
    | inr stays ↦ matched (matched_some (counterpart_interface m i) stays)
  ]
    where
      matched : (i' : ℕ) × (counterpart_interface m i ≡ Some i') → SomeAt (merged m).interfaces (merged_interface m i) (InterfaceRemap (merged_package m) old)
      matched (i', found) =
          let is = interface_is m valid valid_other i i' found in
          let same : is.from ≡ old = some_same is.from old (sym is.from_is ∙ there) in
          let at : slice_get (merged m).interfaces (merged_interface m i) ≡ Some (with_interface m old is.into) =
          ap (slice_get (merged m).interfaces) (goes_to (counterpart_interface m i) _ i' found)
          ∙ (interfaces.old_interface_at m i' is.into is.into_is ∙ ap (λ (x : Interface). Some x) (interfaces.with_counterpart m valid valid_other i i' old is.into there found)) in
          let stands = found_at (InterfaceStands (mapped_source m.other (merge_maps m)) old) (merged m).interfaces (merged_interface m i) (interfaces.interface_stands m valid valid_other i old there) in
          let new = same_at (merged m).interfaces (merged_interface m i) (merged_interface m i) stands.0 (with_interface m old is.into) refl stands.1 at in
          some_at (InterfaceRemap (merged_package m) old) (merged m).interfaces (merged_interface m i) (with_interface m old is.into) at (record {
            name = is.called ∙ ap (λ (x : Interface). x.name) same;
            home = λ p of. is.home ∙ ap (option_map (merged_package m)) (ap (λ (x : Interface). x.package) same ∙ of);
            types = λ name t has.
                let place = place_of old.types (name, t) has in
                (merged_type m t, subst (λ (x : Interface). Contains x.types (name, merged_type m t)) new (stands.2.types name t has (types_within m.other valid_other i old there place.0 (name, t) place.1)));
            functions = function_comes m old is.into;
          })

  module _ (w w' : ℕ) (old into : World) (there : slice_get m.other.worlds w ≡ Some old) (found : counterpart_world m w ≡ Some w') (into_there : slice_get m.graph.worlds w' ≡ Some into) where
    abbrev joined : World
    joined = joined_world m (w', into)

    matched_labels : (exported : Bool) (label : List ℕ) (held : WorldItem) → Contains (entries_of exported old) (entry (key.Name label) held)
        → (now : WorldItem) × Contains (entries_of exported joined) (entry (key.Name label) now) × ItemRemap (merged_interface m) held now
    matched_labels exported label held has =
        let at = entry_there m valid valid_other one w w' old into there found into_there exported (key.Name label) held has in
        let same_label : at.k' ≡ key.Name label = some_key at.k' (key.Name label) (sym at.key_is) in
        let stands = subst (λ (k : WorldKey). Contains (entries_of exported into) (entry k at.here)) same_label (Contains-from_lookup same_key-true at.k' at.here (entries_of exported into) at.looked) in
        let now = (world_keeps_entries m (w', into)).into exported (entry (key.Name label) at.here) stands in
        (now.0, now.1, λ i is. now.2 ∙ item_matched m held at.here at.same at.agrees i is)
      where
        some_key : (a b : WorldKey) → Some a ≡ Some b → a ≡ b
        some_key a b same = cc

    matched_exports : (i : ℕ) (held : WorldItem) → Contains old.exports (entry (key.Interface i) held) → (now : WorldItem) × Contains joined.exports (entry (key.Interface (merged_interface m i)) now)
    matched_exports i held has =
        let at = entry_there m valid valid_other one w w' old into there found into_there true (key.Interface i) held has in
        let stands = subst (λ (k : WorldKey). Contains into.exports (entry k at.here)) (key_remapped m i at.k' at.key_is) (Contains-from_lookup same_key-true at.k' at.here into.exports at.looked) in
        let now = (world_keeps_entries m (w', into)).into true (entry (key.Interface (merged_interface m i)) at.here) stands in
        (now.0, now.1)

    matched_remapped : WorldRemap (merged_package m) (merged_interface m) old joined
    matched_remapped =
        let is = world_is m valid w w' found in
        let same_old : is.from ≡ old = some_same is.from old (sym is.from_is ∙ there) in
        let same_into : is.into ≡ into = some_same is.into into (sym is.into_is ∙ into_there) in
        let keeps = world_keeps m (w', into) in
        record {
          name = keeps.0 ∙ (ap (λ (x : World). x.name) (sym same_into) ∙ (is.name ∙ ap (λ (x : World). x.name) same_old));
          home = λ p of. keeps.1 ∙ (ap (λ (x : World). x.package) (sym same_into) ∙ (is.home ∙ ap (option_map (merged_package m)) (ap (λ (x : World). x.package) same_old ∙ of)));
          labels = matched_labels;
          exports = matched_exports;
        }

  other_world_remapped : (w : ℕ) (old : World) → slice_get m.other.worlds w ≡ Some old → SomeAt (merged m).worlds (merged_world m w) (WorldRemap (merged_package m) (merged_interface m) old)
  other_world_remapped w old there = elim (cases_Bool (moves_world m w)) [
    | inl moves ↦ elaborated_goes (merged_package m) (merged_interface m) old (merged_world m w) (world_image (merge_maps m) w old) (new_world_at m w old there moves) (world_image_goes m w old)
    | inr stays ↦ matched (matched_some (counterpart_world m w) stays)
  ]
    where
      matched : (w' : ℕ) × (counterpart_world m w ≡ Some w') → SomeAt (merged m).worlds (merged_world m w) (WorldRemap (merged_package m) (merged_interface m) old)
      matched (w', found) =
          let is = world_is m valid w w' found in
          subst (λ (x : ℕ). SomeAt (merged m).worlds x (WorldRemap (merged_package m) (merged_interface m) old)) (sym (goes_to (counterpart_world m w) _ w' found))
          (elaborated_goes (merged_package m) (merged_interface m) old w' (joined_world m (w', is.into)) (old_world_at m w' is.into is.into_is) (matched_remapped w w' old is.into there found is.into_is))

  pub other_part : MapsInto m.other (merged m) (going_to m)
  other_part = record {
    packages_go = λ p old there.
        let stands = found_at (ListsMoved m valid valid_other old) (merged m).packages (merged_package m p) (package_stands m valid valid_other p old there) in
        some_at (λ (new : Package). new.name ≡ old.name) (merged m).packages (merged_package m p) stands.0 stands.1 stands.2.name;
    interfaces_go = other_interface_remapped;
    worlds_go = other_world_remapped;
  }
