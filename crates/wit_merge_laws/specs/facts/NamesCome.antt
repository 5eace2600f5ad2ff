-- What a merged graph has under names, one of the two graphs has under them.
use Rattle.std.proofs.Common.{◌≡◌, ◌∙◌, ◌⊎◌, inl, inr, ℕ, zero, suc, Bool, true, List, [], ◌∷◌, IsSome, Some, slice_get, refl, sym, ap, subst, arith, Contains}
use Rattle.std.proofs.lemmas.Bool.{cases_Bool, eqb-true}
use Rattle.std.proofs.lemmas.Map.Views.{Contains-from_lookup}
use Rattle.std.proofs.lemmas.Option.{slice_get_within}
use Rattle.wit_digraph.specs.facts.MemberFacts.{Contains-here}
use Rattle.wit_data.specs.Entries.{Entry, is_unnamed, item_interface, entries_of}
use Rattle.wit_data.specs.declared.function.Function.{Function}
use Rattle.wit_data.specs.declared.interface.Interface.{Interface}
use Rattle.wit_names.specs.declared.package_name.PackageName.{PackageName}
use Rattle.wit_data.specs.declared.world.World.{World}
use Rattle.wit_data.specs.declared.world.WorldItem.{WorldItem}
use Rattle.wit_data.specs.declared.world.WorldKey.{WorldKey}
use Rattle.wit_data.specs.declared.world.WorldKey.TheVariants as key
use Rattle.wit_elaboration.specs.facts.FreshEntries.{same_key-true}
use Rattle.wit_elaboration.specs.Valid.{IsValid}
use Rattle.wit_graph_data.specs.declared.graph.Graph.{Graph}
use Rattle.wit_graph_data.specs.declared.graph.Package.{Package}
use Rattle.wit_elaboration.specs.AllElaborated.{elaborated_world}
use Rattle.wit_graph_theory.specs.facts.Covered.{InterfaceAt}
use Rattle.wit_remap_spec.specs.Image.{key_image}
use Rattle.wit_graph_theory.specs.facts.LawsOfElaboration.{LawsOfElaboration}
use Rattle.wit_graph_theory.specs.facts.ListFacts.{found_at, from_map, place_of, some_at}
use Rattle.wit_graph_theory.specs.Operations.{merge_sources}
use Rattle.wit_graph_theory.specs.steps.Sources.{Source}
use Rattle.wit_merge_spec.specs.Matches.{GraphMerge, counterpart_interface, counterpart_world, world_labels}
use Rattle.wit_merge_spec.specs.Merged.{merge_maps, merged_interface, merged_world, joined_graph, merged}
use Rattle.wit_merge_spec.specs.Cause.{HasNoMismatch}
use Rattle.wit_merge_laws.specs.facts.InterfacesStand.{interface_at_from, interfaces_come, moved_interface_remapped}
use Rattle.wit_merge_laws.specs.facts.InterfacesStand as interfaces
use Rattle.wit_merge_laws.specs.facts.JoinedGood.{MergeCanElaborate}
use Rattle.wit_merge_laws.specs.facts.LabelsStay.{export_from, label_from}
use Rattle.wit_merge_laws.specs.facts.ListedStand.{interfaces_apart, world_at_from}
use Rattle.wit_merge_laws.specs.facts.ListedStand as worlds
use Rattle.wit_merge_laws.specs.facts.MatchFacts.{goes_to, label_home, no_name, stands_at}
use Rattle.wit_merge_laws.specs.laws.Names.{HasLabel, HasName, InterfaceName, IsInterface, IsNamedSo, IsPackage, IsUnnamedAt, IsWorld, Label, Name, at_label, in_package, of_export, of_function, of_interface, of_label, of_package, of_type, of_world}
use Rattle.wit_merge_laws.specs.facts.NamesGo.{MapsInto, interface_back, package_back, unnamed_back, world_back}
use Rattle.wit_merge_laws.specs.facts.NamesParts.{going_to, graph_part, other_part, staying}
use Rattle.wit_merge_laws.specs.facts.OnceStand.{image_held, spot_of, world_label_key}
use Rattle.wit_merge_laws.specs.facts.PackagesStand.{package_at_from}
use Rattle.wit_merge_laws.specs.facts.PackagesStand as packages
use Rattle.wit_merge_laws.specs.facts.TypesStand.{matched_some}
use Rattle.wit_merge_laws.specs.facts.MergedWorlds.{named_key}
use Rattle.wit_merge_laws.specs.facts.UsesListed.{image_entry, unmatched, world_keeps_entries}
use Rattle.wit_merge_laws.specs.facts.WorldsStand.{entry}
use Rattle.wit_merge_laws.specs.facts.WholeFacts.{interface_from}
use Rattle.wit_remap_spec.specs.steps.Parts.{identity}
use Rattle.wit_merge_spec.specs.steps.Parts.{moves_interface, moves_world}

-- a label comes of that label, the key of an interface of the key of one that goes there
pub label_key : (m : GraphMerge) (w : ℕ) (k : WorldKey) (label : List ℕ) → key_image (merge_maps m) w k ≡ key.Name label → k ≡ key.Name label
label_key m w (key.Name a) label is = is
label_key m w (key.Interface i) label is = cc

interface_key : (m : GraphMerge) (w : ℕ) (k : WorldKey) (i' : ℕ) → key_image (merge_maps m) w k ≡ key.Interface i' → (i : ℕ) × (k ≡ key.Interface i) × (i' ≡ merged_interface m i)
interface_key m w (key.Name a) i' is = cc
interface_key m w (key.Interface i) i' is = (i, refl, one is)
  where
    one : {a b : ℕ} → key.Interface a ≡ key.Interface b → b ≡ a
    one same = cc

same_label : (a b : List ℕ) → key.Name a ≡ key.Name b → a ≡ b
same_label a b same = cc

-- what stands in a world of a valid graph is there
module _ (h : Graph) (valid : IsValid h) where
  held_there : (w : ℕ) (world : World) (exported : Bool) (label : List ℕ) (d : WorldItem) (i : ℕ) → slice_get h.worlds w ≡ Some world → Contains (entries_of exported world) (entry (key.Name label) d) → item_interface d ≡ i ∷ []
      → (interface : Interface) × (slice_get h.interfaces i ≡ Some interface)
  held_there w world exported label d i there has held =
      let found = found_at (λ (interface : Interface). _) h.interfaces i (label_home h valid w world exported (key.Name label) d i there has held) in
      (found.0, found.1)

  exported_there : (w : ℕ) (world : World) (i : ℕ) (d : WorldItem) → slice_get h.worlds w ≡ Some world → Contains world.exports (entry (key.Interface i) d) → (interface : Interface) × (slice_get h.interfaces i ≡ Some interface)
  exported_there w world i d there has =
      let place = place_of world.exports (entry (key.Interface i) d) has in
      let named = named_key h.interfaces (key.Interface i) d i (Contains-here i []) (valid.well_formed.worlds.exports w world there place.0 (entry (key.Interface i) d) place.1) in
      let found = found_at (λ (interface : Interface). IsSome interface.name) h.interfaces i named in
      (found.0, found.1)

module _ (laws : LawsOfElaboration) (m : GraphMerge) (valid : IsValid m.graph) (valid_other : IsValid m.other) (one : HasNoMismatch m) (can : MergeCanElaborate m) where
  abbrev g : Graph
  g = joined_graph m

  abbrev mine : MapsInto m.graph (merged m) staying
  mine = graph_part laws m valid valid_other one can

  abbrev theirs : MapsInto m.other (merged m) (going_to m)
  theirs = other_part laws m valid valid_other one can

  -- ---- what stands under a label of a merged world

  data LabelFrom (w' : ℕ) (exported : Bool) (label : List ℕ) (held : WorldItem) : Type 0 where
    under_graph : (old : World) (d : WorldItem) → slice_get m.graph.worlds w' ≡ Some old
        → Contains (entries_of exported old) (entry (key.Name label) d)
        → item_interface held ≡ item_interface d → LabelFrom w' exported label held
    under_other : (w : ℕ) (old : World) (d : WorldItem) → slice_get m.other.worlds w ≡ Some old
        → moves_world m w ≡ true → w' ≡ merged_world m w
        → Contains (entries_of exported old) (entry (key.Name label) d)
        → ((i' : ℕ) → item_interface held ≡ i' ∷ []
        → (i : ℕ) × (item_interface d ≡ i ∷ []) × (i' ≡ merged_interface m i))
        → LabelFrom w' exported label held

  stands_from : (w' : ℕ) (exported : Bool) (label : List ℕ) (held : WorldItem) → HasLabel (merged m) w' exported label held → LabelFrom w' exported label held
  stands_from w' exported label held has =
      let world = found_at (λ (world : World). Contains (entries_of exported world) (entry (key.Name label) held)) (merged m).worlds w' has in
      let listed = from_map (elaborated_world g) g.worlds w' world.0 world.1 in
      let before = label_from laws m valid valid_other one can w' listed.0 listed.1 exported label held (subst (λ (x : World). Contains (entries_of exported x) (entry (key.Name label) held)) (sym listed.2) world.2) in
      by listed.0 before.there before.has before.same (world_at_from m w' listed.0 listed.1)
    where
      by : (listed : World) (d : WorldItem) → Contains (entries_of exported listed) (entry (key.Name label) d) → item_interface d ≡ item_interface held → worlds.WorldFrom m w' listed → LabelFrom w' exported label held
      by listed d stands same (worlds.of_graph old is joined) =
          let from = (world_keeps_entries m (w', old)).from exported (entry (key.Name label) d) (subst (λ (x : World). Contains (entries_of exported x) (entry (key.Name label) d)) (sym joined) stands) in
          under_graph old from.0.1 is (subst (λ (k : WorldKey). Contains (entries_of exported old) (entry k from.0.1)) (sym from.2) from.1) (sym same ∙ from.3)
      by listed d stands same (worlds.of_other w old is moves place image) =
          let from = image_entry m valid valid_other one w old is moves exported (entry (key.Name label) d) (subst (λ (x : World). Contains (entries_of exported x) (entry (key.Name label) d)) (sym image) stands) in
          let at_key = label_key m w from.0.0 label (ap (λ (e : Entry). e.0) from.2) in
          under_other w old from.0.1 is moves place (subst (λ (k : WorldKey). Contains (entries_of exported old) (entry k from.0.1)) at_key from.1)
          (λ i' held_is. image_held (merge_maps m) w from.0.1 i' (ap (λ (e : Entry). item_interface e.1) from.2 ∙ (same ∙ held_is)))

  -- ---- interfaces without names

  unnamed_in_graph : (l : Label) (i : ℕ) (old : Interface) → slice_get m.graph.interfaces i ≡ Some old → IsUnnamedAt (merged m) l i → IsUnnamedAt m.graph l i
  unnamed_in_graph l i old at is = by (stands_from is.w l.exported l.label is.held is.stands)
    where
      by : LabelFrom is.w l.exported l.label is.held → IsUnnamedAt m.graph l i
      by (under_graph world d there has same) = record {
        w = is.w;
        of = world_back m.graph (merged m) staying mine valid l.home l.world is.w world there is.of;
        held = d;
        stands = some_at (λ (x : World). Contains (entries_of l.exported x) (entry (key.Name l.label) d)) m.graph.worlds is.w world there has;
        is = sym same ∙ is.is;
        unnamed = unnamed_back m.graph (merged m) staying mine valid i old at is.unnamed;
      }
      by (under_other w world d there moves place has goes) =
          let from = goes i is.is in
          let here = held_there m.other valid_other w world l.exported l.label d from.0 there has from.1 in
          let unnamed = unnamed_back m.other (merged m) (going_to m) theirs valid_other from.0 here.0 here.1 (subst (λ (x : ℕ). is_unnamed (merged m).interfaces x ≡ true) from.2 is.unnamed) in
          let next = moved_interface_remapped m from.0 (unmatched m valid valid_other one w world there moves l.exported (entry (key.Name l.label) d) from.0 has from.1 unnamed) in
          let within = slice_get_within m.graph.interfaces i old at in
          let goes_there = from.2 in
          absurd (omega (arith, within, next, goes_there))

  unnamed_in_other : (l : Label) (i : ℕ) (old : Interface) → slice_get m.other.interfaces i ≡ Some old → IsUnnamedAt (merged m) l (merged_interface m i) → IsUnnamedAt m.other l i
  unnamed_in_other l i old at is = by (stands_from is.w l.exported l.label is.held is.stands)
    where
      unnamed : is_unnamed m.other.interfaces i ≡ true
      unnamed = unnamed_back m.other (merged m) (going_to m) theirs valid_other i old at is.unnamed

      -- it stands in a world of the graph, so it is matched
      matched : (i' : ℕ) → counterpart_interface m i ≡ Some i' → (world : World) (d : WorldItem) → slice_get m.graph.worlds is.w ≡ Some world → Contains (entries_of l.exported world) (entry (key.Name l.label) d) → item_interface d ≡ i' ∷ []
          → IsUnnamedAt m.other l i
      matched i' found world d there has held =
          let world_label = spot_of m valid valid_other i i' unnamed found in
          let stands = stands_at m.other.worlds i world_label.world_label (Contains-from_lookup (λ a b. eqb-true a b) i world_label.world_label (world_labels m.other.worlds) world_label.world_label_is) in
          let place = place_of (entries_of l.exported world) (entry (key.Name l.label) d) has in
          let same = world_label_key m.graph valid i' world_label.w' is.w world_label.world_label.exported l.exported place.0 world_label.there world_label.world_label.label world_label.held world_label.unnamed world_label.there_is
          (Contains-from_lookup same_key-true (key.Name world_label.world_label.label) world_label.held (entries_of world_label.world_label.exported world_label.there) world_label.listed) world_label.is
          (record { world = world; there = there; entry = entry (key.Name l.label) d; at = place.1; held = held }) in
          let w = world_label.world_label.world in
          let goes : is.w ≡ merged_world m w = sym (goes_to (counterpart_world m w) _ world_label.w' world_label.matched ∙ same.0) in
          let label : world_label.world_label.label ≡ l.label = same_label world_label.world_label.label l.label same.1 in
          record {
            w = w;
            of = world_back m.other (merged m) (going_to m) theirs valid_other l.home l.world w stands.world stands.there (subst (IsWorld (merged m) l.home l.world) goes is.of);
            held = stands.held;
            stands = some_at (λ (x : World). Contains (entries_of l.exported x) (entry (key.Name l.label) stands.held)) m.other.worlds w stands.world stands.there
                (subst (λ (b : Bool). Contains (entries_of b stands.world) (entry (key.Name l.label) stands.held)) same.2
                (subst (λ (x : List ℕ). Contains (entries_of world_label.world_label.exported stands.world) (entry (key.Name x) stands.held)) label stands.listed));
            is = stands.is;
            unnamed = unnamed;
          }

      by : LabelFrom is.w l.exported l.label is.held → IsUnnamedAt m.other l i
      by (under_other w world d there moves place has goes) =
          let from = goes (merged_interface m i) is.is in
          let same : from.0 ≡ i = interfaces_apart m valid valid_other from.0 i (sym from.2) in
          record {
            w = w;
            of = world_back m.other (merged m) (going_to m) theirs valid_other l.home l.world w world there (subst (IsWorld (merged m) l.home l.world) place is.of);
            held = d;
            stands = some_at (λ (x : World). Contains (entries_of l.exported x) (entry (key.Name l.label) d)) m.other.worlds w world there has;
            is = from.1 ∙ ap (λ (x : ℕ). x ∷ []) same;
            unnamed = unnamed;
          }
      by (under_graph world d there has same) =
          let held : item_interface d ≡ merged_interface m i ∷ [] = sym same ∙ is.is in
          let here = held_there m.graph valid is.w world l.exported l.label d (merged_interface m i) there has held in
          let within = slice_get_within m.graph.interfaces (merged_interface m i) here.0 here.1 in
          elim (cases_Bool (moves_interface m i)) [
            | inl moves ↦ let next = moved_interface_remapped m i moves in absurd (omega (arith, within, next))
            | inr stays ↦
                let some = matched_some (counterpart_interface m i) stays in
                matched some.0 some.1 world d there has (held ∙ ap (λ (x : ℕ). x ∷ []) (goes_to (counterpart_interface m i) _ some.0 some.1))
          ]

  -- ---- interfaces

  named_in_graph : (name : InterfaceName) (i : ℕ) (old : Interface) → slice_get m.graph.interfaces i ≡ Some old → IsNamedSo (merged m) name i → IsNamedSo m.graph name i
  named_in_graph (in_package home name) i old at is = interface_back m.graph (merged m) staying mine valid home name i old at is
  named_in_graph (at_label l) i old at is = unnamed_in_graph l i old at is

  named_in_other : (name : InterfaceName) (i : ℕ) (old : Interface) → slice_get m.other.interfaces i ≡ Some old → IsNamedSo (merged m) name (merged_interface m i) → IsNamedSo m.other name i
  named_in_other (in_package home name) i old at is = interface_back m.other (merged m) (going_to m) theirs valid_other home name i old at is
  named_in_other (at_label l) i old at is = unnamed_in_other l i old at is

  named_there : (name : InterfaceName) (i' : ℕ) → IsNamedSo (merged m) name i' → (interface : Interface) × (slice_get (merged m).interfaces i' ≡ Some interface)
  named_there (in_package home name) i' is = let found = found_at (λ (interface : Interface). (interface.name ≡ Some name) × (interface.package ≡ Some is.p)) (merged m).interfaces i' is.is in (found.0, found.1)
  named_there (at_label l) i' is = let found = no_name (merged m).interfaces i' is.unnamed in (found.0, found.1)

  -- ---- names

  abbrev FromEither : Name → Type 0
  FromEither name = HasName m.graph name ⊎ HasName m.other name

  package_comes : (home : PackageName) (p' : ℕ) → IsPackage (merged m) home p' → FromEither (of_package home)
  package_comes home p' is =
      let new = found_at (λ (there : Package). there.name ≡ home) (merged m).packages p' is in
      by new.0 (package_at_from m p' new.0 new.1)
    where
      by : (new : Package) → packages.PackageFrom m p' new → FromEither (of_package home)
      by new (packages.of_graph old at same) = inl (p', package_back m.graph (merged m) staying mine valid home p' old at is)
      by new (packages.of_other p old at moves place same) = inr (p, package_back m.other (merged m) (going_to m) theirs valid_other home p old at (subst (IsPackage (merged m) home) place is))

  interface_comes : (name : InterfaceName) (i' : ℕ) → IsNamedSo (merged m) name i' → FromEither (of_interface name)
  interface_comes name i' is = let new = named_there name i' is in by new.0 (interface_at_from m i' new.0 new.1)
    where
      by : (new : Interface) → interfaces.InterfaceFrom m i' new → FromEither (of_interface name)
      by new (interfaces.of_graph old at same) = inl (i', named_in_graph name i' old at is)
      by new (interfaces.of_other i old at moves place same) = inr (i, named_in_other name i old at (subst (IsNamedSo (merged m) name) place is))

  world_comes : (home : PackageName) (name : List ℕ) (w' : ℕ) → IsWorld (merged m) home name w' → FromEither (of_world home name)
  world_comes home name w' is =
      let new = found_at (λ (world : World). (world.name ≡ name) × (world.package ≡ Some is.p)) (merged m).worlds w' is.is in
      let listed = from_map (elaborated_world g) g.worlds w' new.0 new.1 in
      by listed.0 (world_at_from m w' listed.0 listed.1)
    where
      by : (listed : World) → worlds.WorldFrom m w' listed → FromEither (of_world home name)
      by listed (worlds.of_graph old at same) = inl (w', world_back m.graph (merged m) staying mine valid home name w' old at is)
      by listed (worlds.of_other w old at moves place same) = inr (w, world_back m.other (merged m) (going_to m) theirs valid_other home name w old at (subst (IsWorld (merged m) home name) place is))

  abbrev at : ℕ → Source
  at = merge_sources m.graph m.other (merge_maps m)

  type_comes : (owner : InterfaceName) (name : List ℕ) (i' : ℕ) → IsNamedSo (merged m) owner i' → (k : ℕ) (from : InterfaceAt (at k) i') (t : ℕ) → Contains from.old.types (name, t) → FromEither (of_type owner name)
  type_comes owner name i' is zero from t listed =
      let there = interface_from m.graph valid identity from.f from.old from.there in
      inl (from.f, t, named_in_graph owner from.f from.old there (subst (IsNamedSo (merged m) owner) from.place is), some_at (λ (interface : Interface). Contains interface.types (name, t)) m.graph.interfaces from.f from.old there listed)
  type_comes owner name i' is (suc k) from t listed =
      let there = interface_from m.other valid_other (merge_maps m) from.f from.old from.there in
      inr (from.f, t, named_in_other owner from.f from.old there (subst (IsNamedSo (merged m) owner) from.place is), some_at (λ (interface : Interface). Contains interface.types (name, t)) m.other.interfaces from.f from.old there listed)

  function_comes : (owner : InterfaceName) (name : List ℕ) (i' : ℕ) → IsNamedSo (merged m) owner i' → (k : ℕ) (from : InterfaceAt (at k) i') (f : Function) → Contains from.old.functions (name, f) → FromEither (of_function owner name)
  function_comes owner name i' is zero from f listed =
      let there = interface_from m.graph valid identity from.f from.old from.there in
      inl (from.f, f, named_in_graph owner from.f from.old there (subst (IsNamedSo (merged m) owner) from.place is), some_at (λ (interface : Interface). Contains interface.functions (name, f)) m.graph.interfaces from.f from.old there listed)
  function_comes owner name i' is (suc k) from f listed =
      let there = interface_from m.other valid_other (merge_maps m) from.f from.old from.there in
      inr (from.f, f, named_in_other owner from.f from.old there (subst (IsNamedSo (merged m) owner) from.place is), some_at (λ (interface : Interface). Contains interface.functions (name, f)) m.other.interfaces from.f from.old there listed)

  label_comes : (l : Label) (w' : ℕ) (held : WorldItem) → IsWorld (merged m) l.home l.world w' → LabelFrom w' l.exported l.label held → FromEither (of_label l)
  label_comes l w' held is (under_graph old d there has same) =
      inl (w', d, world_back m.graph (merged m) staying mine valid l.home l.world w' old there is, some_at (λ (x : World). Contains (entries_of l.exported x) (entry (key.Name l.label) d)) m.graph.worlds w' old there has)
  label_comes l w' held is (under_other w old d there moves place has goes) =
      inr (
        w,
        d,
        world_back m.other (merged m) (going_to m) theirs valid_other l.home l.world w old there (subst (IsWorld (merged m) l.home l.world) place is),
        some_at (λ (x : World). Contains (entries_of l.exported x) (entry (key.Name l.label) d)) m.other.worlds w old there has,
      )

  export_comes : (home : PackageName) (world : List ℕ) (of : PackageName) (name : List ℕ) (w' i' : ℕ) (listed : World) (d : WorldItem) → IsWorld (merged m) home world w' → IsInterface (merged m) of name i' → Contains listed.exports (entry (key.Interface i') d)
      → worlds.WorldFrom m w' listed → FromEither (of_export home world of name)
  export_comes home world of name w' i' listed d is named stands (worlds.of_graph old at same) =
      let from = (world_keeps_entries m (w', old)).from true (entry (key.Interface i') d) (subst (λ (x : World). Contains x.exports (entry (key.Interface i') d)) (sym same) stands) in
      let has = subst (λ (k : WorldKey). Contains old.exports (entry k from.0.1)) (sym from.2) from.1 in
      let there = exported_there m.graph valid w' old i' from.0.1 at has in
      inl (
        w',
        i',
        from.0.1,
        world_back m.graph (merged m) staying mine valid home world w' old at is,
        interface_back m.graph (merged m) staying mine valid of name i' there.0 there.1 named,
        some_at (λ (x : World). Contains x.exports (entry (key.Interface i') from.0.1)) m.graph.worlds w' old at has,
      )
  export_comes home world of name w' i' listed d is named stands (worlds.of_other w old at moves place same) =
      let from = image_entry m valid valid_other one w old at moves true (entry (key.Interface i') d) (subst (λ (x : World). Contains x.exports (entry (key.Interface i') d)) (sym same) stands) in
      let at_key = interface_key m w from.0.0 i' (ap (λ (e : Entry). e.0) from.2) in
      let has = subst (λ (k : WorldKey). Contains old.exports (entry k from.0.1)) at_key.1 from.1 in
      let there = exported_there m.other valid_other w old at_key.0 from.0.1 at has in
      inr (
        w,
        at_key.0,
        from.0.1,
        world_back m.other (merged m) (going_to m) theirs valid_other home world w old at (subst (IsWorld (merged m) home world) place is),
        interface_back m.other (merged m) (going_to m) theirs valid_other of name at_key.0 there.0 there.1 (subst (IsInterface (merged m) of name) at_key.2 named),
        some_at (λ (x : World). Contains x.exports (entry (key.Interface at_key.0) from.0.1)) m.other.worlds w old at has,
      )

  -- what the merged graph has under a name, one of the two has
  pub names_come : (name : Name) → HasName (merged m) name → HasName m.graph name ⊎ HasName m.other name
  names_come (of_package home) (p', is) = package_comes home p' is
  names_come (of_interface name) (i', is) = interface_comes name i' is
  names_come (of_world home name) (w', is) = world_comes home name w' is
  names_come (of_type owner name) (i', t', is, has) =
      let new = found_at (λ (interface : Interface). Contains interface.types (name, t')) (merged m).interfaces i' has in
      let place = place_of new.0.types (name, t') new.2 in
      let from = (interfaces_come m valid valid_other i' new.0 new.1).types place.0 (name, t') place.1 in
      type_comes owner name i' is from.source from.from from.t from.listed
  names_come (of_function owner name) (i', f', is, has) =
      let new = found_at (λ (interface : Interface). Contains interface.functions (name, f')) (merged m).interfaces i' has in
      let place = place_of new.0.functions (name, f') new.2 in
      let from = (interfaces_come m valid valid_other i' new.0 new.1).functions place.0 (name, f') place.1 in
      function_comes owner name i' is from.source from.from from.old from.listed
  names_come (of_label l) (w', held, is, has) = label_comes l w' held is (stands_from w' l.exported l.label held has)
  names_come (of_export home world of name) (w', i', held, is, named, has) =
      let there = found_at (λ (x : World). Contains x.exports (entry (key.Interface i') held)) (merged m).worlds w' has in
      let listed = from_map (elaborated_world g) g.worlds w' there.0 there.1 in
      let before = export_from laws m valid valid_other one can w' listed.0 listed.1 i' held (subst (λ (x : World). Contains x.exports (entry (key.Interface i') held)) (sym listed.2) there.2) in
      export_comes home world of name w' i' listed.0 before.0 is named before.1 (world_at_from m w' listed.0 listed.1)
