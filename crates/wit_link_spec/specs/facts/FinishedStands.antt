-- A partially linked graph of which one world is finished is partially linked.
use Rattle.std.proofs.Common.{◌≡◌, ◌∙◌, ◌⊎◌, inl, inr, ℕ, Bool, true, false, List, [], ◌∷◌, None, Some, slice_get, refl, sym, ap, subst, Contains, nat_eq}
use Rattle.std.proofs.lemmas.Bool.{cases_Bool, eq-eqb, eqb-true, false≢true}
use Rattle.wit_values.specs.Table.{HasDistinctKeys}
use Rattle.wit_digraph.specs.facts.MemberFacts.{Contains-flat_map, Contains-flat_map_cases, Contains-here}
use Rattle.wit_data.specs.Each.{SomeAt}
use Rattle.wit_data.specs.Entries.{Entry, is_unnamed, item_interface, entries_of}
use Rattle.wit_data.specs.Ownership.{IsNamed, entry_type, world_types}
use Rattle.wit_data.specs.Uses.{uses_of}
use Rattle.wit_data.specs.declared.interface.Interface.{Interface}
use Rattle.wit_data.specs.declared.types.TypeDef.{TypeDef}
use Rattle.wit_data.specs.declared.world.World.{World}
use Rattle.wit_data.specs.declared.world.WorldKey.{WorldKey}
use Rattle.wit_data.specs.declared.world.WorldItem.TheVariants as item
use Rattle.wit_data.specs.declared.world.WorldKey.TheVariants as key
use Rattle.wit_elaboration.specs.facts.Classes.{in_by_class}
use Rattle.wit_elaboration.specs.facts.Filters.{Contains-filter, Contains-filtered}
use Rattle.wit_elaboration.specs.Elaborated.{Elaborated}
use Rattle.wit_elaboration.specs.Entries.{by_class}
use Rattle.wit_elaboration.specs.laws.KeptByElaboration.{is_label, labelled, listed_without_span}
use Rattle.wit_graph_data.specs.declared.graph.Graph.{Graph}
use Rattle.wit_graph_theory.specs.facts.Covered.{IsCovered, WorldComes}
use Rattle.wit_graph_theory.specs.facts.CoveredIsValid.{covered_items}
use Rattle.wit_graph_theory.specs.Cut.{StaysIn, graph_source, kept_whole}
use Rattle.wit_graph_theory.specs.facts.ElaboratedCome.{elaborated_comes, interface_without_span}
use Rattle.wit_graph_theory.specs.facts.GoodWorlds.{same_one}
use Rattle.wit_graph_theory.specs.facts.GraphSource.{graph_stands, items_are_good}
use Rattle.wit_remap_spec.specs.Image.{key_image}
use Rattle.wit_remap_spec.specs.steps.Kept.{everything}
use Rattle.wit_graph_theory.specs.facts.LawsOfElaboration.{LawsOfElaboration}
use Rattle.wit_graph_theory.specs.facts.ListFacts.{Contains-map, contained_at, place_of, same_at, some_at}
use Rattle.wit_graph_theory.specs.steps.UnnamedOnce.{Holds, Origin, StandsOnceOnly, StayApart}
use Rattle.wit_graph_theory.specs.facts.UnnamedOnceCarried.{StandsOnceOnly-of_covered, named_not}
use Rattle.wit_graph_theory.specs.facts.UnnamedOnceFrom.{cut_has_one_place}
use Rattle.wit_graph_theory.specs.steps.Sources.{Carries, IsGoodSource, Source}
use Rattle.wit_labels.specs.Setters.{setters_placed}
use Rattle.wit_link_spec.specs.facts.ListedTypes.{lists_type}
use Rattle.wit_link_spec.specs.facts.PartiallyLinked.{IsSoundSoFar}
use Rattle.wit_labels.specs.facts.PlacedFacts.{placed_in, placed_into}
use Rattle.wit_link_spec.specs.facts.PlacedWorlds.{exported_named, exports_distinct, imports_distinct, placed_in_order, used_named}
use Rattle.wit_link_spec.specs.facts.Remains.{beside, export_remains, import_remains, interface_remains, type_remains, world_remains}
use Rattle.wit_remap_spec.specs.steps.Parts.{identity}
use Rattle.wit_link_spec.specs.steps.Parts.{with_setters_placed}

-- world `host` at place `into` becomes `done`, its elaboration, and all else stays
module _ (laws : LawsOfElaboration) (g : Graph) (stands : IsSoundSoFar g) (into : ℕ) (host : World) (host_at : slice_get g.worlds into ≡ Some host) (done : World)
    (elaborated : Elaborated g.types (uses_of g.types g.interfaces) (with_setters_placed host) done)
    (worlds : List World) (done_at : slice_get worlds into ≡ Some done) (others : (w : ℕ) → (w ≡ into → ⊥) → slice_get worlds w ≡ slice_get g.worlds w) where
  abbrev new : Graph
  new = record g { worlds = worlds }

  abbrev uses : List (List ℕ)
  uses = uses_of g.types g.interfaces

  abbrev sources : Bool → Source
  sources = beside g (graph_source g)

  world_from : (w : ℕ) (world : World) → slice_get worlds w ≡ Some world → ((w ≡ into) × (world ≡ done)) ⊎ (slice_get g.worlds w ≡ Some world)
  world_from w world at = elim (cases_Bool (nat_eq w into)) [
    | inl same ↦ let place = eqb-true w into same in inl (place, same_at worlds w into world done place at done_at)
    | inr other ↦ inr (sym (others w (λ same. absurd (false≢true (sym other ∙ eq-eqb w into same)))) ∙ at)
  ]

  -- ---- it comes of itself

  listed_comes : WorldComes sources new into (with_setters_placed host)
  listed_comes = record {
    imports = λ i e on. let place = place_of host.imports e (placed_in host.imports e (contained_at (setters_placed host.imports) i e on)) in inl (import_remains g stands.items (graph_source g) into host place.0 e host_at place.1);
    exports = λ i e on. let place = place_of host.exports e (placed_in host.exports e (contained_at (setters_placed host.exports) i e on)) in inl (export_remains g stands.items (graph_source g) into host place.0 e host_at place.1);
    distinct_imports = imports_distinct g stands into host host_at;
    distinct_exports = exports_distinct g stands into host host_at;
    no_includes = (stands.items.worlds into host host_at).no_includes;
  }

  done_comes : WorldComes sources new into done
  done_comes =
      elaborated_comes sources new into (with_setters_placed host) done laws.entries laws.distinct stands.uses (placed_in_order g stands into host host_at) (used_named g stands into host host_at) (exported_named g stands into host host_at)
      listed_comes elaborated (ap (λ (x : World). x.includes) elaborated.world_is ∙ (stands.items.worlds into host host_at).no_includes)

  finished_covered : IsCovered everything sources new
  finished_covered = record {
    types = λ t def at takes. inl (type_remains g stands.items (graph_source g) new t def at);
    interfaces = λ f one at takes. interface_remains g stands.items (graph_source g) f one at;
    worlds = λ w world at takes. elim (world_from w world at) [
      | inl is ↦ subst (λ (v : ℕ). WorldComes sources new v world) (sym is.0) (subst (WorldComes sources new into) (sym is.1) done_comes)
      | inr old ↦ world_remains g stands.items (graph_source g) new w world old
    ];
  }

  -- ---- it still lists its types

  types_listed : (e : List ℕ × ℕ) → Contains (world_types host) e → Contains (world_types done) e
  types_listed e has =
      let d = Contains-flat_map_cases (λ (d : Entry). entry_type d.0 d.1) host.imports e has in
      let lists = lists_type d.0 e.0 e.1 d.1.1 in
      let type_entry : Entry = (key.Name e.0, item.Type_ e.1 lists.span) in
      let is : d.0 ≡ type_entry = λ i. (lists.key_is i, lists.held_is i) in
      let listed : Contains (setters_placed host.imports) type_entry = placed_into host.imports type_entry (subst (Contains host.imports) is d.1.0) in
      let sorted = in_by_class g.types (setters_placed host.imports) type_entry listed in
      let under : Contains (labelled (by_class g.types (setters_placed host.imports))) type_entry = Contains-filtered (λ (x : Entry). is_label x.0) (by_class g.types (setters_placed host.imports)) type_entry sorted refl in
      let stays = laws.labels g.types uses (with_setters_placed host) done stands.uses (placed_in_order g stands into host host_at) (imports_distinct g stands into host host_at) elaborated in
      let among : Contains (labelled done.imports) (listed_without_span type_entry) =
      subst (λ (es : List Entry). Contains es (listed_without_span type_entry)) (sym stays) (Contains-map listed_without_span (labelled (by_class g.types (setters_placed host.imports))) type_entry under) in
      let import : Contains done.imports type_entry = (Contains-filter (λ (x : Entry). is_label x.0) done.imports (listed_without_span type_entry) among).0 in
      Contains-flat_map (λ (x : Entry). entry_type x.0 x.1) done.imports type_entry e import (Contains-here e [])

  abbrev Stays : World → World → Type 0
  Stays world there =
      (there.package ≡ world.package)
      × ((e : List ℕ × ℕ) → Contains (world_types world) e → Contains (world_types there) e)

  world_stays : (w : ℕ) (world : World) → slice_get g.worlds w ≡ Some world → SomeAt worlds w (λ (there : World). (there.package ≡ world.package) × ((e : List ℕ × ℕ) → Contains (world_types world) e → Contains (world_types there) e))
  world_stays w world at = elim (cases_Bool (nat_eq w into)) [
    | inl same ↦
        let place = eqb-true w into same in
        let is : world ≡ host = same_at g.worlds w into world host place at host_at in
        subst (λ (x : World). SomeAt worlds w (Stays x)) (sym is)
        (subst (λ (v : ℕ). SomeAt worlds v (Stays host)) (sym place) (some_at (Stays host) worlds into done done_at (ap (λ (x : World). x.package) elaborated.world_is, types_listed)))
    | inr other ↦ some_at (Stays world) worlds w world (others w (λ same. absurd (false≢true (sym other ∙ eq-eqb w into same))) ∙ at) (refl, λ e has. has)
  ]

  graph_stays : StaysIn g new
  graph_stays = record {
    types = λ t def at. some_at (λ (there : TypeDef). (there.name ≡ def.name) × (there.owner ≡ def.owner) × ((def.name ≡ None) → there.kind ≡ def.kind)) g.types t def at (refl, refl, λ none. refl);
    interfaces = λ f interface at.
        some_at (λ (there : Interface). (there.name ≡ interface.name) × (there.package ≡ interface.package) × ((e : List ℕ × ℕ) → Contains interface.types e → Contains there.types e)) g.interfaces f interface at (refl, refl, λ e has. has);
    worlds = world_stays;
  }

  carries : (b : Bool) → Carries (sources b) new
  carries false = graph_stands g new graph_stays
  carries true = graph_stands g new graph_stays

  good : (b : Bool) → IsGoodSource (sources b)
  good false = items_are_good g stands.items stands.references identity
  good true = items_are_good g stands.items stands.references identity

  -- ---- interfaces without names

  distinct : (w : ℕ) (b : Bool) (world : World) → slice_get g.worlds w ≡ Some world → HasDistinctKeys (entries_of b world)
  distinct w false world at = (stands.items.worlds w world at).distinct_imports
  distinct w true world at = (stands.items.worlds w world at).distinct_exports

  one_in : (b : Bool) → StandsOnceOnly (sources b).graph.interfaces (sources b).graph.worlds
  one_in false = cut_has_one_place (kept_whole g) g.interfaces g.worlds stands.once distinct
  one_in true = cut_has_one_place (kept_whole g) g.interfaces g.worlds stands.once distinct

  injective : (b : Bool) (f e : ℕ) → (sources b).maps.interfaces f ≡ (sources b).maps.interfaces e → f ≡ e
  injective false f e same = same
  injective true f e same = same

  -- places of the graph are of one world and one key
  same_place : (f' w' v' : ℕ) (c d : WorldKey) → Origin (graph_source g) f' w' c → Origin (graph_source g) f' v' d → (w' ≡ v') × (c ≡ d)
  same_place f' w' v' c d x y =
      let s = graph_source g in
      let same : x.f ≡ y.f = sym x.place ∙ y.place in
      let places = one_in false x.f x.w y.w x.b y.b x.i y.i x.unnamed x.holds (subst (λ (f : ℕ). Holds s.graph.worlds y.w y.b y.i f) (sym same) y.holds) in
      let here = same_at s.graph.worlds x.w y.w x.holds.world y.holds.world places.0 x.holds.there y.holds.there in
      let lists : entries_of x.b x.holds.world ≡ entries_of y.b y.holds.world = λ i. entries_of (places.1 i) (here i) in
      let entries = same_at (entries_of y.b y.holds.world) x.i y.i x.holds.entry y.holds.entry places.2 (subst (λ (es : List Entry). slice_get es x.i ≡ Some x.holds.entry) lists x.holds.at) y.holds.at in
      (x.world_place ∙ ap s.maps.worlds places.0 ∙ sym y.world_place, x.key ∙ (λ i. key_image s.maps (places.0 i) (entries i).0) ∙ sym y.key)

  meet : (f' w' v' : ℕ) (c d : WorldKey) (k l : Bool) → is_unnamed g.interfaces f' ≡ true → Origin (sources k) f' w' c → Origin (sources l) f' v' d → (k ≡ l) ⊎ ((w' ≡ v') × (c ≡ d))
  meet f' w' v' c d false false unnamed x y = inl refl
  meet f' w' v' c d true true unnamed x y = inl refl
  meet f' w' v' c d false true unnamed x y = inr (same_place f' w' v' c d x y)
  meet f' w' v' c d true false unnamed x y = inr (same_place f' w' v' c d x y)

  -- where an entry of the finished world that is such an interface stood
  record Stood (b : Bool) (f' : ℕ) : Type 0 where
    k : ℕ
    holds : Holds g.worlds into b k f'

  stood_in : (b : Bool) (f' : ℕ) (e : Entry) → Contains (entries_of b host) e → item_interface e.1 ≡ f' ∷ [] → Stood b f'
  stood_in b f' e has held = let place = place_of (entries_of b host) e has in record { k = place.0; holds = record { world = host; there = host_at; entry = e; at = place.1; held = held } }

  added_named : (j f' : ℕ) → j ∷ [] ≡ f' ∷ [] → IsNamed g.interfaces j → is_unnamed g.interfaces f' ≡ true → ⊥
  added_named j f' same named unnamed = named_not g.interfaces j named (ap (is_unnamed g.interfaces) (same_one j f' same) ∙ unnamed)

  stood : (b : Bool) (f' : ℕ) (e : Entry) → is_unnamed g.interfaces f' ≡ true → Contains (entries_of b done) e → item_interface e.1 ≡ f' ∷ [] → Stood b f'
  stood false f' e unnamed has held =
      elim ((laws.entries g.types uses (with_setters_placed host) done e stands.uses (placed_in_order g stands into host host_at) elaborated).0 has) [
        | inl stays ↦ stood_in false f' stays.0 (placed_in host.imports stays.0 stays.1) (sym (interface_without_span stays.0.1) ∙ ap (λ (d : Entry). item_interface d.1) (sym stays.2) ∙ held)
        | inr made ↦ absurd (added_named made.1 f' (ap (λ (d : Entry). item_interface d.1) (sym made.2) ∙ held) (used_named g stands into host host_at made.1 made.3) unnamed)
      ]
  stood true f' e unnamed has held =
      elim ((laws.entries g.types uses (with_setters_placed host) done e stands.uses (placed_in_order g stands into host host_at) elaborated).1 has) [
        | inl stays ↦ stood_in true f' e (placed_in host.exports e stays) held
        | inr made ↦ absurd (added_named made.1 f' (ap (λ (d : Entry). item_interface d.1) (sym made.2) ∙ held) (exported_named g stands into host host_at made.1 made.3) unnamed)
      ]

  both_sides : (f w k l : ℕ) → is_unnamed g.interfaces f ≡ true → Holds g.worlds w false k f → Holds g.worlds w true l f → ⊥
  both_sides f w k l unnamed first second = let places = stands.once f w w false true k l unnamed first second in let never = places.1 in cc

  one_side : (w' i' j' f' : ℕ) → is_unnamed g.interfaces f' ≡ true → Holds worlds w' false i' f' → Holds worlds w' true j' f' → ⊥
  one_side w' i' j' f' unnamed x y =
      let same = same_at worlds w' w' y.world x.world refl y.there x.there in
      let at : slice_get x.world.exports j' ≡ Some y.entry = subst (λ (world : World). slice_get world.exports j' ≡ Some y.entry) same y.at in
      elim (world_from w' x.world x.there) [
        | inl is ↦
            let a = stood false f' x.entry unnamed (subst (λ (world : World). Contains world.imports x.entry) is.1 (contained_at x.world.imports i' x.entry x.at)) x.held in
            let b = stood true f' y.entry unnamed (subst (λ (world : World). Contains world.exports y.entry) is.1 (contained_at x.world.exports j' y.entry at)) y.held in
            both_sides f' into a.k b.k unnamed a.holds b.holds
        | inr old ↦
            both_sides f' w' i' j' unnamed (record { world = x.world; there = old; entry = x.entry; at = x.at; held = x.held }) (record { world = x.world; there = old; entry = y.entry; at = at; held = y.held })
      ]

  stay_apart : StayApart sources new
  stay_apart = record { injective = λ b f e takes other same unnamed. injective b f e same; meet = meet; one_side = one_side }

  -- the graph is partially linked, one world further
  pub finished_stands : IsSoundSoFar new
  finished_stands = record {
    items = covered_items sources new good carries finished_covered;
    references = stands.references;
    uses = stands.uses;
    once = StandsOnceOnly-of_covered sources new good carries finished_covered stay_apart one_in;
  }
