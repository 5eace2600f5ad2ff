-- What a world that both graphs have imports, told by names. Names tell packages, interfaces and worlds of a valid graph
-- apart.
use Rattle.std.specs.Prelude.{◌↔◌}
use Rattle.std.proofs.Common.{◌≡◌, ◌∙◌, ℕ, inl, inr, true, false, List, [], ◌∷◌, nat_eq, IsSome, Some, slice_get, refl, sym, ap, subst, arith, Contains}
use Rattle.std.specs.List.{list_any}
use Rattle.std.proofs.lemmas.Bool.{cases_Bool}
use Rattle.std.proofs.lemmas.List.Elements.{All-contains}
use Rattle.std.proofs.lemmas.Option.{slice_get_within}
use Rattle.wit_digraph.specs.facts.FreshFacts.{contains_from_any}
use Rattle.wit_digraph.specs.facts.MemberFacts.{Contains-flat_map, Contains-here}
use Rattle.wit_values.specs.Table.{HasDistinctKeys}
use Rattle.wit_data.specs.Each.{Each, EachAt, SomeAt}
use Rattle.wit_data.specs.Entries.{Entry, IsImport, item_interface}
use Rattle.wit_data.specs.declared.interface.Interface.{Interface}
use Rattle.wit_names.specs.declared.package_name.PackageName.{PackageName}
use Rattle.wit_data.specs.declared.types.TypeDef.{TypeDef}
use Rattle.wit_data.specs.declared.world.World.{World}
use Rattle.wit_data.specs.declared.world.WorldItem.{WorldItem}
use Rattle.wit_data.specs.declared.world.WorldKey.{WorldKey}
use Rattle.wit_data.specs.declared.world.WorldItem.TheVariants as item
use Rattle.wit_data.specs.declared.world.WorldKey.TheVariants as key
use Rattle.wit_elaboration.specs.Elaboration.{graph_uses}
use Rattle.wit_elaboration.specs.Entries.{keyed_interfaces, role_of}
use Rattle.wit_elaboration.specs.laws.Imports.{roots_of}
use Rattle.wit_elaboration.specs.Valid.{HasPackageNames, IsValid, IsWorldInTable}
use Rattle.wit_graph_data.specs.declared.graph.Graph.{Graph}
use Rattle.wit_graph_data.specs.declared.graph.Package.{Package}
use Rattle.wit_elaboration.specs.AllElaborated.{elaborated_world}
use Rattle.wit_graph_theory.specs.facts.EntryFacts.{key_entry}
use Rattle.wit_graph_theory.specs.facts.LawsOfElaboration.{LawsOfElaboration}
use Rattle.wit_graph_theory.specs.facts.ListFacts.{at_map, found_at, place_of, same_at, some_at}
use Rattle.wit_graph_theory.specs.facts.OptionFacts.{some_same}
use Rattle.wit_merge_spec.specs.Merged.{joined_graph, merged, merged_interface, merged_world}
use Rattle.wit_merge_spec.specs.Matches.{GraphMerge, counterpart_world}
use Rattle.wit_merge_spec.specs.Cause.{HasNoMismatch}
use Rattle.wit_merge_laws.specs.facts.JoinedGood.{MergeCanElaborate, in_order, listed_imports}
use Rattle.wit_merge_laws.specs.facts.ListedStand.{moved_world_remapped, old_world_at}
use Rattle.wit_merge_laws.specs.facts.MatchFacts.{goes_to}
use Rattle.wit_merge_laws.specs.facts.MatchedOnce.{has_some, one_under}
use Rattle.wit_merge_laws.specs.laws.MergingLaws.{SharedWorldsKeepImports}
use Rattle.wit_merge_laws.specs.laws.Names.{HasImport, HasName, IsInterface, IsPackage, IsWorld, of_world}
use Rattle.wit_merge_laws.specs.facts.NamesGo.{MapsInto, interface_back, interface_remapped, world_remapped}
use Rattle.wit_merge_laws.specs.facts.NamesParts.{going_to, graph_part, other_part, staying}
use Rattle.wit_merge_laws.specs.facts.NoCycles.{are_one, can_elaborate}
use Rattle.wit_merge_laws.specs.facts.PackagesStand.{good_names, good_tables}
use Rattle.wit_merge_laws.specs.facts.SharedWorlds.{holds_test, import_from, import_into, keyed_import}
use Rattle.wit_merge_laws.specs.facts.TypesStand.{matched_some}
use Rattle.wit_merge_laws.specs.facts.MergedWorlds.{is_elaborated, named_key}
use Rattle.wit_merge_laws.specs.facts.UsesListed.{key_in, world_keeps_entries}
use Rattle.wit_merge_laws.specs.facts.WorldsStand.{entry}
use Rattle.wit_merge_spec.specs.steps.Parts.{joined_world, moves_world}

-- ---- names tell apart

-- what names of packages and worlds tell apart
record TellApart (g : Graph) : Type 0 where
  names : HasPackageNames g.packages g.package_names
  listed : EachAt (IsWorldInTable g.packages) g.worlds
  distinct : Each (λ (home : Package). HasDistinctKeys home.worlds) g.packages

valid_apart : (g : Graph) → IsValid g → TellApart g
valid_apart g valid = record { names = valid.well_formed.package_names; listed = valid.well_formed.tables.worlds_listed; distinct = valid.well_formed.tables.distinct_worlds }

module _ (g : Graph) (apart : TellApart g) where
  package_unique : (home : PackageName) (p q : ℕ) → IsPackage g home p → IsPackage g home q → p ≡ q
  package_unique home p q first second =
      let a = found_at (λ (there : Package). there.name ≡ home) g.packages p first in
      let b = found_at (λ (there : Package). there.name ≡ home) g.packages q second in
      let names = apart.names in
      one_under g.package_names names.distinct home p q (subst (λ (n : PackageName). Contains g.package_names (n, p)) a.2 (names.listed p a.0 a.1)) (subst (λ (n : PackageName). Contains g.package_names (n, q)) b.2 (names.listed q b.0 b.1))

  in_table : (w : ℕ) (world : World) (p : ℕ) → slice_get g.worlds w ≡ Some world → world.package ≡ Some p → (home : Package) × (slice_get g.packages p ≡ Some home) × Contains home.worlds (world.name, w)
  in_table w world p at of =
      let has = has_some world.package (λ p. SomeAt g.packages p (λ (home : Package). Contains home.worlds (world.name, w))) p of (apart.listed w world at) in
      found_at (λ (home : Package). Contains home.worlds (world.name, w)) g.packages p has

  worlds_unique : (home : PackageName) (name : List ℕ) (w v : ℕ) → IsWorld g home name w → IsWorld g home name v → w ≡ v
  worlds_unique home name w v first second =
      let a = found_at (λ (world : World). (world.name ≡ name) × (world.package ≡ Some first.p)) g.worlds w first.is in
      let b = found_at (λ (world : World). (world.name ≡ name) × (world.package ≡ Some second.p)) g.worlds v second.is in
      let homes = package_unique home first.p second.p first.of second.of in
      let mine = in_table w a.0 second.p a.1 (a.2.1 ∙ ap (λ (p : ℕ). Some p) homes) in
      let other = in_table v b.0 second.p b.1 b.2.1 in
      let same : mine.0 ≡ other.0 = some_same mine.0 other.0 (sym mine.1 ∙ other.1) in
      one_under other.0.worlds (apart.distinct second.p other.0 other.1) name w v
      (subst (λ (n : List ℕ). Contains other.0.worlds (n, w)) a.2.0 (subst (λ (x : Package). Contains x.worlds (a.0.name, w)) same mine.2)) (subst (λ (n : List ℕ). Contains other.0.worlds (n, v)) b.2.0 other.2)

-- no two worlds of a valid graph have one name
pub world_unique : (g : Graph) → IsValid g → (home : PackageName) (name : List ℕ) (w v : ℕ) → IsWorld g home name w → IsWorld g home name v → w ≡ v
world_unique g valid home name w v first second = worlds_unique g (valid_apart g valid) home name w v first second

-- what a world of a valid graph imports is there
imported_there : (h : Graph) → IsValid h → (w : ℕ) (world : World) (i : ℕ) → slice_get h.worlds w ≡ Some world → Contains (keyed_interfaces world.imports) i → (interface : Interface) × (slice_get h.interfaces i ≡ Some interface)
imported_there h valid w world i there has =
    let e = key_entry world.imports i has in
    let place = place_of world.imports e.0 e.1 in
    by e.0.0 e.0.1 e.2 (valid.well_formed.worlds.imports w world there place.0 e.0 place.1)
  where
    by : (k : WorldKey) (held : WorldItem) → k ≡ key.Interface i → IsImport h.interfaces h.types w k held → (interface : Interface) × (slice_get h.interfaces i ≡ Some interface)
    by (key.Name label) held same is = cc
    by (key.Interface f) held same is =
        let one : f ≡ i = cc in
        let found = found_at (λ (interface : Interface). IsSome interface.name) h.interfaces i (named_key h.interfaces (key.Interface f) held i (subst (λ (x : ℕ). Contains (f ∷ []) x) one (Contains-here f [])) is) in
        (found.0, found.1)

-- an import under its own key begins at itself
key_root : (types : List TypeDef) (uses : List (List ℕ)) (held : WorldItem) (i : ℕ) → item_interface held ≡ i ∷ [] → Contains (roots_of uses (key.Interface i) (role_of types held)) i
key_root types uses (item.Interface id stability docs span external_id) i is = subst (λ (ids : List ℕ). Contains ids i) (sym is) (Contains-here i [])
key_root types uses (item.Function fn) i is = cc
key_root types uses (item.Type_ t span) i is = cc

-- what a world imports under the key of an interface, it imports
pub record Imports (g : Graph) (w i : ℕ) : Type 0 where
  pub held : WorldItem
  pub has : SomeAt g.worlds w
      (λ (there : World). Contains there.imports (entry (key.Interface i) held))

pub imports_it : (g : Graph) (w : ℕ) (world : World) (i : ℕ) → slice_get g.worlds w ≡ Some world → Contains (keyed_interfaces world.imports) i → Imports g w i
imports_it g w world i there has =
    let e = key_entry world.imports i has in
    record { held = e.0.1; has = some_at (λ (x : World). Contains x.imports (entry (key.Interface i) e.0.1)) g.worlds w world there (subst (λ (k : WorldKey). Contains world.imports (entry k e.0.1)) e.2 e.1) }

imported_by : (g : Graph) (w : ℕ) (world : World) (i : ℕ) (held : WorldItem) → slice_get g.worlds w ≡ Some world → SomeAt g.worlds w (λ (there : World). Contains there.imports (entry (key.Interface i) held)) → Contains (keyed_interfaces world.imports) i
imported_by g w world i held there has =
    let found = found_at (λ (x : World). Contains x.imports (entry (key.Interface i) held)) g.worlds w has in
    let same = same_at g.worlds w w found.0 world refl found.1 there in
    key_in world.imports i held (subst (λ (x : World). Contains x.imports (entry (key.Interface i) held)) same found.2)

module _ (laws : LawsOfElaboration) (m : GraphMerge) (valid : IsValid m.graph) (valid_other : IsValid m.other) (one : HasNoMismatch m) (elaborates : MergeCanElaborate m) where
  abbrev g : Graph
  g = joined_graph m

  abbrev mine : MapsInto m.graph (merged m) staying
  mine = graph_part laws m valid valid_other one elaborates

  abbrev theirs : MapsInto m.other (merged m) (going_to m)
  theirs = other_part laws m valid valid_other one elaborates

  merged_apart : TellApart (merged m)
  merged_apart =
      let tables = good_tables m valid valid_other in
      record { names = good_names m valid valid_other; listed = tables.worlds; distinct = λ p there at. (tables.packages p there at).distinct_worlds }

  module _ (home of : PackageName) (world name : List ℕ) (w w' : ℕ) (is_mine : IsWorld m.graph home world w') (is_theirs : IsWorld m.other home world w) where
    -- worlds of one name are matched
    pub matched : (into : World) → slice_get m.graph.worlds w' ≡ Some into → counterpart_world m w ≡ Some w'
    matched into into_there =
        let here = world_remapped m.graph (merged m) staying mine home world w' is_mine in
        let there = world_remapped m.other (merged m) (going_to m) theirs home world w is_theirs in
        let same = worlds_unique (merged m) merged_apart home world (merged_world m w) w' there here in
        elim (cases_Bool (moves_world m w)) [
          | inl goes ↦
              let next = moved_world_remapped m w goes in
              let within = slice_get_within m.graph.worlds w' into into_there in
              absurd (omega (arith, next, within, same))
          | inr stays ↦ let some = matched_some (counterpart_world m w) stays in some.1 ∙ ap (λ (x : ℕ). Some x) (sym (goes_to (counterpart_world m w) _ some.0 some.1) ∙ same)
        ]

    module _ (into old : World) (into_there : slice_get m.graph.worlds w' ≡ Some into) (there : slice_get m.other.worlds w ≡ Some old) where
      abbrev found : counterpart_world m w ≡ Some w'
      found = matched into into_there

      abbrev listed : World
      listed = joined_world m (w', into)

      abbrev listed_at : slice_get g.worlds w' ≡ Some listed
      listed_at = old_world_at m w' into into_there

      abbrev done : World
      done = elaborated_world g listed

      done_at : slice_get (merged m).worlds w' ≡ Some done
      done_at = at_map (elaborated_world g) g.worlds w' listed listed_at

      -- an interface of the graph under its name
      in_graph : (i : ℕ) → Contains (keyed_interfaces into.imports) i → IsInterface (merged m) of name i → HasImport m.graph home world of name
      in_graph i has is =
          let by = imports_it m.graph w' into i into_there has in
          let at = imported_there m.graph valid w' into i into_there has in
          (w', i, by.held, is_mine, interface_back m.graph (merged m) staying mine valid of name i at.0 at.1 is, by.has)

      from_other : HasImport m.other home world of name → HasImport m.graph home world of name
      from_other (v, i, held, is_world, is_interface, has) =
          let same = world_unique m.other valid_other home world v w is_world is_theirs in
          let imported = imported_by m.other w old i held there (subst (λ (x : ℕ). SomeAt m.other.worlds x (λ (y : World). Contains y.imports (entry (key.Interface i) held))) same has) in
          in_graph (merged_interface m i) (import_into laws.least m valid valid_other one w w' old into there found into_there i imported) (interface_remapped m.other (merged m) (going_to m) theirs of name i is_interface)

      into_other : HasImport m.graph home world of name → HasImport m.other home world of name
      into_other (v, i, held, is_world, is_interface, has) =
          let same = world_unique m.graph valid home world v w' is_world is_mine in
          let imported = imported_by m.graph w' into i held into_there (subst (λ (x : ℕ). SomeAt m.graph.worlds x (λ (y : World). Contains y.imports (entry (key.Interface i) held))) same has) in
          let from = import_from laws.least m valid valid_other one w w' old into there found into_there i imported in
          let by = imports_it m.other w old from.0 there from.2 in
          let at = imported_there m.other valid_other w old from.0 there from.2 in
          let placed = subst (IsInterface (merged m) of name) from.1 (interface_remapped m.graph (merged m) staying mine of name i is_interface) in
          (w, from.0, by.held, is_theirs, interface_back m.other (merged m) (going_to m) theirs valid_other of name from.0 at.0 at.1 placed, by.has)

      from_merged : HasImport (merged m) home world of name → HasImport m.graph home world of name
      from_merged (v, i, held, is_world, is_interface, has) =
          let same = worlds_unique (merged m) merged_apart home world v w' is_world (world_remapped m.graph (merged m) staying mine home world w' is_mine) in
          let imported = imported_by (merged m) w' done i held done_at (subst (λ (x : ℕ). SomeAt (merged m).worlds x (λ (y : World). Contains y.imports (entry (key.Interface i) held))) same has) in
          let all = (laws.least g.types (graph_uses g) listed done elaborates.acyclic (in_order m valid valid_other one w' listed listed_at) (is_elaborated laws m valid valid_other one elaborates w' listed listed_at)).1
          (λ j. list_any (nat_eq j) (keyed_interfaces into.imports)) (holds_test laws.least m valid valid_other one w w' old into there found into_there) in
          let kept = All-contains (λ j. list_any (nat_eq j) (keyed_interfaces into.imports) ≡ true) (keyed_interfaces done.imports) i all imported in
          in_graph i (contains_from_any i (keyed_interfaces into.imports) kept) is_interface

      into_merged : HasImport m.graph home world of name → HasImport (merged m) home world of name
      into_merged (v, i, held, is_world, is_interface, has) =
          let same = world_unique m.graph valid home world v w' is_world is_mine in
          let imported = imported_by m.graph w' into i held into_there (subst (λ (x : ℕ). SomeAt m.graph.worlds x (λ (y : World). Contains y.imports (entry (key.Interface i) held))) same has) in
          let e = key_entry into.imports i imported in
          let now = (world_keeps_entries m (w', into)).into false (entry (key.Interface i) e.0.1) (subst (λ (k : WorldKey). Contains into.imports (entry k e.0.1)) e.2 e.1) in
          let place = place_of listed.imports (entry (key.Interface i) now.0) now.1 in
          let is = keyed_import g.interfaces g.types w' (key.Interface i) now.0 i refl (listed_imports m valid valid_other one w' listed listed_at place.0 (entry (key.Interface i) now.0) place.1) in
          let root = Contains-flat_map (λ (e : Entry). roots_of (graph_uses g) e.0 (role_of g.types e.1)) listed.imports (entry (key.Interface i) now.0) i now.1 (key_root g.types (graph_uses g) now.0 i is) in
          let holds = (laws.least g.types (graph_uses g) listed done elaborates.acyclic (in_order m valid valid_other one w' listed listed_at) (is_elaborated laws m valid valid_other one elaborates w' listed listed_at)).0 in
          let by = imports_it (merged m) w' done i done_at (holds.roots i root) in
          (w', i, by.held, world_remapped m.graph (merged m) staying mine home world w' is_mine, interface_remapped m.graph (merged m) staying mine of name i is_interface, by.has)

-- so where the two agree and can be elaborated as one
abbrev pub KeepSharedImports : GraphMerge → Type 0
KeepSharedImports m =
    (home of : PackageName) (world name : List ℕ) → HasName m.graph (of_world home world)
    → HasName m.other (of_world home world)
    → (HasImport (merged m) home world of name ↔ HasImport m.graph home world of name)
    × (HasImport m.other home world of name ↔ HasImport m.graph home world of name)

pub imports_of_both : LawsOfElaboration → (m : GraphMerge) → IsValid m.graph → IsValid m.other → HasNoMismatch m → MergeCanElaborate m → KeepSharedImports m
imports_of_both laws m valid valid_other one can home of world name (w', is_mine) (w, is_theirs) =
    let into = found_at (λ (x : World). (x.name ≡ world) × (x.package ≡ Some is_mine.p)) m.graph.worlds w' is_mine.is in
    let old = found_at (λ (x : World). (x.name ≡ world) × (x.package ≡ Some is_theirs.p)) m.other.worlds w is_theirs.is in (
      (
        from_merged laws m valid valid_other one can home of world name w w' is_mine is_theirs into.0 old.0 into.1 old.1,
        into_merged laws m valid valid_other one can home of world name w w' is_mine is_theirs into.0 old.0 into.1 old.1,
      ),
      (
        from_other laws m valid valid_other one can home of world name w w' is_mine is_theirs into.0 old.0 into.1 old.1,
        into_other laws m valid valid_other one can home of world name w w' is_mine is_theirs into.0 old.0 into.1 old.1,
      ),
    )

pub shared_imports : LawsOfElaboration → SharedWorldsKeepImports
shared_imports laws m home of world name valid valid_other can mine theirs =
    imports_of_both laws m valid valid_other (are_one m can) (can_elaborate m valid valid_other can laws.refused) home of world name mine theirs
