-- What a transformed world names, the old one named: so packages depend on no more than they did.
use Rattle.std.proofs.Common.{◌≡◌, ◌∙◌, inl, inr, ℕ, ◌<◌, List, [], ◌∷◌, ◌++◌, Some, get_or, length, slice_get, sym, ap, subst, Contains}
use Rattle.std.proofs.lemmas.List.Elements.{All-contains, Contains-append_cases, Contains-get_or}
use Rattle.wit_digraph.specs.facts.MemberFacts.{Contains-flat_map_cases, Contains-here}
use Rattle.wit_digraph.specs.Relation.{IsAcyclic, IsPath, direct}
use Rattle.wit_data.specs.Entries.{ExportsAreAllowed, ImportsAreAllowed, IsExport}
use Rattle.wit_data.specs.Uses.{uses_of}
use Rattle.wit_data.specs.declared.world.World.{World}
use Rattle.wit_data.specs.declared.world.WorldItem.{WorldItem}
use Rattle.wit_data.specs.declared.world.WorldKey.{WorldKey}
use Rattle.wit_data.specs.declared.world.WorldItem.TheVariants as item
use Rattle.wit_data.specs.declared.world.WorldKey.TheVariants as key
use Rattle.wit_elaboration.specs.Elaboration.{graph_uses}
use Rattle.wit_elaboration.specs.Entries.{Entry, keyed_interfaces, item_interface, role_of}
use Rattle.wit_elaboration.specs.Imported.{HasTransitiveConflict}
use Rattle.wit_elaboration.specs.laws.Imports.{IsImported, Needed, roots_of}
use Rattle.wit_graph_data.specs.Queries.{entry_interface, world_interfaces, entry_interfaces}
use Rattle.wit_elaboration.specs.Valid.{IsValid}
use Rattle.wit_graph_data.specs.declared.graph.Graph.{Graph}
use Rattle.wit_graph_theory.specs.facts.DependencyFacts.{filter_map_from}
use Rattle.wit_graph_theory.specs.facts.EntryFacts.{export_named, export_uses, import_interface, import_named, import_uses as canonical_import_uses, instance_interface, interface_without_span, key_entry, key_named, root_interface}
use Rattle.wit_graph_theory.specs.facts.ListFacts.{place_of}
use Rattle.wit_graph_theory.specs.laws.PackageCycles.{ListsKey}
use Rattle.wit_graph_theory.specs.facts.LawsOfElaboration.{LawsOfElaboration}
use Rattle.wit_transform.specs.facts.ListsFrom.{ComesFrom}
use Rattle.wit_transform.specs.facts.TransformedWorlds.{done, in_order, is_elaborated, listed, old_entry}
use Rattle.wit_transform.specs.Transformed.{WorldLists}

-- rows that lack some uses of acyclic ones
pub fewer_acyclic : (old rows : List (List ℕ)) → length rows ≡ length old → ((i j : ℕ) → Contains (direct rows i) j → Contains (direct old i) j) → IsAcyclic old → IsAcyclic rows
fewer_acyclic old rows same fewer acyclic = record {
  in_range = λ i k d inside.
      subst (λ (n : ℕ). get_or (direct rows i) k d < n) (sym same)
      (All-contains (λ x. x < length old) (direct old i) (get_or (direct rows i) k d) (acyclic.in_range i) (fewer i (get_or (direct rows i) k d) (Contains-get_or (direct rows i) k d inside)));
  no_cycle = λ i k path leads. acyclic.no_cycle i k path (fewer i k leads.0, old_path k path i leads.1);
}
  where
    old_path : (i : ℕ) (path : List ℕ) (j : ℕ) → IsPath rows i path j → IsPath old i path j
    old_path i [] j leads = leads
    old_path i (k ∷ path) j leads = (fewer i k leads.0, old_path k path j leads.1)

module _ (g : Graph) (valid : IsValid g) (w : ℕ) (old : World) (there : slice_get g.worlds w ≡ Some old) (transform : WorldLists) (from : ComesFrom old transform) (laws : LawsOfElaboration)
    (no_conflict : HasTransitiveConflict (graph_uses g) transform.exports → ⊥) where
  abbrev rows : List (List ℕ)
  rows = uses_of g.types g.interfaces

  abbrev pub Named : ℕ → Type 0
  Named i = Contains (world_interfaces g.types old) i

  old_imports : ImportsAreAllowed g.interfaces g.types w old
  old_imports = valid.well_formed.worlds.imports w old there

  old_exports : ExportsAreAllowed g.interfaces old
  old_exports = valid.well_formed.worlds.exports w old there

  -- what an entry of the old world names is named
  listed_named : (e : Entry) (i : ℕ) → Contains (old.imports ++ old.exports) e → entry_interface g.types e.1 ≡ Some i → Named i
  listed_named e i has is =
      elim (Contains-append_cases old.imports old.exports e has) [ inl among ↦ import_named g.types old e i among is | inr among ↦ export_named g.types old e i among is ]

  -- what is listed under its own key is named
  listed_key : (j : ℕ) → ListsKey old j → Named j
  listed_key = key_named g.interfaces g.types w old old_imports old_exports

  -- what an import uses is imported under its own key
  pub import_uses : (e : Entry) (i j : ℕ) → Contains old.imports e → entry_interface g.types e.1 ≡ Some i → Contains (direct rows i) j → Contains (keyed_interfaces old.imports) j
  import_uses = canonical_import_uses laws.least g.types g.interfaces valid.well_formed.references.aliases valid.no_cycles.uses w old old_imports old_exports (valid.canonical w old there)

  -- with an interface all that it uses is named
  closed : (i j : ℕ) → Named i → Contains (direct rows i) j → Named j
  closed i j named edge =
      elim (Contains-append_cases (entry_interfaces g.types old.imports) (entry_interfaces g.types old.exports) i named) [
        | inl among ↦
            let e = filter_map_from (λ (e : Entry). entry_interface g.types e.1) old.imports i among in
            listed_key j (inl (import_uses e.0 i j e.1 e.2 edge))
        | inr among ↦
            let e = filter_map_from (λ (e : Entry). entry_interface g.types e.1) old.exports i among in
            let place = place_of old.exports e.0 e.1 in
            let instance = exported_instance e.0.0 e.0.1 (old_exports place.0 e.0 place.1) e.2 in
            listed_key j
            (export_uses laws.least g.types g.interfaces valid.well_formed.references.aliases valid.no_cycles.uses w old old_imports old_exports (valid.canonical w old there) e.0 i j e.1 instance edge)
      ]
    where
      exported_instance : (k : WorldKey) (held : WorldItem) → IsExport g.interfaces k held → entry_interface g.types held ≡ Some i → Contains (item_interface held) i
      exported_instance k (item.Interface id stability docs span external_id) is same = let one : id ≡ i = cc in subst (λ (x : ℕ). Contains (id ∷ []) x) one (Contains-here id [])
      exported_instance k (item.Function f) is same = cc
      exported_instance (key.Name name) (item.Type_ t span) is same = absurd is
      exported_instance (key.Interface f) (item.Type_ t span) is same = absurd is

  reached_named : (i : ℕ) (path : List ℕ) (j : ℕ) → Named i → IsPath rows i path j → Named j
  reached_named i [] j named same = subst Named same named
  reached_named i (k ∷ path) j named leads = reached_named k path j (closed i k named leads.0) leads.1

  -- what the new lists import is named
  needed_named : (j : ℕ) → Needed rows transform.exports j → Named j
  needed_named j need =
      let e = Contains-flat_map_cases (λ (e : Entry). item_interface e.1) transform.exports need.0 need.2 in
      let user = listed_named e.0 need.0 (from.exports e.0 e.1.0).0 (instance_interface g.types e.0.1 need.0 e.1.1) in
      reached_named need.1 need.5.0 j (closed need.0 need.1 user need.3) need.5.1

  transformed_named : (j : ℕ) → IsImported g.types rows transform.imports transform.exports j → Named j
  transformed_named j imported =
      elim imported [
        | inl need ↦ needed_named j need
        | inr reached ↦
            let e = Contains-flat_map_cases (λ (e : Entry). roots_of rows e.0 (role_of g.types e.1)) transform.imports reached.0 reached.1 in
            let root = root_interface g.types rows e.0.0 e.0.1 reached.0 e.1.1 in
            let user = listed_named e.0 root.0 (from.imports e.0 e.1.0) root.1 in
            reached_named reached.0 reached.2.0 j (elim root.2 [ inl same ↦ subst Named same user | inr used ↦ closed root.0 reached.0 user used.1 ]) reached.2.1
      ]

  -- what the transformed world names, the old one named
  pub done_named : (i : ℕ) → Contains (world_interfaces g.types (done g valid w old there transform from)) i → Named i
  done_named i has =
      let new = done g valid w old there transform from in
      let before = listed g valid w old there transform from in
      let order = in_order g valid w old there transform from in
      let elaborated = is_elaborated g valid w old there transform from laws no_conflict in
      elim (Contains-append_cases (entry_interfaces g.types new.imports) (entry_interfaces g.types new.exports) i has) [
        | inl among ↦
            let e = filter_map_from (λ (e : Entry). entry_interface g.types e.1) new.imports i among in
            elim ((laws.entries g.types rows before new e.0 valid.no_cycles.uses order elaborated).0 e.1) [
              | inl stays ↦
                  listed_named stays.0 i (from.imports stays.0 stays.1)
                  (sym (interface_without_span g.types stays.0.1) ∙ ap (λ (f : Entry). entry_interface g.types f.1) (sym stays.2) ∙ e.2)
              | inr made ↦
                  let same : Some made.1 ≡ Some i = ap (λ (f : Entry). entry_interface g.types f.1) (sym made.2) ∙ e.2 in
                  let one : made.1 ≡ i = cc in
                  subst Named one (transformed_named made.1 made.4)
            ]
        | inr among ↦
            let e = filter_map_from (λ (e : Entry). entry_interface g.types e.1) new.exports i among in
            elim ((laws.entries g.types rows before new e.0 valid.no_cycles.uses order elaborated).1 e.1) [
              | inl stays ↦ listed_named e.0 i (from.exports e.0 stays).0 e.2
              | inr made ↦
                  let same : Some made.1 ≡ Some i = ap (λ (f : Entry). entry_interface g.types f.1) (sym made.2) ∙ e.2 in
                  let one : made.1 ≡ i = cc in
                  let entry = key_entry transform.exports made.1 made.3 in
                  let among = (from.exports entry.0 entry.1).0 in
                  subst Named one
                  (listed_named entry.0 made.1 among (import_interface g.interfaces g.types w entry.0.0 entry.0.1 made.1 entry.2 (old_entry g valid w old there transform from entry.0 among).is))
            ]
      ]
