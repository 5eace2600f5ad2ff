-- A turn against which no cause holds makes a valid graph.
use Rattle.std.proofs.Common.{◌≡◌, ◌∙◌, ℕ, Bool, true, List, [], Option, None, Some, IsSomeAnd, length, slice_get, refl, sym, arith, Contains}
use Rattle.std.specs.Option.{option_map_or}
use Rattle.std.proofs.lemmas.Option.{slice_get_within}
use Rattle.wit_data.specs.Each.{SomeAt}
use Rattle.wit_data.specs.Entries.{IsImport}
use Rattle.wit_data.specs.declared.interface.Interface.{Interface}
use Rattle.wit_data.specs.declared.types.TypeDef.{TypeDef}
use Rattle.wit_data.specs.declared.world.World.{World}
use Rattle.wit_data.specs.declared.world.WorldItem.{WorldItem}
use Rattle.wit_data.specs.declared.world.WorldKey.{WorldKey}
use Rattle.wit_data.specs.declared.world.WorldItem.TheVariants as item
use Rattle.wit_data.specs.declared.world.WorldKey.TheVariants as key
use Rattle.wit_digraph.specs.facts.MemberFacts.{Contains-nil}
use Rattle.wit_elaboration.specs.facts.Filters.{Contains-filter}
use Rattle.wit_graph_data.specs.declared.cause.Cause.TheVariants.{LabelClash, NameTaken}
use Rattle.wit_graph_data.specs.declared.graph.Graph.{Graph}
use Rattle.wit_graph_data.specs.declared.graph.Package.{Package}
use Rattle.wit_graph_data.specs.declared.error_kind.ResolveErrorKind.{ResolveErrorKind}
use Rattle.wit_graph_data.specs.declared.error_kind.ResolveErrorKind.TheVariants.{InvalidTransitiveDependency, Semantic}
use Rattle.wit_elaboration.specs.Elaboration.{graph_uses}
use Rattle.wit_elaboration.specs.Entries.{Entry}
use Rattle.wit_graph_data.specs.IdText.{key_text}
use Rattle.wit_elaboration.specs.Imported.{HasTransitiveConflict}
use Rattle.wit_elaboration.specs.Valid.{IsValid}
use Rattle.wit_graph_theory.specs.facts.ListFacts.{found_at, get_at, place_of}
use Rattle.wit_graph_theory.specs.facts.LawsOfElaboration.{LawsOfElaboration}
use Rattle.wit_transform.specs.facts.Distinct.{entry_of_key}
use Rattle.wit_transform.specs.facts.ListsFrom.{ComesFrom, exportized_comes, importized_comes}
use Rattle.wit_transform.proofs.Refusals.{no_types, none_told}
use Rattle.wit_transform.specs.facts.TransformedWorlds.{in_order}
use Rattle.wit_transform.proofs.ValidTransformations.{transformed_is_valid}
use Rattle.wit_transform.specs.Transformed.{IsExportizeCause, IsImportizeCause, HasNameTaken, export_conflict, export_refusal, exportized_name_taken, imports_at, importized_name_taken, label_clash, name_taken_text, not_exported, WorldLists, exportized, importized, is_type, transformed, transformed_at, type_entries}
use Rattle.wit_transform.specs.steps.Transformed.{AreUnderLabels}
use Rattle.wit_transform.specs.steps.Parts.{label_clash_text}

-- ---- a valid graph

label_of : (interfaces : List Interface) (types : List TypeDef) (w : ℕ) (k : WorldKey) (held : WorldItem) → IsImport interfaces types w k held → is_type held ≡ true → (label : List ℕ) × (k ≡ key.Name label)
label_of interfaces types w (key.Name name) held is type = (name, refl)
label_of interfaces types w (key.Interface f) (item.Interface i stability docs span external_id) is type = cc
label_of interfaces types w (key.Interface f) (item.Function fn) is type = absurd is
label_of interfaces types w (key.Interface f) (item.Type_ t span) is type = absurd is

module _ (g : Graph) (valid : IsValid g) (w : ℕ) (old : World) (there : slice_get g.worlds w ≡ Some old) where
  -- the types among the imports stand under labels
  pub under_labels : AreUnderLabels (type_entries old.imports)
  under_labels k has =
      let entry = entry_of_key (type_entries old.imports) k has in
      let type = Contains-filter (λ (e : Entry). is_type e.1) old.imports entry.0 entry.1 in
      let place = place_of old.imports entry.0 type.0 in
      let label = label_of g.interfaces g.types w entry.0.0 entry.0.1 (valid.well_formed.worlds.imports w old there place.0 entry.0 place.1) type.1 in
      (label.0, sym entry.2 ∙ label.1)

  some_home : (o : Option ℕ) → IsSomeAnd o (λ p. SomeAt g.packages p (λ (home : Package). Contains home.worlds (old.name, w))) → (p : ℕ) × (home : Package) × (o ≡ Some p) × (slice_get g.packages p ≡ Some home)
  some_home None h = absurd h
  some_home (Some p) h = let found = found_at (λ (home : Package). Contains home.worlds (old.name, w)) g.packages p h in (p, found.0, refl, found.1)

  -- the world has a package
  pub home_at : (p : ℕ) × (home : Package) × (old.package ≡ Some p) × (slice_get g.packages p ≡ Some home)
  home_at = some_home old.package (valid.well_formed.tables.worlds_listed w old there)

-- ---- accepted turns

-- what is so of a turn against which no cause holds
pub record IsAcceptedTransformation (g : Graph) (w : ℕ) (old : World) (transform : WorldLists) : Type 0 where
  pub from : ComesFrom old transform
  pub no_conflict : HasTransitiveConflict (graph_uses g) transform.exports → ⊥
  pub free : (home : Package) → HasNameTaken g w old transform.name home → ⊥

module _ (laws : LawsOfElaboration) (g : Graph) (valid : IsValid g) (w : ℕ) (out : Option (List ℕ)) where
  valid_transformed : (old : World) (transform : WorldLists) → slice_get g.worlds w ≡ Some old → IsAcceptedTransformation g w old transform → IsValid (transformed_at g w old transform)
  valid_transformed old transform there accepted =
      let home = home_at g valid w old there in
      transformed_is_valid laws g valid w old there transform accepted.from accepted.no_conflict home.0 home.1 home.2 home.3 (λ taken. accepted.free home.1 (home.0, home.2, home.3, taken))

  pub importized_accepted : ((error : ResolveErrorKind) → IsImportizeCause g w out error → ⊥) → (old : World) → slice_get g.worlds w ≡ Some old → IsAcceptedTransformation g w old (importized out old)
  importized_accepted clear old there = record {
    from = importized_comes old out (valid.well_formed.worlds.distinct_imports w old there) (valid.well_formed.worlds.distinct_exports w old there) (under_labels g valid w old there)
        (λ label clash. clear (Semantic None (label_clash_text label) LabelClash) (old, there, label_clash label clash refl));
    no_conflict = λ conflict. Contains-nil conflict.2;
    free = λ home taken. clear (Semantic None (name_taken_text (importized out old).name home.name) NameTaken) (old, there, importized_name_taken home taken refl);
  }

  -- exports that became imports
  pub importized_valid : ((error : ResolveErrorKind) → IsImportizeCause g w out error → ⊥) → IsValid (transformed g w (importized out))
  importized_valid clear = by (slice_get g.worlds w) refl
    where
      by : (o : Option World) → slice_get g.worlds w ≡ o → IsValid (option_map_or (λ (world : World). transformed_at g w world (importized out world)) o g)
      by None at = valid
      by (Some old) at = valid_transformed old (importized out old) at (importized_accepted clear old at)

  module _ (answers : List Bool) where
    pub exportized_accepted : (clear : (error : ResolveErrorKind) → IsExportizeCause g w answers out error → ⊥) (old : World) → slice_get g.worlds w ≡ Some old → length answers ≡ length old.imports
        → IsAcceptedTransformation g w old (exportized answers out old)
    exportized_accepted clear old there count =
        let transform = exportized answers out old in
        let free : (h : Package) → HasNameTaken g w old transform.name h → ⊥ =
        λ h taken. clear (Semantic None (name_taken_text transform.name h.name) NameTaken) (old, there, exportized_name_taken h taken refl) in
        let fine : export_refusal transform.exports ≡ None = none_told (export_refusal transform.exports) (λ error is. clear error (old, there, not_exported is)) in
        let from = exportized_comes old answers out (valid.well_formed.worlds.distinct_imports w old there) (under_labels g valid w old there)
        (λ i e at. let within = slice_get_within old.imports i e at in get_at answers i (omega arith)) (no_types transform.exports fine) in
        record {
          from = from;
          no_conflict = λ conflict.
              let refused = (laws.refused g.types (graph_uses g) transform.imports transform.exports valid.no_cycles.uses (in_order g valid w old there transform from)).0 conflict in
              clear (InvalidTransitiveDependency old.span (key_text g.packages g.interfaces refused.0)) (old, there, export_conflict (key_text g.packages g.interfaces refused.0) free fine conflict (refused.0, refused.1, refl) refl);
          free = free;
        }

    -- imports that became exports
    pub exportized_valid : length answers ≡ length (imports_at g w) → ((error : ResolveErrorKind) → IsExportizeCause g w answers out error → ⊥) → IsValid (transformed g w (exportized answers out))
    exportized_valid count clear = by (slice_get g.worlds w) refl count
      where
        by : (o : Option World) → slice_get g.worlds w ≡ o → length answers ≡ length (option_map_or (λ (world : World). world.imports) o []) → IsValid (option_map_or (λ (world : World). transformed_at g w world (exportized answers out world)) o g)
        by None at many = valid
        by (Some old) at many = valid_transformed old (exportized answers out old) at (exportized_accepted clear old at many)
