-- From the steps of a turn to what it makes of a graph, and to its reasons.
use Rattle.std.proofs.Common.{◌≡◌, ◌∙◌, ◌⊎◌, inl, inr, ℕ, ◌<◌, Bool, true, false, List, [], ◌++◌, Option, None, Some, IsSomeAnd, length, slice_get, refl, sym, ap, subst, arith}
use Rattle.std.specs.Option.{option_map_or}
use Rattle.std.proofs.lemmas.Option.{slice_get_within}
use Rattle.wit_data.specs.declared.world.World.{World}
use Rattle.wit_elaboration.specs.Elaboration.{IsConflictError, graph_uses}
use Rattle.wit_elaboration.specs.Entries.{Entry}
use Rattle.wit_elaboration.specs.Imported.{HasTransitiveConflict, IsRefusedName}
use Rattle.wit_elaboration.specs.Sound.{HasSoundEntries}
use Rattle.wit_elaboration.specs.Valid.{IsValid}
use Rattle.wit_graph_data.specs.declared.graph.Graph.{Graph}
use Rattle.wit_graph_data.specs.declared.error_kind.ResolveErrorKind.{ResolveErrorKind}
use Rattle.wit_graph_data.specs.declared.error_kind.ResolveErrorKind.TheVariants.{PackageNotFound, WorldNotFound, InterfaceNotFound, InvalidTransitiveDependency, DuplicatePackage, PackageCycle, ItemShadowing, StabilityMismatch, Semantic, OffsetOverflow, OutOfMemory}
use Rattle.wit_graph_theory.specs.facts.ListFacts.{get_at, same_at, some_at}
use Rattle.wit_transform.proofs.Accepted.{home_at, under_labels}
use Rattle.wit_transform.specs.facts.ListsFrom.{exportized_comes, importized_comes}
use Rattle.wit_transform.proofs.Refusals.{no_types}
use Rattle.wit_transform.specs.facts.TransformedWorlds.{in_order_over}
use Rattle.wit_transform.specs.Transformed.{ExportizeCause, ImportizeCause, IsExportizeCause, IsImportizeCause, export_conflict, export_refusal, exportized_name_taken, importized_name_taken, label_clash, not_exported, WorldLists, entries_by_answer, exportized, importized, transformed, transformed_at, type_entries}
use Rattle.wit_transform.specs.steps.Transformed.{ExportsAreInConflict, HasPackageAt, NameIsFreeAt}
use Rattle.wit_transform.specs.steps.Parts.{listed_world, HasClash}

-- ---- the world and its package

some_made : (P : ℕ → Type 0) (o : Option ℕ) (p : ℕ) → o ≡ Some p → P p → IsSomeAnd o P
some_made P o p is h = subst (λ (x : Option ℕ). IsSomeAnd x P) (sym is) h

-- in a valid graph it has one
pub has_home : (g : Graph) → IsValid g → (w : ℕ) → w < length g.worlds → HasPackageAt g w
has_home g valid w within =
    let current = get_at g.worlds w within in
    let home = home_at g valid w current.0 current.1 in
    some_at (λ (world : World). IsSomeAnd world.package (λ p. p < length g.packages)) g.worlds w current.0 current.1
    (some_made (λ p. p < length g.packages) current.0.package home.0 home.2 (slice_get_within g.packages home.0 home.1 home.3))

-- ---- what is made

-- the same turn of the world
pub transformed_same : (g : Graph) (w : ℕ) (current : World) (transform : WorldLists) (f : World → WorldLists) → slice_get g.worlds w ≡ Some current → transform ≡ f current → transformed g w (λ _. transform) ≡ transformed g w f
transformed_same g w current transform f there same =
    ap (λ (o : Option World). option_map_or (λ (x : World). transformed_at g w x transform) o g) there
    ∙ ap (transformed_at g w current) same
    ∙ sym (ap (λ (o : Option World). option_map_or (λ (x : World). transformed_at g w x (f x)) o g) there)

-- ---- the lists are in order

pub importized_in_order : (g : Graph) → IsValid g → (w : ℕ) (current : World) (out : Option (List ℕ)) → slice_get g.worlds w ≡ Some current → ((label : List ℕ) → HasClash current label → ⊥)
    → HasSoundEntries g.types (length g.interfaces) (type_entries current.imports ++ current.exports) []
importized_in_order g valid w current out there clear =
    in_order_over g valid w current there (importized out current)
    (importized_comes current out (valid.well_formed.worlds.distinct_imports w current there) (valid.well_formed.worlds.distinct_exports w current there) (under_labels g valid w current there) clear)
    (length g.interfaces) refl

pub exportized_in_order : (g : Graph) → IsValid g → (w : ℕ) (current : World) (answers : List Bool) (out : Option (List ℕ)) → slice_get g.worlds w ≡ Some current
    → length answers ≡ length current.imports → export_refusal (entries_by_answer true current.imports answers) ≡ None
    → HasSoundEntries g.types (length g.interfaces) (entries_by_answer false current.imports answers) (entries_by_answer true current.imports answers)
exportized_in_order g valid w current answers out there count fine =
    in_order_over g valid w current there (exportized answers out current)
    (exportized_comes current answers out (valid.well_formed.worlds.distinct_imports w current there) (under_labels g valid w current there)
    (λ i e at. let within = slice_get_within current.imports i e at in get_at answers i (omega arith)) (no_types (entries_by_answer true current.imports answers) fine))
    (length g.interfaces) refl

-- ---- reasons

-- a conflict of the transformed world, told as one of these exports
pub conflict_told : (g : Graph) (w : ℕ) (current : World) (transform : WorldLists) (error : ResolveErrorKind) → slice_get g.worlds w ≡ Some current
    → (error ≡ OutOfMemory) ⊎ IsConflictError g (listed_world current transform) error → (error ≡ OutOfMemory) ⊎ ExportsAreInConflict g w transform.exports error
conflict_told g w current transform error there (inl none) = inl none
conflict_told g w current transform error there (inr told) = inr (current, told.0, there, told.2, told.3, told.1)

-- no cause holds against an import of the exports
pub importize_clear : (g : Graph) (w : ℕ) (current : World) (out : Option (List ℕ)) → slice_get g.worlds w ≡ Some current → NameIsFreeAt g w (importized out current).name → ((label : List ℕ) → HasClash current label → ⊥)
    → (error : ResolveErrorKind) → IsImportizeCause g w out error → ⊥
importize_clear g w current out there free clear error cause =
    let same = same_at g.worlds w w cause.0 current refl cause.1 there in
    elim (subst (λ (x : World). ImportizeCause g w x (importized out x) error) same cause.2) [
      | label_clash label has is ↦ clear label has
      | importized_name_taken home taken is ↦ free current home there taken
    ]

-- nor against an export of the imports
pub exportize_clear : (g : Graph) (w : ℕ) (current : World) (answers : List Bool) (out : Option (List ℕ)) → slice_get g.worlds w ≡ Some current → NameIsFreeAt g w (exportized answers out current).name
    → export_refusal (entries_by_answer true current.imports answers) ≡ None → (HasTransitiveConflict (graph_uses g) (entries_by_answer true current.imports answers) → ⊥)
    → (error : ResolveErrorKind) → IsExportizeCause g w answers out error → ⊥
exportize_clear g w current answers out there free fine no_conflict error cause =
    let same = same_at g.worlds w w cause.0 current refl cause.1 there in
    elim (subst (λ (x : World). ExportizeCause g w x (exportized answers out x) error) same cause.2) [
      | export_conflict name none listed conflict refused is ↦ no_conflict conflict
      | exportized_name_taken home taken is ↦ free current home there taken
      | not_exported is ↦ let never : None ≡ Some error = sym fine ∙ is in cc
    ]

-- a conflict is a reason where no other is
pub exportize_conflict : (g : Graph) (w : ℕ) (current : World) (answers : List Bool) (out : Option (List ℕ)) (exports : List Entry) (error : ResolveErrorKind) → slice_get g.worlds w ≡ Some current
    → NameIsFreeAt g w (exportized answers out current).name → export_refusal (entries_by_answer true current.imports answers) ≡ None → exports ≡ entries_by_answer true current.imports answers
    → ExportsAreInConflict g w exports error → IsExportizeCause g w answers out error
exportize_conflict g w current answers out exports error there free fine exports_are told =
    let same = same_at g.worlds w w told.0 current refl told.2 there in (
      current,
      there,
      export_conflict told.1 (λ home taken. free current home there taken) fine (subst (HasTransitiveConflict (graph_uses g)) exports_are told.3)
          (subst (λ (es : List Entry). IsRefusedName g.packages g.interfaces (graph_uses g) es told.1) exports_are told.4)
          (told.5 ∙ ap (λ (x : World). InvalidTransitiveDependency x.span told.1) same),
    )
