-- The causes that lie in a world of the package. A world comes next in a graph: its includes are made, one after another,
-- and it is finished (`finished_world`); each of these can be refused. The tables have each cause with its number, its
-- span and what it tells; the last says of which graph and world an addition asks them.
-- Source: the WIT page of the component model, "include"; `append`, `process_world_includes`, `resolve_include`,
-- `validate_world_strongly_unique_names` and `elaborate_world` of wit-parser 0.263.0; what holds without an image is a
-- rule of this project.
use Rattle.std.specs.Prelude.{◌≡◌, ◌⊎◌, ◌<◌, ℕ, Bool, List, [], take, slice_get, length, None, Some, ◌++◌, map, Contains, is_some, true, codes}
use Rattle.std.specs.Map.{keys_of}
use Rattle.wit_data.specs.Each.{Each}
use Rattle.wit_data.specs.Entries.{Entry}
use Rattle.wit_data.specs.declared.function.Function.{Function}
use Rattle.wit_data.specs.declared.stability.Stability.{Stability}
use Rattle.wit_data.specs.declared.world.IncludeName.{IncludeName}
use Rattle.wit_data.specs.declared.world.World.{World}
use Rattle.wit_data.specs.declared.world.WorldInclude.{WorldInclude}
use Rattle.wit_data.specs.declared.world.WorldKey.{WorldKey}
use Rattle.wit_data.specs.declared.world.WorldItem.TheVariants as item
use Rattle.wit_data.specs.declared.world.WorldKey.TheVariants as key
use Rattle.wit_elaboration.specs.Elaboration.{graph_uses}
use Rattle.wit_elaboration.specs.Imported.{HasTransitiveConflict, IsRefusedName}
use Rattle.wit_graph_data.specs.Error.{NoCause}
use Rattle.wit_graph_data.specs.declared.cause.Cause.TheVariants as cause
use Rattle.wit_graph_data.specs.declared.error_kind.ResolveErrorKind.{ResolveErrorKind}
use Rattle.wit_graph_data.specs.declared.error_kind.ResolveErrorKind.TheVariants.{Semantic, ItemShadowing, StabilityMismatch, InvalidTransitiveDependency}
use Rattle.wit_graph_data.specs.declared.graph.Graph.{Graph}
use Rattle.wit_labels.specs.Rename.{renamed_label, renamed_label_by}
use Rattle.wit_labels.specs.Setters.{getter_label, setters_placed, is_setter_label}
use Rattle.wit_labels.specs.Strong.{Clashes}
use Rattle.wit_link_spec.specs.Added.{with_worlds}
use Rattle.wit_link_spec.specs.Addition.{Addition, addition_maps, own_worlds, updated_includes}
use Rattle.wit_link_spec.specs.CauseText.{clash_text, getter_text}
use Rattle.wit_link_spec.specs.Include.{PartiallyLinked, is_other_package, with_entry_lists, with_several}
use Rattle.wit_link_spec.specs.Reasons.{IsResolved}
use Rattle.wit_remap_spec.specs.Image.{world_image}
use Rattle.wit_remap_spec.specs.Joined.{include_stability, Disagree, HasStability}

-- ---- 7, 8, 16: of one include

-- a key under its new label
abbrev pub renamed_key : List IncludeName → WorldKey → WorldKey
renamed_key names (key.Name label) = key.Name (renamed_label names label)
renamed_key names (key.Interface i) = key.Interface i

-- label n of brought keys is there: in the list, or among the keys brought before
abbrev pub IsShadowed : List Entry → List WorldKey → List ℕ → Type 0
IsShadowed current brought n =
    (j : ℕ) × (slice_get brought j ≡ Some (key.Name n))
    × Contains (keys_of current ++ take j brought) (key.Name n)

-- 7 and 8, of a list called `word` and the list that the include brings to it; `other` tells whether that comes of another
-- package
pub data IsJoinCause (other : Bool) (include : WorldInclude) (word : List ℕ)
    (current brought : List Entry) : ResolveErrorKind → Type 0 where
  -- a label that is brought, under its new name, is there
  shadowing_7 : (name : List ℕ)
      → IsShadowed current (map (λ (e : Entry). renamed_key include.names e.0) brought) name
      → IsJoinCause other include word current brought (ItemShadowing include.span word name)
  -- an interface that is brought is there with another stability, and it isn't a `@since` of
  -- another package, which says
  -- nothing
  mismatch_8 : (i : ℕ) (brings has : Stability) → HasStability brought i brings
      → HasStability current i has → Disagree brings has
      → include_stability other brings has ≡ brings
      → IsJoinCause other include word current brought (StabilityMismatch include.span brings has)

-- some label of a world is what a renaming is of
abbrev pub IsRenamed : World → IncludeName → Type 0
IsRenamed world name =
    (label : List ℕ) × Contains (keys_of world.imports ++ keys_of world.exports) (key.Name label)
    × (is_some (renamed_label_by name label) ≡ true)

-- the causes of an include of world `old` by a world of package `home`, which is made as far as `b`
pub data IsIncludeCause (home : ℕ) (b : PartiallyLinked) (include : WorldInclude)
    (old : World) : ResolveErrorKind → Type 0 where
  of_imports : (error : ResolveErrorKind)
      → IsJoinCause (is_other_package old.package home) include (codes "import") b.lists.imports
      old.imports error → IsIncludeCause home b include old error
  of_exports : (error : ResolveErrorKind)
      → IsJoinCause (is_other_package old.package home) include (codes "export") b.lists.exports
      old.exports error → IsIncludeCause home b include old error
  -- a renaming is of no label of the world; the first such is told
  rename_unmatched_16 : (j : ℕ) (name : IncludeName) → slice_get include.names j ≡ Some name
      → Each (IsRenamed old) (take j include.names) → (IsRenamed old name → ⊥)
      → IsIncludeCause home b include old
      (Semantic include.span (codes "no import or export kebab-name `"
      ++ (name.name ++ codes "`. Note that an ID does not support renaming"))
      cause.RenameUnmatched)

-- ---- 4, 17, 18: of a world with its includes

-- 17 and 18, of a list called `word` of a world
pub data IsListCause (world word : List ℕ) (entries : List Entry) : ResolveErrorKind → Type 0 where
  -- labels n and m are not strongly unique
  not_strongly_unique_17 : (n m : List ℕ) → Clashes (keys_of entries) n m
      → IsListCause world word entries
      (Semantic None (clash_text word n world m) cause.NotStronglyUnique)
  -- a setter has no getter
  no_getter_18 : (label : List ℕ) (f : Function)
      → Contains entries (key.Name label, item.Function f) → is_setter_label label ≡ true
      → (Contains (keys_of entries) (key.Name (getter_label label)) → ⊥)
      → IsListCause world word entries
      (Semantic f.span (getter_text word label world (getter_label label)) cause.NoGetter)

-- 17 and 18, of a world
abbrev pub IsLabelCause : World → ResolveErrorKind → Type 0
IsLabelCause world error =
    IsListCause world.name (codes "import") world.imports error
    ⊎ IsListCause world.name (codes "export") world.exports error

-- the causes of a world that is finished over a graph
pub data IsFinishCause (g : Graph) (world : World) : ResolveErrorKind → Type 0 where
  -- what its exports need from outside is exported; by the name of the first export that leads there
  conflict_4 : (name : List ℕ) → HasTransitiveConflict (graph_uses g) (setters_placed world.exports)
      → IsRefusedName g.packages g.interfaces (graph_uses g) (setters_placed world.exports) name
      → IsFinishCause g world (InvalidTransitiveDependency world.span name)
  of_labels : (error : ResolveErrorKind) → IsLabelCause world error → IsFinishCause g world error

-- ---- of a world that comes next

-- a cause of the include, of the world that it names
abbrev pub IsCauseOfInclude : ℕ → PartiallyLinked → WorldInclude → ResolveErrorKind → Type 0
IsCauseOfInclude home b include error =
    (old : World) × (slice_get b.graph.worlds include.id ≡ Some old)
    × IsIncludeCause home b include old error

-- include j is accepted, as it is when its turn comes
abbrev pub IsAcceptedAt : ℕ → Graph → World → List WorldInclude → ℕ → Type 0
IsAcceptedAt home g world includes j =
    (include : WorldInclude) → slice_get includes j ≡ Some include
    → NoCause (IsCauseOfInclude home (with_several home g world (take j includes)) include)

-- a world of package `home` that comes next in a graph, with these includes, is refused for this: for its first include that
-- is refused, and, where all are accepted, as it is finished
pub data IsWorldCause (home : ℕ) (g : Graph) (world : World) (includes : List WorldInclude)
    (error : ResolveErrorKind) : Type 0 where
  at_include : (j : ℕ) (include : WorldInclude) → slice_get includes j ≡ Some include
      → ((i : ℕ) → i < j → IsAcceptedAt home g world includes i)
      → IsCauseOfInclude home (with_several home g world (take j includes)) include error
      → IsWorldCause home g world includes error
  as_finished : ((j : ℕ) → IsAcceptedAt home g world includes j)
      → (let b = with_several home g world includes in
      IsFinishCause b.graph (with_entry_lists world b.lists) error)
      → IsWorldCause home g world includes error

-- ---- of a world of the package

-- the causes of world k of those that are active: those of its image, which comes next, where the package has one; and, image
-- or not, 17 and 18 of a world that lists no include
pub data IsCauseAtWorld (a : Addition) (k : ℕ) (error : ResolveErrorKind) : Type 0 where
  of_image : (w : ℕ) (world : World) → slice_get (own_worlds a) k ≡ Some (w, world) → IsResolved a
      → IsWorldCause (length a.graph.packages) (with_worlds a k)
      (world_image (addition_maps a) w world) (updated_includes a world) error
      → IsCauseAtWorld a k error
  of_labels_alone : (w : ℕ) (world : World) → slice_get (own_worlds a) k ≡ Some (w, world)
      → world.includes ≡ [] → IsLabelCause (world_image (addition_maps a) w world) error
      → IsCauseAtWorld a k error
