-- A world of a graph that is included in one that comes next, all includes of a world, and the world finished; why a
-- list can't be joined to another, and what is looked at of labels. What includes make is `with_several`, what the list
-- becomes is `joined_entries`; why a world is refused is `IsWorldCause`.
-- Source: the WIT page of the component model, "include"; `resolve_include` and `process_world_includes` of
-- wit-parser 0.263.0.
use Rattle.std.specs.Prelude.{◌≡◌, ◌<◌, ℕ, Bool, List, length, map, take, slice_get, Some, false, ◌==◌, Option, None, if◌then◌else◌, Contains, codes, bytes_eq, ◌+◌, ◌++◌, ◌||◌, true, [], ◌∷◌, nat_eq, not, is_some, unwrap_or, flat_map}
use Rattle.std.specs.List.{AllByRecursion, before_first, list_any}
use Rattle.std.specs.Map.{keys_of, lookup}
use Rattle.std.specs.Option.{option_map_or}
use Rattle.wit_data.specs.Each.{Each}
use Rattle.wit_data.specs.Entries.{Entry}
use Rattle.wit_data.specs.declared.stability.Docs.{Docs}
use Rattle.wit_data.specs.declared.world.IncludeName.{IncludeName}
use Rattle.wit_data.specs.declared.stability.Stability.{Stability}
use Rattle.wit_data.specs.declared.world.World.{World}
use Rattle.wit_data.specs.declared.world.WorldInclude.{WorldInclude}
use Rattle.wit_data.specs.declared.world.WorldItem.{WorldItem}
use Rattle.wit_data.specs.declared.world.WorldKey.{WorldKey}
use Rattle.wit_data.specs.declared.world.WorldItem.TheVariants as item
use Rattle.wit_data.specs.declared.world.WorldKey.TheVariants as key
use Rattle.wit_elaboration.specs.Sound.{IsUnderOwnKey}
use Rattle.wit_graph_data.specs.Error.{NoCause}
use Rattle.wit_graph_data.specs.declared.graph.Graph.{Graph}
use Rattle.wit_graph_data.specs.declared.error_kind.ResolveErrorKind.{ResolveErrorKind}
use Rattle.wit_graph_data.specs.declared.error_kind.ResolveErrorKind.TheVariants.{ItemShadowing, StabilityMismatch}
use Rattle.wit_remap_spec.specs.Image.{entry_image, Maps, interface_image, type_image}
use Rattle.wit_labels.specs.Groups.{begins_group, rest_of}
use Rattle.wit_link_spec.specs.Gates.{OptionalSpan}
use Rattle.wit_link_spec.specs.Include.{EntryLists, PartiallyLinked, joined_entries, lists_of, belongs_to, entry_mentions, is_owned_within, is_unnamed_type, named_types, owner_belongs_to, with_several}
use Rattle.wit_remap_spec.specs.Joined.{include_stability, Disagree}
use Rattle.wit_link_spec.specs.WorldReasons.{IsAcceptedAt, IsCauseOfInclude, IsListCause, IsRenamed, IsShadowed}
use Rattle.wit_link_spec.specs.laws.StageFacts.{CanBeLinked, CanInclude, IsPartiallyLinked}
use Rattle.wit_link_include.specs.declared.copies.Copies.{Copies}
use Rattle.wit_data.specs.Kind.{referred, type_references}
use Rattle.wit_data.specs.declared.types.TypeDef.{TypeDef}
use Rattle.wit_digraph.specs.Relation.{Reaches}
use Rattle.wit_digraph.specs.PostOrder.{post_order}
use Rattle.wit_labels.specs.Rename.{renamed_label}
use Rattle.wit_remap_spec.specs.Selected.{selected, selected_with_index}
use Rattle.wit_link_include.specs.declared.origin.Origin.{Origin}
use Rattle.wit_remap_spec.specs.steps.Parts.{include_maps}

-- Where copies go by tables, and what the types that a world names lead to.

-- each of some ids with the id that it goes to: n, and then those that follow
abbrev pub numbered : ℕ → List ℕ → List (ℕ × ℕ)
numbered n [] = []
numbered n (id ∷ ids) = (id, n) ∷ numbered (n + 1) ids

-- the places of what is active of a list
abbrev pub places : {X : Type 0} → (ℕ → Bool) → List X → List ℕ
places kept xs = map (λ e. e.0) (selected_with_index kept xs)

-- what an id is remapped to by a table: one that isn't there stays
abbrev pub goes : List (ℕ × ℕ) → ℕ → ℕ
goes table id = unwrap_or (lookup (nat_eq id) table) id

-- the maps that copies stand for
abbrev pub maps_of : Copies → Maps
maps_of c =
    include_maps (goes c.types) (goes c.interfaces) (renamed_label c.names) c.from c.into c.home

-- the graph with images of some of its types and interfaces behind them
abbrev pub with_images : Graph → Maps → (ℕ → Bool) → (ℕ → Bool) → Graph
with_images g m types interfaces = record g {
  types = g.types ++ map (type_image m) (selected types g.types);
  interfaces = g.interfaces ++ map (interface_image m) (selected interfaces g.interfaces);
}

-- no type with a name that doesn't go with the world refers to one that does, through whatever others
abbrev pub StayApart : Graph → ℕ → World → Type 0
StayApart g w world =
    (t o : ℕ) → is_unnamed_type g t ≡ false → is_owned_within g w world t ≡ false →
    Reaches (type_references g.types) t o → is_owned_within g w world o ≡ false

-- the entries of world w name what belongs to it
abbrev pub NamesBelonging : Graph → ℕ → World → Type 0
NamesBelonging g w world =
    (t : ℕ) → is_owned_within g w world t ≡ true → Contains (named_types g world) t

-- the types that the entries of a world name are there
abbrev pub NamesThere : Graph → World → Type 0
NamesThere g world =
    (t : ℕ) → Contains (flat_map (entry_mentions g world) (world.imports ++ world.exports)) t
    → t < length g.types

-- ---- how it is found

-- the table has the interfaces that go with the world
abbrev pub IsOrigin : Origin → Type 0
IsOrigin o =
    (i : ℕ)
    → is_some (lookup (nat_eq i) o.belonging_interfaces.now) ≡ belongs_to o.graph.now o.world.now i

-- the types that the entries of the world name
abbrev pub roots_of : Origin → List ℕ
roots_of o =
    flat_map (entry_mentions o.graph.now o.world.now) (o.world.now.imports ++ o.world.now.exports)

-- a type that may refer to what goes with the world: it goes with it itself, or has no name
abbrev pub is_open_in : Origin → TypeDef → Bool
is_open_in o def = owner_belongs_to o.graph.now o.id o.world.now def.owner || not (is_some def.name)

-- what each such type refers to, nothing at the others
abbrev pub open_row : Origin → TypeDef → List ℕ
open_row o def = if is_open_in o def then referred def.kind else []

abbrev pub open_rows : Origin → List (List ℕ)
open_rows o = map (open_row o) o.graph.now.types

-- does a type lead to one that goes with the world?
abbrev pub leads : Origin → ℕ → Bool
leads o t =
    list_any (is_owned_within o.graph.now o.id o.world.now)
    (post_order (type_references o.graph.now.types) t)

-- the same by what is known of the types that it refers to
abbrev pub said : List (ℕ × Bool) → ℕ → Bool
said known t = unwrap_or (lookup (nat_eq t) known) false

abbrev pub def_leads_by : Origin → List (ℕ × Bool) → TypeDef → Bool
def_leads_by o known def =
    if owner_belongs_to o.graph.now o.id o.world.now def.owner then true
    else (if is_some def.name then false else list_any (said known) (referred def.kind))

abbrev pub leads_by : Origin → List (ℕ × Bool) → ℕ → Bool
leads_by o known t = option_map_or (def_leads_by o known) (slice_get o.graph.now.types t) false

-- what is known of type t when all that some roots reach through such types is known
abbrev pub known_of : Origin → List ℕ → ℕ → Option Bool
known_of o roots t =
    if list_any (nat_eq t) (flat_map (post_order (open_rows o)) roots) then Some (leads o t)
    else None

-- each renaming is of some label of the world
abbrev pub AreRenamed : World → List IncludeName → Type 0
AreRenamed world names = Each (IsRenamed world) names

-- 16: this renaming is the first that is of no label of the world
pub record IsFirstUnmatched (world : World) (names : List IncludeName) (name : IncludeName) : Type 0
  where
    pub j : ℕ
    pub is : slice_get names j ≡ Some name
    pub earlier : AreRenamed world (take j names)
    pub unmatched : IsRenamed world name → ⊥

-- the word of a label that a renaming has to be of: what stands behind its groups, up to the first dot; none where
-- a bracket that isn't closed stands there
abbrev pub word_of : List ℕ → Option (List ℕ)
word_of label =
    if begins_group (rest_of label) then None
    else Some (before_first (λ b. b == 46) (rest_of label))

-- is the key a label with this word?
abbrev pub has_word : List ℕ → WorldKey → Bool
has_word word (key.Name label) = option_map_or (bytes_eq word) (word_of label) false
has_word word (key.Interface i) = false

-- ---- one include

-- the copies of entries
abbrev pub copied_entries : Copies → List Entry → List Entry
copied_entries copies entries = map (entry_image (maps_of copies) copies.from) entries

-- a world with entries joined to its lists
abbrev pub with_joined : Bool → World → List Entry → List Entry → World
with_joined other world imports exports =
    record world {
      imports = joined_entries other world.imports imports;
      exports = joined_entries other world.exports exports;
    }

-- the world that an include names is there
abbrev pub IsIncluded : PartiallyLinked → WorldInclude → World → Type 0
IsIncluded b include old = slice_get b.graph.worlds include.id ≡ Some old

-- each entry under the key of an interface is that interface
pub record HaveOwnKeys (lists : EntryLists) : Type 0 where
  pub imports : AllByRecursion (λ (e : Entry). IsUnderOwnKey e.0 e.1) lists.imports
  pub exports : AllByRecursion (λ (e : Entry). IsUnderOwnKey e.0 e.1) lists.exports

-- the world that is included can be
abbrev pub CanBeIncluded : PartiallyLinked → WorldInclude → Type 0
CanBeIncluded b include =
    (old : World) → IsIncluded b include old → CanInclude b.graph include.id old

-- ---- all includes of a world, one after another

-- include j is refused for this reason, and none before it is
pub record StopsAtInclude (home : ℕ) (g : Graph) (world : World) (includes : List WorldInclude)
    (j : ℕ) (kind : ResolveErrorKind) : Type 0 where
  pub include : WorldInclude
  pub is : slice_get includes j ≡ Some include
  pub earlier : (i : ℕ) → i < j → IsAcceptedAt home g world includes i
  pub cause : IsCauseOfInclude home (with_several home g world (take j includes)) include kind

-- each of the includes can be made, where those before it are accepted
pub record CanIncludeAll (home : ℕ) (g : Graph) (world : World)
    (includes : List WorldInclude) : Type 0 where
  pub there : (j : ℕ) (include : WorldInclude) → slice_get includes j ≡ Some include
      → ((i : ℕ) → i < j → IsAcceptedAt home g world includes i) → include.id < length g.worlds
  pub own_keys : HaveOwnKeys (lists_of world)
  pub each : (j : ℕ) (include : WorldInclude) → slice_get includes j ≡ Some include
      → ((i : ℕ) → i < j → IsAcceptedAt home g world includes i)
      → CanBeIncluded (with_several home g world (take j includes)) include

-- ---- a world, finished

-- the world can be begun, and finished where its includes are accepted
pub record CanBeAdded (home : ℕ) (g : Graph) (world : World) (includes : List WorldInclude) : Type 0
  where
    pub graph : IsPartiallyLinked g
    pub begins : CanIncludeAll home g world includes
    pub finishes : ((j : ℕ) → IsAcceptedAt home g world includes j)
        → CanBeLinked (with_several home g world includes)

-- no interface comes twice under its own key
abbrev pub ComeOnce : List Entry → Type 0
ComeOnce brought =
    (i j n : ℕ) (v w : WorldItem) → slice_get brought i ≡ Some (key.Interface n, v)
    → slice_get brought j ≡ Some (key.Interface n, w) → i ≡ j

-- under the key of interface i stands an interface with this stability
abbrev pub StandsWith : List Entry → ℕ → Stability → Type 0
StandsWith entries i stability =
    (id : ℕ) × (docs : Docs) × (place : OptionalSpan) × (external_id : Option (List ℕ))
    × Contains entries (key.Interface i, item.Interface id stability docs place external_id)

-- the stabilities of an interface that is there and comes again disagree; `other` tells whether it comes from a world
-- of another package, whose `@since` says nothing here
pub record StabilitiesDiffer (other : Bool) (current brought : List Entry)
    (brings has : Stability) : Type 0 where
  pub i : ℕ
  pub there : StandsWith current i has
  pub comes : StandsWith brought i brings
  pub apart : Disagree brings has
  pub counts : include_stability other brings has ≡ brings

-- an item joins one that is there: their stabilities don't disagree, where both are interfaces
abbrev pub ItemsAgree : Bool → WorldItem → WorldItem → Type 0
ItemsAgree other (item.Interface i from docs place external_id)
    (item.Interface i' into docs' place' external_id') = Disagree from into →
    include_stability other from into ≡ from → ⊥
ItemsAgree other from into = Unit {0}

-- the error of two items whose stabilities disagree
abbrev pub IsItemError : Bool → OptionalSpan → WorldItem → WorldItem → ResolveErrorKind → Type 0
IsItemError other span (item.Interface i from docs place external_id)
    (item.Interface i' into docs' place' external_id') kind =
    (kind ≡ StabilityMismatch span from into) × Disagree from into
    × (include_stability other from into ≡ from)
IsItemError other span from into kind = ⊥

-- `IsJoinCause` of a list and of copies that are brought to it
pub data IsJoinError (other : Bool) (span : OptionalSpan) (word : List ℕ)
    (current brought : List Entry) : ResolveErrorKind → Type 0 where
  item_shadowing_7 : (name : List ℕ) → IsShadowed current (keys_of brought) name
      → IsJoinError other span word current brought (ItemShadowing span word name)
  stability_mismatch_8 : (brings has : Stability)
      → StabilitiesDiffer other current brought brings has
      → IsJoinError other span word current brought (StabilityMismatch span brings has)

-- no cause holds against joining them
pub record JoinIsAccepted (other : Bool) (span : OptionalSpan) (word : List ℕ)
    (current brought : List Entry) : Type 0 where
  pub no_cause : NoCause (IsJoinError other span word current brought)

-- no cause of labels holds against a list
pub record ListIsAccepted (world word : List ℕ) (entries : List Entry) : Type 0 where
  pub no_cause : NoCause (IsListCause world word entries)

-- so of the lists of a world
pub record LabelsAreAccepted (world : World) : Type 0 where
  pub imports : ListIsAccepted world.name (codes "import") world.imports
  pub exports : ListIsAccepted world.name (codes "export") world.exports
