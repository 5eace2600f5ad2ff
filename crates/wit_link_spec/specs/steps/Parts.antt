-- Parts of the definitions under names of their own, for contracts of inner functions and for proofs. Each is what stands
-- in a definition in its place, so none has to be believed.
use Rattle.std.specs.Prelude.{◌≡◌, ◌⊎◌, ℕ, true, Some, List, ◌++◌, codes, Bool, flat_map, ◌+◌, ◌&&◌, length, nat_eq, if◌then◌else◌, [], ◌∷◌, Option, None, ◌<◌, map, filter, take, slice_get, ◌≤◌, ◌^◌, Contains}
use Rattle.wit_digraph.specs.Relation.{Reaches}
use Rattle.wit_graph_data.specs.Queries.{type_contents}
use Rattle.wit_link_spec.specs.Addition.{Addition, addition_maps, own_type, own_worlds, remapped_world, own_world, own_interface, updated_includes}
use Rattle.wit_remap_spec.specs.Borrows.{HoldsBorrow}
use Rattle.wit_link_spec.specs.Gates.{type_is_active, is_active, is_foreign_interface, is_foreign_world, interface_is_active, world_is_active, package_spans}
use Rattle.wit_link_spec.specs.Lookup.{foreign_type_id, foreign_interface_id, foreign_world_id, is_foreign_type}
use Rattle.semver.specs.Identifiers.{parts_text}
use Rattle.wit_values.specs.Version.{Parts}
use Rattle.wit_names.specs.PackageName.{package_name_text}
use Rattle.wit_names.specs.declared.package_name.PackageName.{PackageName}
use Rattle.std.specs.List.{list_any}
use Rattle.wit_data.specs.Foreign.{ForeignItem, ForeignItems}
use Rattle.wit_data.specs.declared.function.Function.{Function}
use Rattle.wit_data.specs.declared.stability.Stability.{Stability}
use Rattle.wit_data.specs.declared.world.WorldInclude.{WorldInclude}
use Rattle.wit_graph_data.specs.declared.features.Features.{Features}
use Rattle.wit_data.specs.declared.types.TypeDef.{TypeDef}
use Rattle.wit_remap_spec.specs.Selected.{selected, rank}
use Rattle.wit_digraph.specs.PostOrder.{post_order}
use Rattle.wit_data.specs.Entries.{Entry}
use Rattle.wit_data.specs.Kind.{type_references, function_references}
use Rattle.wit_data.specs.declared.world.World.{World}
use Rattle.wit_data.specs.declared.world.WorldKey.{WorldKey}
use Rattle.wit_elaboration.specs.Entries.{same_key}
use Rattle.wit_graph_data.specs.declared.graph.Graph.{Graph}
use Rattle.wit_link_spec.specs.Include.{belongs_to, is_owned_within, lists_of, named_types, PartiallyLinked, with_entry_lists, with_several, with_world_included}
use Rattle.wit_sources.specs.Span.{moved_by}
use Rattle.wit_labels.specs.Setters.{setters_placed}
use Rattle.wit_link_spec.specs.Added.{finished_world, with_worlds}
use Rattle.wit_remap_spec.specs.Image.{world_image}
use Rattle.wit_graph_data.specs.Error.{NoCause}
use Rattle.wit_link_spec.specs.WorldReasons.{IsAcceptedAt, IsCauseAtWorld}
use Rattle.wit_link_spec.specs.Cause.{IsAdditionCause}
use Rattle.std.specs.Option.{option_map_or}
use Rattle.wit_data.specs.declared.world.IncludeName.{IncludeName}
use Rattle.wit_data.specs.declared.interface.Interface.{Interface}
use Rattle.wit_elaboration.specs.Elaboration.{graph_uses}
use Rattle.wit_elaboration.specs.Imported.{HasTransitiveConflict, IsRefusedName}

-- the values of type t of the package hold a borrow: one of the package, or in a foreign type one of the graph
abbrev pub MayHoldBorrow : Addition → ℕ → Type 0
MayHoldBorrow a t =
    HoldsBorrow a.unresolved.types t
    ⊎ ((s : ℕ) × (s' : ℕ) × Reaches (type_contents a.unresolved.types) t s
    × (type_is_active a.features a.unresolved.types s ≡ true)
    × (foreign_type_id a.graph a.unresolved s ≡ Some s') × HoldsBorrow a.graph.types s')

-- 9: a `@since` in a package without a version
abbrev pub gate_without_version_text : PackageName → List ℕ
gate_without_version_text name =
    codes "package ["
    ++ (package_name_text name
    ++ codes "] contains a feature gate with a version specifier, so it must have a version")

-- 10: a `@since` past the package's version
abbrev pub gate_unreleased_text : Parts → PackageName → Parts → List ℕ
gate_unreleased_text since name version =
    codes "feature gate cannot reference unreleased version "
    ++ (parts_text since
    ++ (codes " of package ["
    ++ (package_name_text name
    ++ (codes "] (current version " ++ (parts_text version ++ codes ")")))))

-- 13: a type that its interface doesn't have
abbrev pub type_not_defined_text : List ℕ → List ℕ
type_not_defined_text name = codes "type `" ++ (name ++ codes "` not defined in interface")

-- 14: a handle of what is no resource
abbrev pub not_a_resource_text : List ℕ
not_a_resource_text = codes "type used in a handle must be a resource"

-- some gate lets the item be active
abbrev pub some_active : Features → List Stability → Bool
some_active features notes = list_any (is_active features) notes

-- what is named of other packages, one after another
abbrev pub foreign_items : ForeignItems → List ForeignItem
foreign_items deps = flat_map (λ (e : PackageName × List ForeignItem). e.1) deps

-- a function of an active interface or world is active where its gate is
abbrev pub function_is_active : Features → Function → Bool
function_is_active features f = is_active features f.stability

-- an include of an active world is active where its gate is
abbrev pub include_is_active : Features → WorldInclude → Bool
include_is_active features i = is_active features i.stability

-- the own active types of the package
abbrev pub own_types : Addition → List TypeDef
own_types a = selected (own_type a) a.unresolved.types

-- is type t on a way from what an entry of world w names to a type that belongs to the world? It is reached from the
-- one, and the other from it
abbrev pub is_on_way : Graph → ℕ → World → ℕ → Bool
is_on_way g w world t =
    list_any (nat_eq t) (named_types g world)
    && list_any (is_owned_within g w world) (post_order (type_references g.types) t)

abbrev pub interface_copy : Graph → World → ℕ → ℕ
interface_copy g world i =
    if belongs_to g world i then length g.interfaces + rank (belongs_to g world) i else i

-- does a list have an entry under this key?
abbrev pub has_key : List Entry → WorldKey → Bool
has_key entries k = list_any (λ (e : Entry). same_key k e.0) entries

-- the includes of a world that are active
abbrev pub active_includes : Addition → World → List WorldInclude
active_includes a world = filter (include_is_active a.features) world.includes

-- an include of the package with the id and the span that it has in the graph
abbrev pub updated_include : Addition → WorldInclude → WorldInclude
updated_include a include =
    record include { id = remapped_world a include.id; span = moved_by a.offset include.span }

-- a graph and the lists of the world that comes next, with world `from` included, or as they are where there is no
-- such world
abbrev pub with_include_of : ℕ → ℕ → List IncludeName → ℕ → PartiallyLinked → PartiallyLinked
with_include_of home into names from b =
    option_map_or (λ (world : World). with_world_included home into names from world b)
    (slice_get b.graph.worlds from) b

-- what is begun of a world, with an include more
abbrev pub with_one : ℕ → PartiallyLinked → WorldInclude → PartiallyLinked
with_one home b include = with_include_of home (length b.graph.worlds) include.names include.id b

-- a world that comes next in a graph, before its includes
abbrev pub before_includes : Graph → World → PartiallyLinked
before_includes g world = record { graph = g; lists = lists_of world }

-- a world with its setters after their getters
abbrev pub with_setters_placed : World → World
with_setters_placed world =
    record world { imports = setters_placed world.imports; exports = setters_placed world.exports }

-- the graph with a world behind its worlds, finished
abbrev pub with_finished : Graph → World → Graph
with_finished g world = record g { worlds = g.worlds ++ finished_world g world ∷ [] }

-- the graph with a world behind its worlds that has these includes
abbrev pub with_including : ℕ → Graph → World → List WorldInclude → Graph
with_including home g world includes =
    let b = with_several home g world includes in
    with_finished b.graph (with_entry_lists world b.lists)

-- ---- worlds of a package

-- the package that is added
abbrev pub home_of : Addition → ℕ
home_of a = length a.graph.packages

-- world w of the package, as it comes into the graph
abbrev pub image_at : Addition → ℕ → World → World
image_at a w world = world_image (addition_maps a) w world

-- world k of those that are active
pub record AtWorld (a : Addition) (k : ℕ) : Type 0 where
  pub id : ℕ
  pub world : World
  pub is : slice_get (own_worlds a) k ≡ Some (id, world)

-- what is begun of it with so many of its includes
abbrev pub begun : (a : Addition) (k j : ℕ) → AtWorld a k → PartiallyLinked
begun a k j at =
    with_several (home_of a) (with_worlds a k) (image_at a at.id at.world)
    (take j (updated_includes a at.world))

-- and with all
abbrev pub begun_whole : (a : Addition) (k : ℕ) → AtWorld a k → PartiallyLinked
begun_whole a k at =
    with_several (home_of a) (with_worlds a k) (image_at a at.id at.world)
    (updated_includes a at.world)

-- 16: a renaming of nothing
abbrev pub rename_text : List ℕ → List ℕ
rename_text name =
    codes "no import or export kebab-name `"
    ++ (name ++ codes "`. Note that an ID does not support renaming")

-- include j of world k is accepted: no cause holds against it
abbrev pub IncludeIsAccepted : Addition → ℕ → ℕ → Type 0
IncludeIsAccepted a k j =
    (at : AtWorld a k)
    → IsAcceptedAt (home_of a) (with_worlds a k) (image_at a at.id at.world)
    (updated_includes a at.world) j

-- world k is accepted: no cause holds against it
abbrev pub WorldIsAccepted : Addition → ℕ → Type 0
WorldIsAccepted a k = NoCause (IsCauseAtWorld a k)

-- no cause holds against the addition
abbrev pub AdditionIsAccepted : Addition → Type 0
AdditionIsAccepted a = NoCause (IsAdditionCause a)

-- what a type is remapped to: nowhere if it isn't active; one of another package to that of the graph which it names,
-- if that is there; one of its own to the next id
abbrev pub active_type_id : Addition → ℕ → Option ℕ
active_type_id a t =
    if type_is_active a.features a.unresolved.types t
    then (if is_foreign_type a.unresolved t then foreign_type_id a.graph a.unresolved t
    else Some (length a.graph.types + rank (own_type a) t))
    else None

-- the id of interface i of the package in the graph: of an active foreign one where it is found, of an own active one
-- the next id
abbrev pub active_interface_id : Addition → ℕ → Option ℕ
active_interface_id a i =
    if interface_is_active a.features a.unresolved i
    then (if is_foreign_interface a.unresolved i then foreign_interface_id a.graph a.unresolved i
    else Some (length a.graph.interfaces + rank (own_interface a) i))
    else None

-- the id of world w of the package in the graph: of an active foreign one where it is found, of an own active one the
-- next id
abbrev pub active_world_id : Addition → ℕ → Option ℕ
active_world_id a w =
    if world_is_active a.features a.unresolved w
    then (if is_foreign_world a.unresolved w then foreign_world_id a.graph a.unresolved w
    else Some (length a.graph.worlds + rank (own_world a) w))
    else None

-- every world before world k is accepted
abbrev pub IsReached : Addition → ℕ → Type 0
IsReached a k = (i : ℕ) → i < k → NoCause (IsCauseAtWorld a i)

-- the types that an interface names: those of its list, and those that its functions refer to
abbrev pub interface_mentions : Interface → List ℕ
interface_mentions interface =
    map (λ (e : List ℕ × ℕ). e.1) interface.types
    ++ flat_map (λ (e : List ℕ × Function). function_references e.1) interface.functions

-- a span of the package would end past 4294967295
pub record AdditionOverflows (a : Addition) : Type 0 where
  pub from : ℕ
  pub to : ℕ
  pub known : Contains (package_spans a.unresolved) (Some (from, to))
  pub past : 2 ^ 32 ≤ to + a.offset

-- 4: what its exports need from outside is exported; by the name of the first export that leads there
pub record WorldIsInConflict (g : Graph) (world : World) (name : List ℕ) : Type 0 where
  pub conflict : HasTransitiveConflict (graph_uses g) (setters_placed world.exports)
  pub name_is : IsRefusedName g.packages g.interfaces (graph_uses g) (setters_placed world.exports)
      name
