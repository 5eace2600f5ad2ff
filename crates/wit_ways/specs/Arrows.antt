-- What leads where in a graph or a package: each name as refusals tell it. Indices count from 0.
use Rattle.std.specs.Prelude.{ℕ, ◌+◌, ◌^◌, nat_lt, true, List, [], ◌++◌, length, map, flat_map, filter_map, slice_get, Option, None, Some, option_and_then, option_map, bytes_eq, codes, if◌then◌else◌}
use Rattle.std.specs.List.{range_with_len}
use Rattle.std.specs.Option.{option_map_or}
use Rattle.wit_sources.specs.Span.{OptionalSpan, end_of, moved_by}
use Rattle.wit_names.specs.PackageName.{package_name_text, version_suffix}
use Rattle.wit_names.specs.declared.package_name.PackageName.{PackageName}
use Rattle.wit_data.specs.Entries.{Entry}
use Rattle.wit_data.specs.Uses.{type_interface_dep}
use Rattle.wit_data.specs.declared.interface.Interface.{Interface}
use Rattle.wit_data.specs.declared.types.TypeDef.{TypeDef}
use Rattle.wit_data.specs.declared.world.World.{World}
use Rattle.wit_data.specs.declared.world.WorldItem.{WorldItem}
use Rattle.wit_data.specs.declared.world.WorldItem.TheVariants as item
use Rattle.wit_data.specs.declared.world.WorldKey.{WorldKey}
use Rattle.wit_data.specs.declared.world.WorldKey.TheVariants as key
use Rattle.wit_graph_data.specs.Queries.{package_direct_deps}
use Rattle.wit_graph_data.specs.declared.features.Features.{Features}
use Rattle.wit_graph_data.specs.declared.graph.Graph.{Graph}
use Rattle.wit_graph_data.specs.declared.graph.Package.{Package}
use Rattle.wit_link_spec.specs.Gates.{is_active}
use Rattle.wit_ways.specs.declared.arrow.Arrow.{Arrow}
use Rattle.wit_ways.specs.declared.entries.WorldSide.{WorldSide}
use Rattle.wit_ways.specs.declared.entries.WorldSide.TheVariants as side

-- ---- names and spans

-- `namespace:package/name`, and `@version` where there is one
abbrev pub item_text : PackageName → List ℕ → List ℕ
item_text p name =
    p.namespace ++ (codes ":" ++ (p.name ++ (codes "/" ++ (name ++ version_suffix p.version))))

-- what interface i is called, by the names of interfaces
abbrev pub called : List (Option (List ℕ)) → ℕ → Option (List ℕ)
called names i = option_and_then (λ name. name) (slice_get names i)

-- a span so many positions further on; unknown where it would pass 4294967295
abbrev pub placed : ℕ → OptionalSpan → OptionalSpan
placed offset span = if nat_lt (end_of span + offset) (2 ^ 32) then moved_by offset span else None

-- from one name to another, where both are there and differ
abbrev pub arrow_between : Option (List ℕ) → OptionalSpan → Option (List ℕ) → Option Arrow
arrow_between (Some from) span (Some to) =
    if bytes_eq from to then None else Some (record { from = from; to = to; span = span })
arrow_between _ span _ = None

-- ---- interfaces: under features, by types and by names of interfaces, at spans so many positions further on

-- what interface i uses by type id, where the type is active
abbrev pub use_arrow : Features → ℕ → List TypeDef → List (Option (List ℕ)) → ℕ → ℕ → Option Arrow
use_arrow features offset types names i id =
    option_and_then
    (λ (def : TypeDef).
    if is_active features def.stability
    then option_and_then (λ used. arrow_between (called names i) (placed offset def.span)
    (called names used)) (type_interface_dep types id) else None)
    (slice_get types id)

-- what interface i uses
abbrev pub interface_arrows : Features → ℕ → List TypeDef → List Interface → List (Option (List ℕ))
    → ℕ → List Arrow
interface_arrows features offset types interfaces names i =
    option_map_or (λ (interface : Interface).
    filter_map (λ (e : List ℕ × ℕ). use_arrow features offset types names i e.1)
    interface.types) (slice_get interfaces i) []

-- what all use
abbrev pub uses_in : Features → ℕ → List TypeDef → List Interface → List (Option (List ℕ))
    → List Arrow
uses_in features offset types interfaces names =
    flat_map (interface_arrows features offset types interfaces names)
    (range_with_len 0 (length interfaces))

-- ---- worlds

-- what has what stands under a key of a world: `world.label`. An interface's own key counts as the empty label, `world.`,
-- which is no interface's name
abbrev pub holder : List ℕ → WorldKey → List ℕ
holder world (key.Interface i) = world ++ codes "."
holder world (key.Name label) = world ++ (codes "." ++ label)

-- the imports of a world, or its exports
abbrev pub listed_by : WorldSide → World → List Entry
listed_by side.Imports world = world.imports
listed_by side.Exports world = world.exports

-- that a label of the world of a name in a package is that of an interface, where the entry is active
abbrev pub held_by : Features → ℕ → List (Option (List ℕ)) → PackageName → List ℕ → Entry
    → Option Arrow
held_by features offset names home world (k, item.Interface i stability docs span external_id) =
    if is_active features stability
    then option_map (λ to.
    record
    { from = item_text home (holder world k); to = to; span = placed offset span })
    (called names i)
    else None
held_by features offset names home world (k, _) = None

-- what a world of a package has on a side
abbrev pub world_arrows : Features → ℕ → List (Option (List ℕ)) → WorldSide → PackageName → World
    → List Arrow
world_arrows features offset names on home world =
    filter_map (held_by features offset names home world.name) (listed_by on world)

-- ---- graphs

-- all features: in a graph all is active
abbrev pub all_on : Features
all_on = record { names = []; all = true }

-- the name of the package of an id, and its text
abbrev pub home_of : List Package → Option ℕ → Option PackageName
home_of packages p =
    option_map (λ (home : Package). home.name) (option_and_then (slice_get packages) p)

abbrev pub home_text : List Package → Option ℕ → Option (List ℕ)
home_text packages p = option_map package_name_text (home_of packages p)

-- for each interface the text of the name of its package
abbrev pub home_texts : Graph → List (Option (List ℕ))
home_texts g = map (λ (interface : Interface). home_text g.packages interface.package) g.interfaces

-- what each interface is called: by its package and its name, where it has both
abbrev pub interface_text : List Package → Interface → Option (List ℕ)
interface_text packages interface =
    option_and_then
    (λ name. option_map (λ home. item_text home name) (home_of packages interface.package))
    interface.name

abbrev pub interface_texts : Graph → List (Option (List ℕ))
interface_texts g = map (interface_text g.packages) g.interfaces

-- what package p depends on, by whatever lines
abbrev pub package_arrows : Graph → ℕ → List Arrow
package_arrows g p =
    filter_map
    (λ q. arrow_between (home_text g.packages (Some p)) None (home_text g.packages (Some q)))
    (package_direct_deps g.types g.interfaces g.worlds g.packages p)

-- the interface that an entry of a world names, itself or by a type that it uses, and the span of the entry
abbrev pub named_by : Graph → WorldItem → Option (ℕ × OptionalSpan)
named_by g (item.Interface i stability docs span external_id) = Some (i, span)
named_by g (item.Type_ id span) = option_map (λ used. (used, span)) (type_interface_dep g.types id)
named_by g _ = None

-- that a package depends on another by an entry of a world, where the entry stands somewhere
abbrev pub dependency_of : ℕ → Graph → List (Option (List ℕ)) → Option (List ℕ) → WorldItem
    → Option Arrow
dependency_of offset g homes from entry =
    option_and_then (λ (named : ℕ × OptionalSpan).
    option_and_then
    (λ range. arrow_between from (placed offset (Some range)) (called homes named.0))
    named.1) (named_by g entry)

-- which package depends on which by an entry of a world on a side
abbrev pub world_dependencies : ℕ → Graph → List (Option (List ℕ)) → WorldSide → List Arrow
world_dependencies offset g homes on =
    flat_map (λ (world : World).
    filter_map
    (λ (e : Entry). dependency_of offset g homes (home_text g.packages world.package) e.1)
    (listed_by on world)) g.worlds

-- what the worlds of a graph have on a side
abbrev pub entries_in : Features → ℕ → Graph → List (Option (List ℕ)) → WorldSide → List Arrow
entries_in features offset g names on =
    flat_map (λ (world : World).
    option_map_or (λ home. world_arrows features offset names on home world)
    (home_of g.packages world.package) []) g.worlds

-- what leads where in a graph: which package depends on which, once more by entries of worlds and by types that are used,
-- which interface uses which, and what worlds have on a side
abbrev pub graph_arrows : ℕ → Graph → WorldSide → List Arrow
graph_arrows offset g on =
    flat_map (package_arrows g) (range_with_len 0 (length g.packages))
    ++ (world_dependencies offset g (home_texts g) side.Imports
    ++ (world_dependencies offset g (home_texts g) side.Exports
    ++ (uses_in all_on offset g.types g.interfaces (home_texts g)
    ++ (uses_in all_on offset g.types g.interfaces (interface_texts g) ++ entries_in all_on offset g
    (interface_texts g) on))))
