-- What the lines of packages list that are pushed, once a graph has taken the packages.
use Rattle.std.specs.Prelude.{ℕ, zero, suc, Bool, false, List, [], ◌∷◌, Option, filter_map, find, flat_map, fold, length, map, nat_eq, option_and_then, slice_get}
use Rattle.std.specs.List.{enumerate_from}
use Rattle.std.specs.Option.{option_map_or}
use Rattle.wit_data.specs.Foreign.{ForeignItem, ForeignItems}
use Rattle.wit_data.specs.declared.interface.Interface.{Interface}
use Rattle.wit_data.specs.declared.unresolved.AstItem.{AstItem}
use Rattle.wit_data.specs.declared.unresolved.AstItem.TheVariants as item
use Rattle.wit_data.specs.declared.unresolved.UnresolvedPackage.{UnresolvedPackage}
use Rattle.wit_data.specs.declared.unresolved.UnresolvedPackageGroup.{UnresolvedPackageGroup}
use Rattle.wit_data.specs.declared.world.World.{World}
use Rattle.wit_data.specs.declared.world.WorldInclude.{WorldInclude}
use Rattle.wit_elaboration.specs.Entries.{keyed_interfaces}
use Rattle.wit_graph_data.specs.Named.{interface_in, package_named, world_named}
use Rattle.wit_graph_data.specs.declared.graph.Graph.{Graph}
use Rattle.wit_names.specs.declared.package_name.PackageName.{PackageName}
use Rattle.witgraph_dot.specs.Listed.{and_links, listed_for, with_links}

-- ---- the things of a graph that a package names by an index of its own

-- what a package names of others, each with the name of its package
abbrev pub foreign_items : ForeignItems → List (PackageName × ForeignItem)
foreign_items deps =
    flat_map (λ (dep : PackageName × List ForeignItem).
    map (λ (named : ForeignItem). (dep.0, named)) dep.1) deps

-- the interface of this name in the package of that name
abbrev pub interface_by_name : Graph → PackageName → List ℕ → Option ℕ
interface_by_name g owner name = option_and_then (interface_in g name) (package_named g owner)

-- it is the interface of this index
abbrev pub is_interface_item : ℕ → AstItem → Bool
is_interface_item i (item.Interface other) = nat_eq other i
is_interface_item i (item.World other) = false

-- it is the world of this index
abbrev pub is_world_item : ℕ → AstItem → Bool
is_world_item w (item.Interface other) = false
is_world_item w (item.World other) = nat_eq other w

-- interface i of a package: one that it names of another package, or its own
abbrev pub graph_interface : Graph → UnresolvedPackage → ℕ → Option ℕ
graph_interface g p i =
    option_map_or (λ (named : PackageName × ForeignItem). interface_by_name g named.0 named.1.0)
    (find (λ (named : PackageName × ForeignItem). is_interface_item i named.1.1.0)
    (foreign_items p.foreign_deps))
    (option_and_then
    (λ (interface : Interface). option_and_then (interface_by_name g p.name) interface.name)
    (slice_get p.interfaces i))

-- so world w of a package
abbrev pub graph_world : Graph → UnresolvedPackage → ℕ → Option ℕ
graph_world g p w =
    option_map_or (λ (named : PackageName × ForeignItem). world_named g named.0 named.1.0)
    (find (λ (named : PackageName × ForeignItem). is_world_item w named.1.1.0)
    (foreign_items p.foreign_deps))
    (option_and_then (λ (world : World). world_named g p.name world.name) (slice_get p.worlds w))

-- ---- lines

-- the interfaces that the `import` lines of a world list
abbrev pub line_imports : Graph → UnresolvedPackage → World → List ℕ
line_imports g p world = filter_map (graph_interface g p) (keyed_interfaces world.imports)

-- the worlds that its `include` lines include
abbrev pub line_includes : Graph → UnresolvedPackage → World → List ℕ
line_includes g p world =
    filter_map (λ (include : WorldInclude). graph_world g p include.id) world.includes

-- what lines list for the worlds of a package that the graph has, by what they list for one
abbrev pub links_in_package : (Graph → UnresolvedPackage → World → List ℕ) → Graph
    → UnresolvedPackage → List (ℕ × ℕ)
links_in_package lines g p =
    flat_map (λ (at : ℕ × World).
    option_map_or (λ w. map (λ thing. (w, thing)) (lines g p at.1)) (graph_world g p at.0) [])
    (enumerate_from 0 p.worlds)

-- so for those of all packages of groups
abbrev pub group_links : (Graph → UnresolvedPackage → World → List ℕ) → Graph
    → List UnresolvedPackageGroup → List (ℕ × ℕ)
group_links lines g groups =
    flat_map (links_in_package lines g)
    (flat_map (λ (group : UnresolvedPackageGroup). group.main ∷ group.nested) groups)

-- ---- what is listed

-- what is listed for an included world is listed for the world that includes it, by each of some includes in turn, so many
-- times over
abbrev pub repeated : List (ℕ × ℕ) → ℕ → List (ℕ × ℕ) → List (ℕ × ℕ)
repeated includes zero links = links
repeated includes (suc times) links =
    repeated includes times (fold (λ so_far (include : ℕ × ℕ).
    and_links so_far include.0 (listed_for include.1 so_far)) links includes)

-- what is listed after a push of groups: also what their lines list, and along chains of includes, which have no more links than
-- there are lines
abbrev pub pushed : (Graph → UnresolvedPackage → World → List ℕ) → Graph
    → List UnresolvedPackageGroup → List (ℕ × ℕ) → List (ℕ × ℕ)
pushed lines g groups links =
    repeated (group_links line_includes g groups) (length (group_links line_includes g groups))
    (with_links links (group_links lines g groups))
