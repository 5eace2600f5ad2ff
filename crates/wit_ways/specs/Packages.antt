-- What leads where in a package that comes: which packages it names, which interface uses which, what worlds export, and what
-- they include. At spans so many positions further on.
use Rattle.std.specs.Prelude.{ℕ, ◌==◌, Bool, false, List, [], ◌∷◌, ◌++◌, length, map, flat_map, filter_map, find, slice_get, Option, None, option_and_then, option_map, if◌then◌else◌}
use Rattle.std.specs.List.{list_any, range_with_len}
use Rattle.std.specs.Option.{option_map_or}
use Rattle.wit_sources.specs.Span.{OptionalSpan}
use Rattle.wit_names.specs.PackageName.{package_name_text}
use Rattle.wit_names.specs.declared.package_name.PackageName.{PackageName}
use Rattle.wit_data.specs.Foreign.{ForeignItem, ForeignItems}
use Rattle.wit_data.specs.declared.interface.Interface.{Interface}
use Rattle.wit_data.specs.declared.unresolved.AstItem.{AstItem}
use Rattle.wit_data.specs.declared.unresolved.AstItem.TheVariants as item
use Rattle.wit_data.specs.declared.unresolved.UnresolvedPackage.{UnresolvedPackage}
use Rattle.wit_data.specs.declared.world.World.{World}
use Rattle.wit_data.specs.declared.world.WorldInclude.{WorldInclude}
use Rattle.wit_graph_data.specs.declared.features.Features.{Features}
use Rattle.wit_link_spec.specs.Gates.{is_active}
use Rattle.wit_ways.specs.Arrows.{item_text, placed, uses_in, world_arrows}
use Rattle.wit_ways.specs.declared.arrow.Arrow.{Arrow}
use Rattle.wit_ways.specs.declared.entries.WorldSide.TheVariants.{Exports}
use Rattle.wit_ways.specs.declared.include.Include.{Include}
use Rattle.wit_ways.specs.declared.world_name.WorldPlace.{WorldPlace}

-- ---- names

-- two ids are those of one interface, or of one world
abbrev pub is_item : AstItem → AstItem → Bool
is_item (item.Interface a) (item.Interface b) = a == b
is_item (item.World a) (item.World b) = a == b
is_item _ _ = false

-- it is among those that are named of another package
abbrev pub names_item : AstItem → List ForeignItem → Bool
names_item it items = list_any (λ (named : ForeignItem). is_item it named.1.0) items

-- the name of the package of an interface or a world: the other one of which it is named, or else this one
abbrev pub item_home : UnresolvedPackage → AstItem → PackageName
item_home p it =
    option_map_or (λ (e : PackageName × List ForeignItem). e.0)
    (find (λ (e : PackageName × List ForeignItem). names_item it e.1) p.foreign_deps) p.name

-- what interface i is called: by its package and its name, where it has one
abbrev pub interface_name : UnresolvedPackage → ℕ → Option (List ℕ)
interface_name p i =
    option_and_then (λ (interface : Interface).
    option_map (item_text (item_home p (item.Interface i))) interface.name)
    (slice_get p.interfaces i)

abbrev pub interface_names : UnresolvedPackage → List (Option (List ℕ))
interface_names p = map (interface_name p) (range_with_len 0 (length p.interfaces))

-- where world w stands, by its package and its name
abbrev pub package_world : ℕ → UnresolvedPackage → ℕ → Option WorldPlace
package_world offset p w =
    option_map (λ (world : World).
    record {
      span = placed offset world.span;
      world = record { «package» = item_home p (item.World w); name = world.name };
    })
    (slice_get p.worlds w)

-- ---- arrows

-- the packages that one names, each at its span
abbrev pub dependencies_by : ℕ → List ℕ → ForeignItems → List OptionalSpan → List Arrow
dependencies_by offset from [] spans = []
dependencies_by offset from (e ∷ deps) [] = []
dependencies_by offset from (e ∷ deps) (span ∷ spans) =
    record { from = from; to = package_name_text e.0; span = placed offset span }
    ∷ dependencies_by offset from deps spans

abbrev pub package_dependencies : ℕ → UnresolvedPackage → List Arrow
package_dependencies offset p =
    dependencies_by offset (package_name_text p.name) p.foreign_deps p.foreign_dep_spans

-- which interface uses which, and what worlds export, where that is active
abbrev pub package_arrows : Features → ℕ → UnresolvedPackage → List Arrow
package_arrows features offset p =
    uses_in features offset p.types p.interfaces (interface_names p)
    ++ flat_map (world_arrows features offset (interface_names p) Exports p.name) p.worlds

-- ---- worlds

-- where the worlds stand that a package has or names
abbrev pub package_worlds : ℕ → UnresolvedPackage → List WorldPlace
package_worlds offset p = filter_map (package_world offset p) (range_with_len 0 (length p.worlds))

-- that a world includes another, where the include is active
abbrev pub include_of : Features → ℕ → UnresolvedPackage → World → WorldInclude → Option Include
include_of features offset p world i =
    if is_active features i.stability
    then option_map (λ (it : WorldPlace).
    record {
      world = record { «package» = p.name; name = world.name };
      included = it.world;
      names = i.names;
      span = placed offset i.span;
    }) (package_world offset p i.id)
    else None

-- what worlds include
abbrev pub package_includes : Features → ℕ → UnresolvedPackage → List Include
package_includes features offset p =
    flat_map (λ (world : World). filter_map (include_of features offset p world) world.includes)
    p.worlds
