-- What a package names of other packages, and where the graph has it. The package that is added counts as
-- there and empty: nothing is ever found under its own name.
-- Source: `process_foreign_deps` of wit-parser 0.263.0.
use Rattle.std.specs.Prelude.{ℕ, Bool, List, map, nat_eq, nat_lt, find, length, slice_get, Option, None, Some, option_and_then, if◌then◌else◌, flat_map}
use Rattle.std.specs.List.{enumerate_from, list_any}
use Rattle.std.specs.Map.{lookup}
use Rattle.wit_data.specs.Foreign.{ForeignItem, ForeignItems, interface_id, world_id}
use Rattle.wit_names.specs.PackageName.{same_package}
use Rattle.wit_data.specs.declared.unresolved.AstItem.{AstItem}
use Rattle.wit_names.specs.declared.package_name.PackageName.{PackageName}
use Rattle.wit_data.specs.declared.types.TypeDef.{TypeDef}
use Rattle.wit_data.specs.declared.types.TypeOwner.{TypeOwner}
use Rattle.wit_data.specs.declared.unresolved.UnresolvedPackage.{UnresolvedPackage}
use Rattle.wit_data.specs.declared.types.TypeOwner.TheVariants as owner
use Rattle.wit_graph_data.specs.Named.{interface_in, world_in, interface_type}
use Rattle.wit_graph_data.specs.declared.graph.Graph.{Graph}

-- ---- what is named

-- what is named of other packages: the index and the name of the package, and the item
abbrev pub named_items : ForeignItems → List (ℕ × PackageName × ForeignItem)
named_items deps =
    flat_map (λ (e : ℕ × (PackageName × List ForeignItem)).
    map (λ (i : ForeignItem). (e.0, e.1.0, i)) e.1.1) (enumerate_from 0 deps)

-- what names the thing of this id, among interfaces or among worlds
abbrev pub naming_item : (AstItem → List ℕ) → UnresolvedPackage → ℕ
    → Option (ℕ × PackageName × ForeignItem)
naming_item ids u id =
    find (λ (e : ℕ × PackageName × ForeignItem). list_any (nat_eq id) (ids e.2.1.0))
    (named_items u.foreign_deps)

-- the types of other packages are the first ones
abbrev pub is_foreign_type : UnresolvedPackage → ℕ → Bool
is_foreign_type u t = nat_lt t (length u.unknown_type_spans)

-- ---- where it is

-- the package of this name, but never the one that is added
abbrev pub find_package : Graph → PackageName → PackageName → Option ℕ
find_package g own name =
    if same_package own name then None else lookup (same_package name) g.package_names

-- the interface of this name in it
abbrev pub find_interface : Graph → PackageName → PackageName → List ℕ → Option ℕ
find_interface g own home name = option_and_then (interface_in g name) (find_package g own home)

-- the world of this name in it
abbrev pub find_world : Graph → PackageName → PackageName → List ℕ → Option ℕ
find_world g own home name = option_and_then (world_in g name) (find_package g own home)

-- the interface of the graph that foreign interface i of the package names
abbrev pub foreign_interface_id : Graph → UnresolvedPackage → ℕ → Option ℕ
foreign_interface_id g u i =
    option_and_then (λ (e : ℕ × PackageName × ForeignItem). find_interface g u.name e.1 e.2.0)
    (naming_item interface_id u i)

-- the world of the graph that foreign world w of the package names
abbrev pub foreign_world_id : Graph → UnresolvedPackage → ℕ → Option ℕ
foreign_world_id g u w =
    option_and_then (λ (e : ℕ × PackageName × ForeignItem). find_world g u.name e.1 e.2.0)
    (naming_item world_id u w)

-- the foreign interface that owns a foreign type
abbrev pub owning_interface : TypeOwner → Option ℕ
owning_interface (owner.Interface i) = Some i
owning_interface (owner.World w) = None
owning_interface owner.None = None

-- the type of the graph that foreign type t of the package names: in the interface that its owner names, under its name
abbrev pub foreign_type_id : Graph → UnresolvedPackage → ℕ → Option ℕ
foreign_type_id g u t =
    option_and_then (λ (def : TypeDef). option_and_then (λ (name : List ℕ).
    option_and_then (λ i. option_and_then (interface_type g name) (foreign_interface_id g u i))
    (owning_interface def.owner)) def.name) (slice_get u.types t)
