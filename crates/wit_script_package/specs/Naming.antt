-- What the names in the lines of a package name.
use Rattle.std.specs.Prelude.{ℕ, ◌-◌, ◌==◌, List, length, slice_get, Option, Some, None, option_and_then, if◌then◌else◌, option_map, bytes_eq}
use Rattle.std.specs.Map.{lookup}
use Rattle.wit_names.specs.PackageName.{same_package}
use Rattle.wit_data.specs.Entries.{item_type}
use Rattle.wit_data.specs.declared.unresolved.AstItem.{AstItem}
use Rattle.wit_data.specs.declared.interface.Interface.{Interface}
use Rattle.wit_names.specs.declared.package_name.PackageName.{PackageName}
use Rattle.wit_names.specs.declared.use_path.ParsedUsePath.{ParsedUsePath}
use Rattle.wit_data.specs.declared.stability.Stability.{Stability}
use Rattle.wit_data.specs.declared.world.World.{World}
use Rattle.wit_data.specs.declared.unresolved.AstItem.TheVariants as foreign
use Rattle.wit_names.specs.declared.use_path.ParsedUsePath.TheVariants as path
use Rattle.wit_data.specs.declared.world.WorldKey.TheVariants as key
pub use Rattle.wit_data.specs.facts.WorldKeyFacts.{same_key}
pub use Rattle.wit_sources.specs.Span.{OptionalSpan}
use Rattle.wit_script_package.specs.declared.draft.Draft.{Draft}
use Rattle.wit_script_package.specs.declared.draft.Scope.{Scope}
use Rattle.wit_script_package.specs.declared.draft.Scope.TheVariants as scope

-- the place before so many
abbrev pub last_place : ℕ → Option ℕ
last_place count = if count == 0 then None else Some (count - 1)

-- the place of the interface into which lines go: the last, where an interface was begun last
abbrev pub open_interface_index : Draft → Scope → Option ℕ
open_interface_index p scope.Interface = last_place (length p.interfaces)
open_interface_index p _ = None

abbrev pub open_interface : Draft → Option ℕ
open_interface p = open_interface_index p p.scope

-- the place of the world into which lines go: the last, where a world was begun last
abbrev pub open_world_index : Draft → Scope → Option ℕ
open_world_index p scope.World = last_place (length p.worlds)
open_world_index p _ = None

abbrev pub open_world : Draft → Option ℕ
open_world p = open_world_index p p.scope

-- the type of this name in the interface at a place
abbrev pub type_at : Draft → List ℕ → ℕ → Option ℕ
type_at p name at =
    option_and_then (λ (interface : Interface). lookup (bytes_eq name) interface.types)
    (slice_get p.interfaces at)

-- the earlier type of this name in the interface or the world into which lines go; in a world it is imported
abbrev pub earlier_in : Draft → Scope → List ℕ → Option ℕ
earlier_in p scope.Package name = None
earlier_in p scope.Interface name = option_and_then (type_at p name) (open_interface p)
earlier_in p scope.World name =
    option_and_then (λ at.
    option_and_then (λ (world : World).
    option_and_then item_type (lookup (same_key (key.Name name)) world.imports))
    (slice_get p.worlds at))
    (open_world p)

abbrev pub earlier : Draft → List ℕ → Option ℕ
earlier p name = earlier_in p p.scope name

-- the interface or world of another package that this names
abbrev pub foreign_named : Draft → PackageName → List ℕ → Option AstItem
foreign_named p parent name =
    option_and_then (λ items.
    option_map (λ (named : AstItem × List Stability). named.0)
    (lookup (bytes_eq name) items)) (lookup (same_package parent) p.foreign.deps)

abbrev pub interface_of : AstItem → Option ℕ
interface_of (foreign.Interface id) = Some id
interface_of (foreign.World id) = None

abbrev pub world_of : AstItem → Option ℕ
world_of (foreign.Interface id) = None
world_of (foreign.World id) = Some id

-- the interface that a path names: a foreign one only where its first mention takes it for an interface
abbrev pub interface_named : Draft → ParsedUsePath → Option ℕ
interface_named p (path.Name name) = lookup (bytes_eq name) p.interface_ids
interface_named p (path.Package parent name) =
    option_and_then interface_of (foreign_named p parent name)

-- the world that a path names, likewise
abbrev pub world_named : Draft → ParsedUsePath → Option ℕ
world_named p (path.Name name) = lookup (bytes_eq name) p.world_ids
world_named p (path.Package parent name) = option_and_then world_of (foreign_named p parent name)
