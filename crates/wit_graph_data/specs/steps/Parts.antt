-- Parts of the definitions under names of their own, for contracts of inner functions and for proofs. Each is what stands
-- in a definition in its place, so none has to be believed.
use Rattle.std.specs.Prelude.{ℕ, Bool, true, false, List, ◌∷◌, ◌++◌, slice_get, if◌then◌else◌, filter_map, Option, option_and_then, option_map}
use Rattle.std.specs.Option.{option_map_or}
use Rattle.wit_data.specs.Kind.{KindPart, referred_in}
use Rattle.wit_data.specs.declared.interface.Interface.{Interface}
use Rattle.wit_names.specs.declared.package_name.PackageName.{PackageName}
use Rattle.wit_data.specs.declared.types.TypeDef.{TypeDef}
use Rattle.wit_data.specs.declared.types.TypeDefKind.{TypeDefKind}
use Rattle.wit_data.specs.declared.world.World.{World}
use Rattle.wit_graph_data.specs.declared.graph.Package.{Package}
use Rattle.wit_graph_data.specs.Queries.{is_future_kind, is_held, other_package, package_interfaces, is_number_or_listed, track_part}
use Rattle.wit_names.specs.PackageName.{version_suffix}
use Rattle.wit_graph_data.specs.IdText.{id_text}

-- the packages that package p depends on directly, in order, with repeats
abbrev pub package_needs : List TypeDef → List Interface → List World → ℕ → Package → List ℕ
package_needs types interfaces worlds p home =
    filter_map (other_package interfaces p) (package_interfaces types interfaces worlds home)

-- `namespace:package/name`, and `@track` where the package has a version
abbrev pub canonical_id_text_in : PackageName → List ℕ → List ℕ
canonical_id_text_in home name =
    home.namespace ++ (58 ∷ (home.name ++ (47 ∷ (name ++ track_part home.version))))

-- a part that values hold is a number or a type of the list
abbrev pub is_fixed_part : KindPart → Bool
is_fixed_part p = if is_held p.role then option_map_or is_number_or_listed p.ty false else true

-- what the values of a kind hold
abbrev pub content_types : TypeDefKind → List ℕ
content_types k = referred_in is_held k

-- is the type at place t a future or a stream?
abbrev pub is_future : List TypeDef → ℕ → Bool
is_future types t =
    option_map_or (λ (def : TypeDef). is_future_kind def.kind) (slice_get types t) false

-- `namespace:package/name`, and `@version` where the package has one
abbrev pub id_text_in : PackageName → List ℕ → List ℕ
id_text_in owner name =
    owner.namespace ++ (58 ∷ (owner.name ++ (47 ∷ (name ++ version_suffix owner.version))))

-- the id text of an interface that has a name and a package
abbrev pub interface_id_text : List Package → Interface → Option (List ℕ)
interface_id_text packages interface =
    option_and_then (λ name. option_map (λ owner. id_text packages owner name) interface.package)
    interface.name
