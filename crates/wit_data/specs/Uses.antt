-- Which interfaces use which, as the types of a list tell.
-- Source: `type_interface_dep` and `interface_direct_deps` of wit-parser 0.263.0.
use Rattle.std.specs.Prelude.{ℕ, ◌==◌, List, Option, Some, None, slice_get, map, filter_map, option_and_then, option_to_list, if◌then◌else◌}
use Rattle.wit_data.specs.declared.interface.Interface.{Interface}
use Rattle.wit_data.specs.declared.types.TypeDef.{TypeDef}
use Rattle.wit_data.specs.declared.types.TypeDefKind.{TypeDefKind}
use Rattle.wit_data.specs.declared.types.TypeOwner.{TypeOwner}
use Rattle.wit_data.specs.declared.types.TypeDefKind.TheVariants as kind
use Rattle.wit_data.specs.declared.types.Type_.TheVariants as type
use Rattle.wit_data.specs.declared.types.TypeOwner.TheVariants as owner

-- the type that an alias names
abbrev pub alias_target : TypeDefKind → Option ℕ
alias_target (kind.Type_ (type.Id target)) = Some target
alias_target _ = None

-- which type is another name of which, as adjacency lists
abbrev pub alias_rows : List TypeDef → List (List ℕ)
alias_rows types = map (λ (def : TypeDef). option_to_list (alias_target def.kind)) types

-- the owner of what an alias names, where it is an interface other than the alias's own owner
abbrev pub other_owner : TypeOwner → TypeOwner → Option ℕ
other_owner (owner.Interface i) (owner.Interface j) = if i == j then None else Some j
other_owner (owner.World w) (owner.Interface j) = Some j
other_owner owner.None (owner.Interface j) = Some j
other_owner _ (owner.World w) = None
other_owner _ owner.None = None

-- the interface that a type needs: of an alias, the interface that owns what it names, where that isn't the alias's own owner
abbrev pub type_interface_dep : List TypeDef → ℕ → Option ℕ
type_interface_dep types id =
    option_and_then (λ (alias : TypeDef).
    option_and_then (λ target.
    option_and_then (λ (named : TypeDef). other_owner alias.owner named.owner)
    (slice_get types target)) (alias_target alias.kind)) (slice_get types id)

-- the interfaces that an interface uses, in the order of its types, with repeats
abbrev pub interface_uses : List TypeDef → Interface → List ℕ
interface_uses types interface =
    filter_map (λ (e : List ℕ × ℕ). type_interface_dep types e.1) interface.types

-- list i: the interfaces that interface i uses
abbrev pub uses_of : List TypeDef → List Interface → List (List ℕ)
uses_of types interfaces = map (interface_uses types) interfaces
