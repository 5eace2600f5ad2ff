-- Small graphs that the examples speak of.
use Rattle.std.specs.Prelude.{ℕ, List, [], ◌∷◌, Option, Some, None, codes}
use Rattle.wit_data.specs.New.{new_function, new_interface, new_interface_entry, new_type, new_world}
use Rattle.wit_data.specs.declared.stability.Docs.{Docs}
use Rattle.wit_data.specs.declared.function.Function.{Function}
use Rattle.wit_data.specs.declared.interface.Interface.{Interface}
use Rattle.wit_names.specs.declared.package_name.PackageName.{PackageName}
use Rattle.wit_data.specs.declared.function.Param.{Param}
use Rattle.wit_data.specs.declared.types.TypeDef.{TypeDef}
use Rattle.wit_data.specs.declared.types.TypeDefKind.{TypeDefKind}
use Rattle.wit_data.specs.declared.types.TypeOwner.{TypeOwner}
use Rattle.wit_data.specs.declared.types.Type_.{Type_}
use Rattle.wit_data.specs.declared.world.World.{World}
use Rattle.wit_data.specs.declared.world.WorldItem.{WorldItem}
use Rattle.wit_data.specs.declared.world.WorldKey.{WorldKey}
use Rattle.wit_data.specs.declared.function.FunctionKind.TheVariants as function
use Rattle.wit_data.specs.declared.types.TypeDefKind.TheVariants as kind
use Rattle.wit_data.specs.declared.types.TypeOwner.TheVariants as owner
use Rattle.wit_data.specs.declared.types.Type_.TheVariants as type
use Rattle.wit_data.specs.declared.world.WorldKey.TheVariants as key
use Rattle.wit_graph_data.specs.declared.graph.Graph.{Graph}
use Rattle.wit_graph_data.specs.declared.graph.Package.{Package}

-- no documentation
abbrev pub no_docs : Docs
no_docs = record { contents = None }

-- a type of this name, kind and owner, without anything else
abbrev pub type_of : Option (List ℕ) → TypeDefKind → TypeOwner → TypeDef
type_of name k by = new_type name k by

-- a named type of interface i
abbrev pub type_in : ℕ → List ℕ → TypeDefKind → TypeDef
type_in i name k = type_of (Some name) k (owner.Interface i)

-- a type without a name
abbrev pub unnamed : TypeDefKind → TypeDef
unnamed k = type_of None k owner.None

-- an interface of package 0 with these types
abbrev pub interface_of : Option (List ℕ) → List (List ℕ × ℕ) → Interface
interface_of name types = record (new_interface name) { types = types; «package» = Some 0 }

-- a world of package 0 with these lists
abbrev pub world_of : List ℕ → List (WorldKey × WorldItem) → List (WorldKey × WorldItem) → World
world_of name imports exports =
    record (new_world name) { imports = imports; exports = exports; «package» = Some 0 }

-- the entry of interface i under its own key, and under a label
abbrev pub instance : ℕ → WorldItem
instance i = new_interface_entry i

-- the entry of interface i under its own key
abbrev pub entry_of : ℕ → WorldKey × WorldItem
entry_of i = (key.Interface i, instance i)

-- the entry of interface i under a label
abbrev pub labelled_entry : List ℕ → ℕ → WorldKey × WorldItem
labelled_entry label i = (key.Name label, instance i)

-- a function of these parameters and this result
abbrev pub function_of : List ℕ → List Type_ → Option Type_ → Function
function_of name params result = new_function name function.Freestanding (params_of params) result
  where
    params_of : List Type_ → List Param
    params_of [] = []
    params_of (ty ∷ tys) = record { name = codes "p"; ty = ty; span = None } ∷ params_of tys

-- the name foo:bar
abbrev pub foo_bar : PackageName
foo_bar = record { namespace = codes "foo"; name = codes "bar"; version = None }

-- package foo:bar of these interfaces and worlds
abbrev pub foo_bar_of : List (List ℕ × ℕ) → List (List ℕ × ℕ) → Package
foo_bar_of interfaces worlds =
    record { name = foo_bar; docs = no_docs; interfaces = interfaces; worlds = worlds }

-- interface a has a number t, and b has another name of it
abbrev pub sample_types : List TypeDef
sample_types =
    type_in 0 (codes "t") (kind.Type_ type.U32) ∷ type_in 1 (codes "t") (kind.Type_ (type.Id 0))
    ∷ []

-- the two interfaces
abbrev pub sample_interfaces : List Interface
sample_interfaces =
    interface_of (Some (codes "a")) ((codes "t", 0) ∷ [])
    ∷ interface_of (Some (codes "b")) ((codes "t", 1) ∷ []) ∷ []

-- package foo:bar with these two interfaces and a world w of these imports and exports
abbrev pub sample : List (WorldKey × WorldItem) → List (WorldKey × WorldItem) → Graph
sample imports exports = record {
  types = sample_types;
  interfaces = sample_interfaces;
  worlds = world_of (codes "w") imports exports ∷ [];
  packages = foo_bar_of ((codes "a", 0) ∷ (codes "b", 1) ∷ []) ((codes "w", 0) ∷ []) ∷ [];
  package_names = (foo_bar, 0) ∷ [];
}
