-- A package that has the shape, and packages that differ from it in one place and lack one part of it.
use Rattle.std.specs.Prelude.{ℕ, List, [], ◌∷◌, Some, None, codes}
use Rattle.wit_data.specs.Entries.{Entry}
use Rattle.wit_data.specs.Foreign.{ForeignItems}
use Rattle.wit_data.specs.Shape.{HasForeign, HasNames, HasUnknown, HasUnresolvedOwners, HasUnresolvedReferences, HasUnresolvedWorlds, IsUnplaced, KeepsToOwn, KeysDiffer}
use Rattle.wit_data.specs.Uses.{uses_of}
use Rattle.wit_data.specs.New.{new_function, new_interface, new_interface_entry, new_type, new_world}
use Rattle.wit_data.specs.declared.stability.Docs.{Docs}
use Rattle.wit_data.specs.declared.function.Function.{Function}
use Rattle.wit_data.specs.declared.interface.Interface.{Interface}
use Rattle.wit_names.specs.declared.package_name.PackageName.{PackageName}
use Rattle.wit_data.specs.declared.stability.Stability.{Stability}
use Rattle.wit_data.specs.declared.types.TypeDef.{TypeDef}
use Rattle.wit_data.specs.declared.types.TypeDefKind.{TypeDefKind}
use Rattle.wit_data.specs.declared.types.Type_.{Type_}
use Rattle.wit_data.specs.declared.unresolved.UnresolvedPackage.{UnresolvedPackage}
use Rattle.wit_data.specs.declared.world.World.{World}
use Rattle.wit_data.specs.declared.function.FunctionKind.TheVariants as function
use Rattle.wit_data.specs.declared.stability.Stability.TheVariants.{Unknown}
use Rattle.wit_data.specs.declared.types.TypeDefKind.TheVariants as kind
use Rattle.wit_data.specs.declared.types.TypeOwner.TheVariants as owner
use Rattle.wit_data.specs.declared.types.Type_.TheVariants as type
use Rattle.wit_data.specs.declared.unresolved.AstItem.TheVariants as ast
use Rattle.wit_data.specs.declared.world.WorldKey.TheVariants as key
use Rattle.wit_digraph.specs.Relation.{IsAcyclic}

-- no documentation
abbrev pub no_docs : Docs
no_docs = record { contents = None }

-- a package name without a version
abbrev pub named : List ℕ → List ℕ → PackageName
named namespace name = record { namespace = namespace; name = name; version = None }

-- a named type of interface i
abbrev pub type_in : ℕ → List ℕ → TypeDefKind → TypeDef
type_in i name k = new_type (Some name) k (owner.Interface i)

-- a record of one field
abbrev pub record_of : Type_ → TypeDefKind
record_of ty = kind.Record (record { name = codes "f"; ty = ty; docs = no_docs; span = None } ∷ [])

-- an interface with these types and functions
abbrev pub interface_of : List ℕ → List (List ℕ × ℕ) → List (List ℕ × Function) → Interface
interface_of name types functions =
    record (new_interface (Some name)) { types = types; functions = functions }

-- a world with these imports
abbrev pub world_of : List ℕ → List Entry → World
world_of name imports = record (new_world name) { imports = imports }

-- interface i under its own key
abbrev pub entry_of : ℕ → Entry
entry_of i = (key.Interface i, new_interface_entry i)

-- `func(p: ty)`
abbrev pub function_of : List ℕ → Type_ → Function
function_of name ty =
    new_function name function.Freestanding (record { name = codes "p"; ty = ty; span = None } ∷ [])
    None

-- interface i, and interface x where it lists these types
abbrev pub foreign_i : Interface
foreign_i = interface_of (codes "i") ((codes "t", 0) ∷ []) []

abbrev pub x_of : List (List ℕ × ℕ) → Interface
x_of types = interface_of (codes "x") types ((codes "g", function_of (codes "g") (type.Id 2)) ∷ [])

-- the t of i, and the t and the r of x where they are of these kinds
abbrev pub types_of : TypeDefKind → TypeDefKind → List TypeDef
types_of t r =
    type_in 0 (codes "t") kind.Unknown ∷ type_in 1 (codes "t") t ∷ type_in 1 (codes "r") r ∷ []

-- what is named of a:b, under these gates
abbrev pub deps_of : List Stability → ForeignItems
deps_of gates = (named (codes "a") (codes "b"), (codes "i", (ast.Interface 0, gates)) ∷ []) ∷ []

-- the package
--
--     package foo:bar;
--     interface x {
--       use a:b/i.{t};
--       record r { f: t }
--       g: func(p: r);
--     }
--     world w {
--       import a:b/i;
--       import x;
--     }
--
-- its types are the t of a:b/i, which is unknown, the t of x, which is another name of it, and r; its
-- interfaces are i and x
abbrev pub shaped_package : UnresolvedPackage
shaped_package = record {
  name = named (codes "foo") (codes "bar");
  package_name_span = None;
  docs = no_docs;
  worlds = world_of (codes "w") (entry_of 0 ∷ entry_of 1 ∷ []) ∷ [];
  interfaces = foreign_i ∷ x_of ((codes "t", 1) ∷ (codes "r", 2) ∷ []) ∷ [];
  types = types_of (kind.Type_ (type.Id 0)) (record_of (type.Id 1));
  foreign_deps = deps_of (Unknown ∷ []);
  foreign_dep_spans = None ∷ [];
  unknown_type_spans = None ∷ [];
  required_resource_types = [];
}

-- one part of the shape each that a package lacks
pub record NearMissesOfShape : Type 0 where
  -- x lists a name twice
  pub keys : KeysDiffer (record shaped_package {
    interfaces = foreign_i
        ∷ x_of ((codes "t", 1) ∷ (codes "t", 1) ∷ (codes "r", 2) ∷ []) ∷ [];
  }) → ⊥
  -- i says that it belongs to a package
  pub unplaced : IsUnplaced
      (record shaped_package { interfaces = record foreign_i { «package» = Some 0 } ∷ [] }) → ⊥
  -- i is named under no gate
  pub foreign : HasForeign (record shaped_package { foreign_deps = deps_of [] }) → ⊥
  -- no type is said to be unknown
  pub unknown : HasUnknown (record shaped_package { unknown_type_spans = [] }) → ⊥
  -- w has a name that isn't kebab
  pub names : HasNames (record shaped_package { worlds = world_of (codes "a_b") [] ∷ [] }) → ⊥
  -- the pre-release of its version has a `+`
  pub version : HasNames (record shaped_package {
    name = record (named (codes "foo") (codes "bar"))
        { version = Some (1, 0, 0, codes "a+b", []) };
  }) → ⊥
  -- x doesn't list its r
  pub owners : HasUnresolvedOwners
      (record shaped_package { interfaces = foreign_i ∷ x_of ((codes "t", 1) ∷ []) ∷ [] }) → ⊥
  -- the t of x is another name of a later type
  pub references : HasUnresolvedReferences
      (record shaped_package { types = types_of (kind.Type_ (type.Id 2)) kind.Resource }) → ⊥
  -- r refers to the t of i itself
  pub own : KeepsToOwn (record shaped_package
      { types = types_of (kind.Type_ (type.Id 0)) (record_of (type.Id 0)) }) → ⊥
  -- under the key of i stands x
  pub worlds : HasUnresolvedWorlds (record shaped_package
      { worlds = world_of (codes "w") ((key.Interface 0, new_interface_entry 1) ∷ []) ∷ [] })
      → ⊥
  -- i and x use each other
  pub uses : IsAcyclic (uses_of (type_in 0 (codes "t") (kind.Type_ (type.Id 1))
      ∷ type_in 1 (codes "t") (kind.Type_ (type.Id 0)) ∷ [])
      (foreign_i ∷ x_of ((codes "t", 1) ∷ []) ∷ [])) → ⊥
