-- Small packages with their texts, and near misses beside them.
use Rattle.std.specs.Prelude.{◌≡◌, ℕ, List, [], ◌∷◌, ◌++◌, Option, Some, None, codes}
use Rattle.wit_data.specs.New.{new_function, new_interface, new_interface_entry, new_type, new_world}
use Rattle.wit_data.specs.declared.function.Function.{Function}
use Rattle.wit_data.specs.declared.function.FunctionKind.TheVariants as function
use Rattle.wit_data.specs.declared.function.Param.{Param}
use Rattle.wit_data.specs.declared.interface.Interface.{Interface}
use Rattle.wit_data.specs.declared.stability.Docs.{Docs}
use Rattle.wit_data.specs.declared.stability.Stability.TheVariants as stability
use Rattle.wit_data.specs.declared.types.Field.{Field}
use Rattle.wit_data.specs.declared.types.Handle.TheVariants as handle
use Rattle.wit_data.specs.declared.types.TypeDefKind.TheVariants as kind
use Rattle.wit_data.specs.declared.types.TypeOwner.TheVariants as owner
use Rattle.wit_data.specs.declared.types.Type_.{Type_}
use Rattle.wit_data.specs.declared.types.Type_.TheVariants as type
use Rattle.wit_data.specs.declared.world.World.{World}
use Rattle.wit_data.specs.declared.world.WorldItem.TheVariants as item
use Rattle.wit_data.specs.declared.world.WorldKey.TheVariants as key
use Rattle.wit_graph_data.specs.declared.graph.Graph.{Graph}
use Rattle.wit_graph_data.specs.declared.graph.Package.{Package}
use Rattle.wit_print.specs.Headings.{docs_wit, gate_wit}
use Rattle.wit_print.specs.Names.{name_wit, path_wit}
use Rattle.wit_print.specs.Packages.{graph_wit, package_wit}
use Rattle.wit_print.specs.Types.{type_wit}

abbrev pub no_docs : Docs
no_docs = record { contents = None }

-- a package a:NAME
abbrev pub package_of : List ℕ → List (List ℕ × ℕ) → List (List ℕ × ℕ) → Package
package_of name interfaces worlds =
    record {
      name = record { namespace = codes "a"; name = name; version = None };
      docs = no_docs;
      interfaces = interfaces;
      worlds = worlds;
    }

abbrev pub field_of : List ℕ → Type_ → Field
field_of name ty = record { name = name; ty = ty; docs = no_docs; span = None }

abbrev pub param_of : List ℕ → Type_ → Param
param_of name ty = record { name = name; ty = ty; span = None }

-- an interface of package p
abbrev pub interface_of : ℕ → List ℕ → List (List ℕ × ℕ) → List (List ℕ × Function) → Interface
interface_of p name types functions =
    record (new_interface (Some name)) { types = types; functions = functions; «package» = Some p }

-- ---- a record, and a function with it

-- in a:use the interface `shop` with a record `item` and a function `find`
abbrev pub shop : Graph
shop =
    record {
      types =
          new_type (Some (codes "item"))
          (kind.Record (field_of (codes "id") type.U32 ∷ field_of (codes "type") (type.Id 1) ∷ []))
          (owner.Interface 0)
          ∷ new_type None (kind.List type.String) owner.None ∷ [];
      interfaces =
          interface_of 0 (codes "shop") ((codes "item", 0) ∷ [])
          ((
            codes "find",
            new_function (codes "find") function.Freestanding
                (param_of (codes "id") type.U32 ∷ param_of (codes "all") type.Bool ∷ [])
                (Some (type.Id 0)),
          ) ∷ [])
          ∷ [];
      worlds = [];
      packages = package_of (codes "use") ((codes "shop", 0) ∷ []) [] ∷ [];
      package_names = [];
    }

-- ---- a resource, used from another package, in a world

-- in a:b the interface `i` with a resource `r`; in a:c the world `w`, which imports it and uses `r` as `s`
abbrev pub two : Graph
two =
    record {
      types =
          new_type (Some (codes "r")) kind.Resource (owner.Interface 0)
          ∷ new_type None (kind.Handle (handle.Borrow 0)) owner.None
          ∷ new_type None (kind.Handle (handle.Own 0)) owner.None
          ∷ new_type (Some (codes "s")) (kind.Type_ (type.Id 0)) (owner.World 0) ∷ [];
      interfaces =
          interface_of 0 (codes "i") ((codes "r", 0) ∷ [])
          ((
            codes "[constructor]r",
            new_function (codes "[constructor]r") (function.Constructor 0)
                [] (Some (type.Id 2)),
          )
          ∷ (
            codes "[method]r.m",
            new_function (codes "[method]r.m") (function.AsyncMethod 0)
                (param_of (codes "self") (type.Id 1) ∷ []) (Some (type.Id 2)),
          )
          ∷ []) ∷ [];
      worlds =
          record (new_world (codes "w")) {
            imports =
                (key.Interface 0, new_interface_entry 0)
                ∷ (key.Name (codes "n"), new_interface_entry 0)
                ∷ (key.Name (codes "s"), item.Type_ 3 None) ∷ [];
            exports = (
              key.Name (codes "f"),
              item.Function (new_function (codes "f") function.Freestanding [] None),
            ) ∷ [];
            «package» = Some 1;
          } ∷ [];
      packages =
          package_of (codes "b") ((codes "i", 0) ∷ []) []
          ∷ package_of (codes "c") [] ((codes "w", 0) ∷ []) ∷ [];
      package_names = [];
    }

pub record ExamplesOfTexts : Type 0 where
  -- a keyword stands behind a `%`, a word that begins with one doesn't
  pub keyword : name_wit (codes "type") ≡ codes "%type"
  pub longer_word : name_wit (codes "types") ≡ codes "types"
  -- a line of documentation without text has no blank at its end
  pub documentation : docs_wit (codes "  ") (record { contents = Some (codes "a\n\nb") })
      ≡ codes "  /// a\n  ///\n  /// b\n"
  -- a feature is a name
  pub gate : gate_wit [] (stability.Unstable (codes "list") None)
      ≡ codes "@unstable(feature = %list)\n"
  -- types stand in one another; a cycle ends
  pub nested : type_wit (new_type None (kind.Option (type.Id 1)) owner.None
      ∷ new_type None (kind.Result_ None (Some type.U8)) owner.None ∷ []) (type.Id 0)
      ≡ codes "option<result<_, u8>>"
  pub cycle : type_wit (new_type None (kind.Option (type.Id 0)) owner.None ∷ []) (type.Id 0)
      ≡ codes "option<>"
  -- an interface is called by its name in its own package, by its path in another
  pub own_path : path_wit two (Some 0) 0 ≡ codes "i"
  pub other_path : path_wit two (Some 1) 0 ≡ codes "a:b/i"
  pub record_and_function : package_wit shop 0
      ≡ codes "package a:%use;\n\ninterface shop {\n  record item {\n    id: u32,\n"
      ++ codes "    %type: list<string>,\n  }\n  find: func(id: u32, all: bool) -> item;\n}\n"
  pub resource : package_wit two 0
      ≡ codes "package a:b;\n\ninterface i {\n  resource r {\n    constructor();\n"
      ++ codes "    m: async func() -> r;\n  }\n}\n"
  pub world : package_wit two 1
      ≡ codes "package a:c;\n\nworld w {\n  import a:b/i;\n  import n: a:b/i;\n"
      ++ codes "  use a:b/i.{r as s};\n  export f: func();\n}\n"
  -- the other packages stand behind the first one
  pub all : graph_wit two 1
      ≡ package_wit two 1
      ++ (codes "\npackage a:b {\n\n  interface i {\n    resource r {\n      constructor();\n"
      ++ codes "      m: async func() -> r;\n    }\n  }\n}\n")
  pub not_there : package_wit two 2 ≡ []
