-- What the lines of packages make: packages, and near misses that aren't understood.
use Rattle.std.specs.Prelude.{◌≡◌, ℕ, List, [], ◌∷◌, ◌++◌, false, Some, None, codes, true}
use Rattle.wit_data.specs.New.{new_function}
use Rattle.wit_data.specs.declared.function.FunctionKind.TheVariants as role
use Rattle.wit_data.specs.declared.stability.Stability.TheVariants.{Unknown, Unstable}
use Rattle.wit_data.specs.declared.types.Handle.TheVariants as handle
use Rattle.wit_data.specs.declared.types.Type_.TheVariants as type
use Rattle.wit_data.specs.declared.types.TypeDef.{TypeDef}
use Rattle.wit_data.specs.declared.types.TypeDefKind.{TypeDefKind}
use Rattle.wit_data.specs.declared.types.TypeOwner.{TypeOwner}
use Rattle.wit_data.specs.declared.unresolved.UnresolvedPackage.{UnresolvedPackage}
use Rattle.wit_data.specs.declared.unresolved.UnresolvedPackageGroup.{UnresolvedPackageGroup}
use Rattle.wit_data.specs.declared.types.TypeDefKind.TheVariants as kind
use Rattle.wit_data.specs.declared.types.TypeOwner.TheVariants as owner
use Rattle.wit_data.specs.declared.unresolved.AstItem.TheVariants as foreign
use Rattle.wit_data.specs.declared.world.WorldItem.TheVariants as item
use Rattle.wit_data.specs.declared.world.WorldKey.TheVariants as key
use Rattle.wit_script_lines.specs.Line.{lines_of}
use Rattle.wit_commands.specs.declared.change.Change.TheVariants as change
use Rattle.wit_script_lines.specs.declared.request.Request.TheVariants as request
use Rattle.wit_script_package.specs.Adding.{empty_interface, empty_world, type_with}
use Rattle.wit_script_package.specs.Lines.{interface_entry}
use Rattle.wit_script_package.specs.Naming.{OptionalSpan}
use Rattle.wit_script_package.specs.declared.draft.LineContext.{LineContext}
use Rattle.wit_script.specs.Script.{reading_of}
use Rattle.wit_script_lines.specs.declared.request.Request.{Request}
use Rattle.examples_resolve.specs.script.LineExamples.{a_b, package_of}

-- what lines ask, where all are understood and nothing waits
abbrev pub Asks : List ℕ → List Request → Type 0
Asks text commands =
    reading_of (lines_of text)
    ≡ Some (record { commands = commands; finished = []; current = None; other = false })

-- lines of which one isn't understood
abbrev pub IsNeverRead : List ℕ → Type 0
IsNeverRead text = reading_of (lines_of text) ≡ None

-- the place of a line, without a gate and with the gate of a feature
abbrev pub at : ℕ → ℕ → OptionalSpan
at start end = Some (start, end)

abbrev pub here : ℕ → ℕ → LineContext
here start end = record { gate = Unknown; span = at start end }

abbrev pub under : List ℕ → ℕ → ℕ → LineContext
under feature start end = record { gate = Unstable feature None; span = at start end }

-- a type of an owner, and one without
abbrev pub named : List ℕ → TypeDefKind → TypeOwner → LineContext → TypeDef
named name made owned stands = type_with (Some name) made owned stands

abbrev pub unnamed : TypeDefKind → LineContext → TypeDef
unnamed made stands = type_with None made owner.None stands

-- a package with this file, as a group of its own
abbrev pub group_of : UnresolvedPackage → List ℕ → List ℕ → ℕ → UnresolvedPackageGroup
group_of main path contents end =
    record {
      main = main;
      nested = [];
      source_map = record
          { files = record { path = path; contents = contents; start = 0 } ∷ []; end = end };
    }

-- ---- a package that uses another one

abbrev pub first_text : List ℕ
first_text =
    codes "package a:b\ninterface i @unstable=f\nuse c:d/e t\nresource r\ntype l list<option<t>>\n"
    ++ codes "func [method]r.m(x:own<t>)->l\nworld w\nimport c:d/e\nexport lab=i\n"

-- e of c:d and its t, which are foreign, stand first
abbrev pub first_package : UnresolvedPackage
first_package = record {
  name = a_b;
  package_name_span = at 0 11;
  docs = record { contents = None };
  worlds =
      record (empty_world (codes "w") (here 112 119)) {
        imports = (key.Interface 0, interface_entry 0 (here 120 132)) ∷ [];
        exports = (key.Name (codes "lab"), interface_entry 1 (here 133 145)) ∷ [];
      }
      ∷ [];
  interfaces =
      record (empty_interface (codes "e") (here 36 47)) { types = (codes "t", 0) ∷ [] }
      ∷ record (empty_interface (codes "i") (under (codes "f") 12 35)) {
        types = (codes "t", 1) ∷ (codes "r", 2) ∷ (codes "l", 4) ∷ [];
        functions = (
          codes "[method]r.m",
          record (new_function (codes "[method]r.m") (role.Method 2)
              (record { name = codes "x"; ty = type.Id 5; span = at 82 111 } ∷ [])
              (Some (type.Id 4))) { span = at 82 111 },
        )
            ∷ [];
      }
      ∷ [];
  types =
      named (codes "t") kind.Unknown (owner.Interface 0) (here 36 47)
      ∷ named (codes "t") (kind.Type_ (type.Id 0)) (owner.Interface 1) (here 36 47)
      ∷ named (codes "r") kind.Resource (owner.Interface 1) (here 48 58)
      ∷ unnamed (kind.Option (type.Id 1)) (here 59 81)
      ∷ named (codes "l") (kind.List (type.Id 3)) (owner.Interface 1) (here 59 81)
      ∷ unnamed (kind.Handle (handle.Own 1)) (here 82 111)
      ∷ [];
  -- two lines name e
  foreign_deps = (
    package_of (codes "c") (codes "d"),
    (codes "e", (foreign.Interface 0, Unknown ∷ Unknown ∷ [])) ∷ [],
  ) ∷ [];
  foreign_dep_spans = at 36 47 ∷ [];
  unknown_type_spans = at 36 47 ∷ [];
  -- own<t> is for resources alone
  required_resource_types = (0, at 82 111) ∷ [];
}

-- ---- gates of lines that name the same, and a handle through an alias

abbrev pub gates_text : List ℕ
gates_text =
    codes "package a:b\ninterface i\nuse c:d/e t u @unstable=f\nuse c:d/e t v\n"
    ++ codes "type h own<v> @unstable=k\nworld w\nimport c:d/e @unstable=g\n"

abbrev pub gates_package : UnresolvedPackage
gates_package = record {
  name = a_b;
  package_name_span = at 0 11;
  docs = record { contents = None };
  worlds =
      record (empty_world (codes "w") (here 90 97))
      { imports = (key.Interface 0, interface_entry 0 (under (codes "g") 98 122)) ∷ [] } ∷ [];
  interfaces =
      record (empty_interface (codes "e") (here 24 49)) { types = (codes "t", 0) ∷ [] }
      ∷ record (empty_interface (codes "i") (here 12 23))
      { types = (codes "u", 1) ∷ (codes "v", 2) ∷ (codes "h", 3) ∷ [] }
      ∷ [];
  types =
      -- the foreign type has the gate of the first line that uses it
      named (codes "t") kind.Unknown (owner.Interface 0) (under (codes "f") 24 49)
      ∷ named (codes "u") (kind.Type_ (type.Id 0)) (owner.Interface 1) (under (codes "f") 24 49)
      ∷ named (codes "v") (kind.Type_ (type.Id 0)) (owner.Interface 1) (here 50 63)
      ∷ named (codes "h") (kind.Handle (handle.Own 2)) (owner.Interface 1) (under (codes "k") 64 89)
      ∷ [];
  -- the foreign interface has a gate for each line that names it
  foreign_deps = (
    package_of (codes "c") (codes "d"),
    (
      codes "e",
      (
        foreign.Interface 0,
        Unstable (codes "f") None ∷ Unknown ∷ Unstable (codes "g") None ∷ [],
      ),
    ) ∷ [],
  )
      ∷ [];
  foreign_dep_spans = at 24 49 ∷ [];
  unknown_type_spans = at 24 49 ∷ [];
  -- v leads to t
  required_resource_types = (0, at 64 89) ∷ [];
}

-- ---- types, uses and functions in worlds, and gates on types without a name

abbrev pub world_text : List ℕ
world_text =
    codes "package a:b\ninterface i\nresource r\ntype s r\n"
    ++ codes "func f(x:own<s>,y:list<own<s>>) @unstable=f\n"
    ++ codes "world w\nuse i s\nrecord p a:s\nimport-func g(x:p)\n"

abbrev pub world_package : UnresolvedPackage
world_package = record {
  name = a_b;
  package_name_span = at 0 11;
  docs = record { contents = None };
  worlds =
      record (empty_world (codes "w") (here 88 95)) {
        imports =
            (key.Name (codes "s"), item.Type_ 5 (at 96 103))
            ∷ (key.Name (codes "p"), item.Type_ 6 (at 104 116))
            ∷ (
              key.Name (codes "g"),
              item.Function (record (new_function (codes "g") role.Freestanding
                  (record { name = codes "x"; ty = type.Id 6; span = at 117 135 } ∷ [])
                  None) { span = at 117 135 }),
            )
            ∷ [];
      }
      ∷ [];
  interfaces =
      record (empty_interface (codes "i") (here 12 23)) {
        types = (codes "r", 0) ∷ (codes "s", 1) ∷ [];
        functions = (
          codes "f",
          record (new_function (codes "f") role.Freestanding
              (record { name = codes "x"; ty = type.Id 2; span = at 44 87 }
              ∷ record { name = codes "y"; ty = type.Id 4; span = at 44 87 } ∷ [])
              None) {
                stability = Unstable (codes "f") None;
                span = at 44 87;
              },
        )
            ∷ [];
      }
      ∷ [];
  types =
      named (codes "r") kind.Resource (owner.Interface 0) (here 24 34)
      ∷ named (codes "s") (kind.Type_ (type.Id 0)) (owner.Interface 0) (here 35 43)
      ∷ unnamed (kind.Handle (handle.Own 1)) (under (codes "f") 44 87)
      ∷ unnamed (kind.Handle (handle.Own 1)) (under (codes "f") 44 87)
      ∷ unnamed (kind.List (type.Id 3)) (under (codes "f") 44 87)
      ∷ named (codes "s") (kind.Type_ (type.Id 1)) (owner.World 0) (here 96 103)
      ∷ named (codes "p") (kind.Record (record {
        name = codes "a";
        ty = type.Id 5;
        docs = record { contents = None };
        span = at 104 116;
      } ∷ [])) (owner.World 0)
      (here 104 116)
      ∷ [];
  foreign_deps = [];
  foreign_dep_spans = [];
  unknown_type_spans = [];
  required_resource_types = [];
}

-- ---- two packages of one push, each with foreign names of its own

abbrev pub main_text : List ℕ
main_text = codes "package a:b\nworld w\nimport c:d/e\n"

abbrev pub main_package : UnresolvedPackage
main_package = record {
  name = a_b;
  package_name_span = at 0 11;
  docs = record { contents = None };
  worlds =
      record (empty_world (codes "w") (here 12 19))
      { imports = (key.Interface 0, interface_entry 0 (here 20 32)) ∷ [] } ∷ [];
  interfaces = empty_interface (codes "e") (here 20 32) ∷ [];
  types = [];
  foreign_deps =
      (package_of (codes "c") (codes "d"), (codes "e", (foreign.Interface 0, Unknown ∷ [])) ∷ [])
      ∷ [];
  foreign_dep_spans = at 20 32 ∷ [];
  unknown_type_spans = [];
  required_resource_types = [];
}

abbrev pub dep_text : List ℕ
dep_text = codes "package f:g\nworld v\ninclude c:d/x\ninclude h:k/y a=b\n"

abbrev pub dep_package : UnresolvedPackage
dep_package = record {
  name = package_of (codes "f") (codes "g");
  package_name_span = at 0 11;
  docs = record { contents = None };
  worlds =
      empty_world (codes "x") (here 20 33)
      ∷ empty_world (codes "y") (here 34 51)
      ∷ record (empty_world (codes "v") (here 12 19)) {
        includes =
            record { stability = Unknown; id = 0; names = []; span = at 20 33 }
            ∷ record {
              stability = Unknown;
              id = 1;
              names = record { name = codes "a"; as_ = codes "b" } ∷ [];
              span = at 34 51;
            }
            ∷ [];
      }
      ∷ [];
  interfaces = [];
  types = [];
  foreign_deps =
      (package_of (codes "c") (codes "d"), (codes "x", (foreign.World 0, Unknown ∷ [])) ∷ [])
      ∷ (package_of (codes "h") (codes "k"), (codes "y", (foreign.World 1, Unknown ∷ [])) ∷ [])
      ∷ [];
  foreign_dep_spans = at 20 33 ∷ at 34 51 ∷ [];
  unknown_type_spans = [];
  required_resource_types = [];
}

pub record ExamplesOfPackages : Type 0 where
  pub first : Asks (first_text ++ codes "push\n") (request.Change
      (change.PushGroups (group_of first_package (codes "a:b") first_text 147) []) ∷ [])
  pub gates : Asks (gates_text ++ codes "push\n") (request.Change
      (change.PushGroups (group_of gates_package (codes "a:b") gates_text 124) []) ∷ [])
  pub world : Asks (world_text ++ codes "push\n") (request.Change
      (change.PushGroups (group_of world_package (codes "a:b") world_text 137) []) ∷ [])
  pub two_packages : Asks (main_text ++ (dep_text ++ codes "push\n"))
      (request.Change (change.PushGroups (group_of main_package (codes "a:b") main_text 34)
      (group_of dep_package (codes "f:g") dep_text 53 ∷ [])) ∷ [])
  pub commands : Asks (codes "all-features\nother\nfeature f\nmerge")
      (request.Change (change.SetAllFeatures true) ∷ request.Other
      ∷ request.Change (change.AddFeature (codes "f")) ∷ request.Merge ∷ [])
  -- nothing is open to be merged, or something is open already
  pub nothing_open : IsNeverRead (codes "merge")
  pub open_twice : IsNeverRead (codes "other\nother")
  -- an interface that a line before takes for a world, and a world for an interface
  pub other_role : IsNeverRead (codes "package a:b\nworld w\nimport c:d/e\ninclude c:d/e")
  pub other_role_back : IsNeverRead (codes "package a:b\nworld w\ninclude c:d/e\nimport c:d/e")
  -- a group of a function's name without a name after it, or with another group after it
  pub no_name : IsNeverRead (codes "package a:b\ninterface i\nfunc [get]()")
  pub unknown_group : IsNeverRead (codes "package a:b\ninterface i\nfunc [x]p()")
  pub group_twice : IsNeverRead (codes "package a:b\ninterface i\nfunc [get][set]p()")
  pub groups_transformed : IsNeverRead
      (codes "package a:b\ninterface i\nresource r\nfunc [set][method]r.p()")
  -- no dot, no such resource
  pub no_dot : IsNeverRead (codes "package a:b\ninterface i\nresource r\nfunc [method]r()")
  pub no_resource : IsNeverRead (codes "package a:b\ninterface i\nfunc [method]r.m()")
  -- a handle of what is no resource, of an alias of it, of a form
  pub no_handle : IsNeverRead (codes "package a:b\ninterface i\ntype t u32\ntype h own<t>")
  pub no_handle_of_list : IsNeverRead
      (codes "package a:b\ninterface i\ntype t list<u8>\ntype s t\ntype h borrow<s>")
  pub no_inner : IsNeverRead (codes "package a:b\ninterface i\ntype t list<>")
  -- names that are there already
  pub type_twice : IsNeverRead (codes "package a:b\nworld w\ntype t u8\ntype t u16")
  pub label_twice : IsNeverRead
      (codes "package a:b\ninterface i\nworld w\nexport l=i\nexport-func l()")
  -- types stand neither before the first interface or world nor functions in worlds
  pub no_scope : IsNeverRead (codes "package a:b\ntype t u8")
  pub no_interface : IsNeverRead (codes "package a:b\nworld w\nfunc f()")
