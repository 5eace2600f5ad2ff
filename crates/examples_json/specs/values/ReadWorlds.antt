-- What interfaces, worlds and packages are read from, each as its text.
use Rattle.std.specs.Prelude.{◌≡◌, ℕ, List, [], ◌∷◌, ◌++◌, Some, None, Ok, codes}
use Rattle.wit_names.specs.declared.package_name.PackageName.{PackageName}
use Rattle.wit_data.specs.Foreign.{ForeignItem}
use Rattle.wit_data.specs.New.{new_interface, new_world}
use Rattle.wit_data.specs.declared.interface.Interface.{Interface}
use Rattle.wit_data.specs.declared.stability.Stability.TheVariants.{Stable, Unknown}
use Rattle.wit_data.specs.declared.unresolved.AstItem.TheVariants as ast
use Rattle.wit_data.specs.declared.unresolved.UnresolvedPackage.{UnresolvedPackage}
use Rattle.wit_data.specs.declared.world.World.{World}
use Rattle.wit_data.specs.declared.world.WorldItem.{WorldItem}
use Rattle.wit_data.specs.declared.world.WorldItem.TheVariants as item
use Rattle.wit_data.specs.declared.world.WorldKey.{WorldKey}
use Rattle.wit_data.specs.declared.world.WorldKey.TheVariants as key
use Rattle.examples_json.specs.values.Details.{two_files}
use Rattle.examples_json.specs.values.Gates.{docs_of, release}
use Rattle.examples_json.specs.values.Graphs.{foo_bar}
use Rattle.examples_json.specs.values.ReadValues.{fault_at, to}
use Rattle.wit_json_reading.specs.Documents.{read_from}
use Rattle.wit_json_reading.specs.Groups.{read_sources}
use Rattle.wit_json_reading.specs.Packages.{read_deps, read_package_name, read_package}
use Rattle.wit_json_reading.specs.Reading.{Reading, instead_of}
use Rattle.wit_json_reading.specs.Worlds.{read_entries, read_interface, read_world}
use Rattle.wit_json_reading.specs.declared.fault.Expected.TheVariants as expected
use Rattle.wit_json_reading.specs.declared.fault.Step.TheVariants as step

abbrev pub interface : List ℕ → Reading Interface
interface text = read_from read_interface text

abbrev pub entries : List ℕ → Reading (List (WorldKey × WorldItem))
entries text = read_from read_entries text

abbrev pub world : List ℕ → Reading World
world text = read_from read_world text

pub record ExamplesOfReadWorlds : Type 0 where
  pub held : interface (codes "{\"name\":\"i\",\"types\":{\"t\":7},\"functions\":{}}")
      ≡ Ok (record (new_interface (Some (codes "i"))) { types = (codes "t", 7) ∷ [] })
  pub unnamed : interface (codes "{\"name\":null,\"types\":{},\"functions\":{}}")
      ≡ Ok (new_interface None)
  pub same_name : interface (codes "{\"name\":null,\"types\":{\"t\":7,\"t\":8},\"functions\":{}}")
      ≡ fault_at (to (codes "t") ∷ to (codes "types") ∷ []) expected.NoSecondMember
  -- the package that it belongs to
  pub placed : interface (codes "{\"name\":null,\"types\":{},\"functions\":{},\"package\":3}")
      ≡ Ok (record (new_interface None) { «package» = Some 3 })
  pub unplaced : interface (codes "{\"name\":null,\"types\":{},\"functions\":{},\"package\":null}")
      ≡ Ok (new_interface None)
  pub no_package : interface
      (codes "{\"name\":null,\"types\":{},\"functions\":{},\"package\":\"foo:bar\"}")
      ≡ fault_at (to (codes "package") ∷ []) expected.Number
  -- an interface under its own key, and under a label
  pub own_key : entries (codes "{\"interface-3\":{\"interface\":{\"id\":3}}}")
      ≡ Ok ((key.Interface 3, item.Interface 3 Unknown (docs_of None) None None) ∷ [])
  pub label : entries (codes "{\"l\":{\"interface\":{\"id\":3}}}")
      ≡ Ok ((key.Name (codes "l"), item.Interface 3 Unknown (docs_of None) None None) ∷ [])
  pub other_key : entries (codes "{\"interface-4\":{\"interface\":{\"id\":3}}}")
      ≡ Ok
      ((key.Name (codes "interface-4"), item.Interface 3 Unknown (docs_of None) None None) ∷ [])
  -- behind a mark stands a label
  pub marked : entries
      (codes "{\"%interface-3\":{\"type\":7},\"interface-3\":{\"interface\":{\"id\":3}}}")
      ≡ Ok ((key.Name (codes "interface-3"), item.Type_ 7 None)
      ∷ (key.Interface 3, item.Interface 3 Unknown (docs_of None) None None) ∷ [])
  pub own_label : entries (codes "{\"%interface-3\":{\"interface\":{\"id\":3}}}")
      ≡ Ok
      ((key.Name (codes "interface-3"), item.Interface 3 Unknown (docs_of None) None None) ∷ [])
  pub same_key : entries (codes "{\"l\":{\"type\":7},\"%l\":{\"type\":8}}")
      ≡ fault_at (to (codes "%l") ∷ []) expected.NoSecondMember
  pub other_sort : entries
      (codes "{\"interface-3\":{\"interface\":{\"id\":3}},\"interface-3\":{\"type\":7}}")
      ≡ fault_at (to (codes "interface-3") ∷ []) expected.NoSecondMember
  -- a type by its id, or with a span
  pub held_type : entries (codes "{\"t\":{\"type\":7}}")
      ≡ Ok ((key.Name (codes "t"), item.Type_ 7 None) ∷ [])
  pub placed_type : entries (codes "{\"t\":{\"type\":{\"id\":7,\"span\":[4,5]}}}")
      ≡ Ok ((key.Name (codes "t"), item.Type_ 7 (Some (4, 5))) ∷ [])
  pub same_label : entries (codes "{\"t\":{\"type\":7},\"t\":{\"type\":8}}")
      ≡ fault_at (to (codes "t") ∷ []) expected.NoSecondMember
  pub no_sort : entries (codes "{\"t\":{\"types\":7}}")
      ≡ fault_at (to (codes "types") ∷ to (codes "t") ∷ []) expected.Entry
  pub whole : world
      (codes "{\"name\":\"w\",\"imports\":{},\"exports\":{\"t\":{\"type\":7}},\"includes\":[]}")
      ≡ Ok (record (new_world (codes "w"))
      { exports = (key.Name (codes "t"), item.Type_ 7 None) ∷ [] })
  pub with_include : world (codes "{\"name\":\"w\",\"imports\":{},\"exports\":{},"
      ++ codes "\"includes\":[{\"id\":1,\"names\":[{\"name\":\"a\",\"as\":\"b\"}]}]}")
      ≡ Ok (record (new_world (codes "w")) {
        includes = record {
          stability = Unknown;
          id = 1;
          names = record { name = codes "a"; as_ = codes "b" } ∷ [];
          span = None;
        }
            ∷ [];
      })
  pub no_includes : world (codes "{\"name\":\"w\",\"imports\":{},\"exports\":{}}")
      ≡ Ok (new_world (codes "w"))
  pub no_exports : world (codes "{\"name\":\"w\",\"imports\":{}}")
      ≡ fault_at (to (codes "exports") ∷ []) expected.Member

abbrev pub package_name : List ℕ → Reading PackageName
package_name text = read_from read_package_name text

abbrev pub deps : List ℕ → Reading (List (PackageName × List ForeignItem))
deps text = read_from read_deps text

-- foo:bar with nothing in it
abbrev pub empty_package : UnresolvedPackage
empty_package = record {
  name = foo_bar None;
  package_name_span = None;
  docs = docs_of None;
  worlds = [];
  interfaces = [];
  types = [];
  foreign_deps = [];
  foreign_dep_spans = [];
  unknown_type_spans = [];
  required_resource_types = [];
}

pub record ExamplesOfReadPackages : Type 0 where
  -- names
  pub name : package_name (codes "\"foo:bar\"") ≡ Ok (foo_bar None)
  pub versioned : package_name (codes "\"foo:bar@1.0.0\"") ≡ Ok (foo_bar (Some (release 1 0 0)))
  pub no_namespace : package_name (codes "\"bar\"") ≡ instead_of expected.PackageName
  pub no_version : package_name (codes "\"foo:bar@1\"") ≡ instead_of expected.Version
  -- what is named of other packages, each item with its gates
  pub dep : deps (codes "{\"foo:bar\":{\"i\":[{\"interface\":0},[null]]}}")
      ≡ Ok ((foo_bar None, (codes "i", (ast.Interface 0, Unknown ∷ [])) ∷ []) ∷ [])
  pub foreign_world : deps
      (codes "{\"foo:bar\":{\"w\":[{\"world\":0},[{\"stable\":{\"since\":\"1.0.0\"}}]]}}")
      ≡ Ok ((foo_bar None, (codes "w", (ast.World 0, Stable (release 1 0 0) None ∷ [])) ∷ []) ∷ [])
  pub no_dep_name : deps (codes "{\"foo\":{}}")
      ≡ fault_at (to (codes "foo") ∷ []) expected.PackageName
  pub same_dep : deps (codes "{\"foo:bar\":{},\"foo:bar\":{}}")
      ≡ fault_at (to (codes "foo:bar") ∷ []) expected.NoSecondMember
  pub no_type : deps (codes "{\"foo:bar\":{\"i\":[{\"type\":0},[]]}}")
      ≡ fault_at (to (codes "type") ∷ step.Item 0 ∷ to (codes "i") ∷ to (codes "foo:bar") ∷ [])
      expected.ForeignItem
  -- whole packages
  pub empty : read_from read_package
      (codes "{\"name\":\"foo:bar\",\"worlds\":[],\"interfaces\":[],\"types\":[],"
      ++ codes "\"foreign-deps\":{},\"foreign-dep-spans\":[],"
      ++ codes "\"unknown-type-spans\":[],\"required-resources\":[]}")
      ≡ Ok empty_package
  pub no_lists : read_from read_package (codes "{\"name\":\"foo:bar\"}")
      ≡ fault_at (to (codes "worlds") ∷ []) expected.Member
  -- a world of a package names no package
  pub with_package : read_from read_package
      (codes "{\"name\":\"foo:bar\",\"worlds\":[{\"name\":\"w\","
      ++ codes "\"imports\":{},\"exports\":{},\"package\":null}]}")
      ≡ fault_at (to (codes "package") ∷ step.Item 0 ∷ to (codes "worlds") ∷ []) expected.NoMember
  pub in_package : read_from read_package
      (codes "{\"name\":\"foo:bar\",\"worlds\":[],\"interfaces\":[{\"name\":\"i\","
      ++ codes "\"types\":{},\"functions\":{},\"package\":0}]}")
      ≡ fault_at (to (codes "package") ∷ step.Item 0 ∷ to (codes "interfaces") ∷ [])
      expected.NoMember
  -- files: each begins behind the one before it
  pub files : read_from read_sources
      (codes "[{\"path\":\"a.wit\",\"text\":\"A\"},{\"path\":\"b.wit\",\"text\":\"\"}]")
      ≡ Ok two_files
  pub no_text : read_from read_sources (codes "[{\"path\":\"a.wit\"}]")
      ≡ fault_at (to (codes "text") ∷ step.Item 0 ∷ []) expected.Member
