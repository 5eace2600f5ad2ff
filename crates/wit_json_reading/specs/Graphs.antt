-- What graphs are read from: the layout, in which spans, external ids and the docs of entries may stand as in unresolved
-- packages.
use Rattle.std.specs.Prelude.{ℕ, List, [], ◌∷◌, ◌++◌, length, Ok, codes, if◌then◌else◌, is_some, Result, Err}
use Rattle.std.specs.Map.{lookup}
use Rattle.json.specs.Json.{Json}
use Rattle.wit_names.specs.PackageName.{same_package}
use Rattle.wit_names.specs.declared.package_name.PackageName.{PackageName}
use Rattle.wit_graph_data.specs.declared.graph.Graph.{Graph}
use Rattle.wit_graph_data.specs.declared.graph.Package.{Package}
use Rattle.wit_json_reading.specs.Gates.{read_docs}
use Rattle.wit_json_reading.specs.Packages.{read_package_name}
use Rattle.wit_json_reading.specs.Reading.{Reading, ◌>>=◌, instead_of, read_list, only, read_required, under, read_leaving_out}
use Rattle.wit_json_reading.specs.Tables.{read_named}
use Rattle.wit_json_reading.specs.Types.{read_type_def}
use Rattle.wit_json_reading.specs.Values.{read_number}
use Rattle.wit_json_reading.specs.Worlds.{read_interface, read_world}
use Rattle.wit_json_reading.specs.declared.fault.Expected.TheVariants as expected
use Rattle.wit_json_reading.specs.declared.fault.Step.TheVariants as step

unfoldable pub read_graph_package : Json → Reading Package
read_graph_package j = do
  _ ← only (codes "name" ∷ codes "docs" ∷ codes "interfaces" ∷ codes "worlds" ∷ []) j
  name ← read_required read_package_name (codes "name") j
  docs ← read_docs j
  interfaces ← read_required (read_named read_number) (codes "interfaces") j
  worlds ← read_required (read_named read_number) (codes "worlds") j
  Ok (record { name = name; docs = docs; interfaces = interfaces; worlds = worlds })

-- ---- the names of packages

-- one package more under its name, which no package before it has; its id is the next one
abbrev pub with_home : Package → List (PackageName × ℕ) → Reading (List (PackageName × ℕ))
with_home home names =
    if is_some (lookup (same_package home.name) names) then under (step.Item (length names))
    (under (step.Member (codes "name")) (instead_of expected.NewName))
    else Ok (names ++ (home.name, length names) ∷ [])

-- each package under its name, in order, behind those that are there
abbrev pub homes_from : List (PackageName × ℕ) → List Package → Reading (List (PackageName × ℕ))
homes_from names [] = Ok names
homes_from names (home ∷ homes) = with_home home names >>= λ more. homes_from more homes

-- ---- graphs

-- each thing stands in its list at the index that is its id; what worlds included stands in them
unfoldable pub read_graph : Json → Reading Graph
read_graph j = do
  _ ← only (codes "worlds" ∷ codes "interfaces" ∷ codes "types" ∷ codes "packages" ∷ []) j
  worlds ← read_required (read_list (read_leaving_out (codes "includes") read_world))
      (codes "worlds") j
  interfaces ← read_required (read_list read_interface) (codes "interfaces") j
  types ← read_required (read_list read_type_def) (codes "types") j
  packages ← read_required (read_list read_graph_package) (codes "packages") j
  names ← under (step.Member (codes "packages")) (homes_from [] packages)
  Ok (record {
    types = types;
    interfaces = interfaces;
    worlds = worlds;
    packages = packages;
    package_names = names;
  })
