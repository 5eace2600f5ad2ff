-- What unresolved packages are read from. Each list of a package is a member, and ids are indices in these.
use Rattle.std.specs.Prelude.{ℕ, ◌==◌, List, [], ◌∷◌, ◌++◌, Option, Some, None, Ok, codes, if◌then◌else◌, bytes_eq, is_some, ◌^◌, Result, Err, nat_lt}
use Rattle.std.specs.List.{after_first, before_first, list_any}
use Rattle.std.specs.Map.{lookup}
use Rattle.json.specs.Json.{Json, Members, Items}
use Rattle.json.specs.Json as json
use Rattle.semver.specs.Parse.{version_parts}
use Rattle.wit_values.specs.Version.{Parts}
use Rattle.wit_names.specs.PackageName.{same_package}
use Rattle.wit_names.specs.declared.package_name.PackageName.{PackageName}
use Rattle.wit_data.specs.Foreign.{ForeignItem, ForeignItems}
use Rattle.wit_data.specs.declared.stability.Stability.{Stability}
use Rattle.wit_data.specs.declared.unresolved.AstItem.{AstItem}
use Rattle.wit_data.specs.declared.unresolved.AstItem.TheVariants as item
use Rattle.wit_data.specs.declared.unresolved.UnresolvedPackage.{UnresolvedPackage}
use Rattle.wit_json_reading.specs.Gates.{read_docs, read_any_gate, read_place, read_span}
use Rattle.wit_json_reading.specs.Objects.{read_pair, read_variant}
use Rattle.wit_json_reading.specs.Reading.{Reading, ◌>>=◌, instead_of, read_list, only, read_required, under, read_leaving_out, read_optional}
use Rattle.wit_json_reading.specs.Tables.{read_named}
use Rattle.wit_json_reading.specs.Types.{read_type_def}
use Rattle.wit_json_reading.specs.Values.{read_number, version_in}
use Rattle.wit_json_reading.specs.Worlds.{read_interface, read_world}
use Rattle.wit_json_reading.specs.declared.fault.Expected.TheVariants as expected
use Rattle.wit_json_reading.specs.declared.fault.Step.TheVariants as step

-- ---- names of packages

-- the version behind the `@`, where there is an `@`
abbrev pub version_behind : List ℕ → Reading (Option Parts)
version_behind text =
    if list_any (λ b. b == 64) text
    then (version_in (version_parts (after_first (λ b. b == 64) text))
    >>= λ version. Ok (Some version))
    else Ok None

-- the name in a namespace
abbrev pub name_in : List ℕ → List ℕ → Reading PackageName
name_in namespace text =
    version_behind text >>= λ version.
    Ok (record
    { namespace = namespace; name = before_first (λ b. b == 64) text; version = version })

-- `namespace:name`, and `@version` where there is one
unfoldable pub read_package_name : Json → Reading PackageName
read_package_name (json.string text) =
    if list_any (λ b. b == 58) text then name_in (before_first (λ b. b == 58) text)
    (after_first (λ b. b == 58) text)
    else instead_of expected.PackageName
read_package_name _ = instead_of expected.Text

-- ---- what is named of other packages

abbrev pub read_ast_item_by : List ℕ → Json → Reading AstItem
read_ast_item_by name j =
    if bytes_eq name (codes "interface") then (read_number j >>= λ id. Ok (item.Interface id))
    else if bytes_eq name (codes "world") then (read_number j >>= λ id. Ok (item.World id))
    else instead_of expected.ForeignItem

-- an interface or a world of another package, by its id, with the gates under which it is named
abbrev pub read_foreign_item : Json → Reading (AstItem × List Stability)
read_foreign_item j =
    read_pair (read_variant read_ast_item_by expected.ForeignItem) (read_list read_any_gate) j

-- what is named of one more package, behind those that are there
abbrev pub with_dep : List ℕ → PackageName → List ForeignItem → ForeignItems → Reading ForeignItems
with_dep text name named deps =
    if is_some (lookup (same_package name) deps) then under (step.Member text)
    (instead_of expected.NoSecondMember)
    else Ok (deps ++ (name, named) ∷ [])

abbrev pub read_dep : List ℕ → Json → ForeignItems → Reading ForeignItems
read_dep text j deps = do
  name ← under (step.Member text) (read_package_name (json.string text))
  named ← under (step.Member text) (read_named read_foreign_item j)
  with_dep text name named deps

abbrev pub deps_from : ForeignItems → Members → Reading ForeignItems
deps_from deps json.no_members = Ok deps
deps_from deps (json.member text j ms) = read_dep text j deps >>= λ more. deps_from more ms

-- under the names of packages what is named of each
abbrev pub read_deps : Json → Reading ForeignItems
read_deps (json.object ms) = deps_from [] ms
read_deps _ = instead_of expected.Object

-- ---- packages

-- its worlds and interfaces belong to it, and name no package
unfoldable pub read_package : Json → Reading UnresolvedPackage
read_package j = do
  _ ← only (codes "name" ∷ codes "span" ∷ codes "docs" ∷ codes "worlds" ∷ codes "interfaces"
      ∷ codes "types" ∷ codes "foreign-deps" ∷ codes "foreign-dep-spans"
      ∷ codes "unknown-type-spans" ∷ codes "required-resources" ∷ []) j
  name ← read_required read_package_name (codes "name") j
  span ← read_span j
  docs ← read_docs j
  worlds ← read_required (read_list (read_leaving_out (codes "package") read_world))
      (codes "worlds") j
  interfaces ← read_required (read_list (read_leaving_out (codes "package") read_interface))
      (codes "interfaces") j
  types ← read_required (read_list read_type_def) (codes "types") j
  deps ← read_required read_deps (codes "foreign-deps") j
  dep_spans ← read_required (read_list read_place) (codes "foreign-dep-spans") j
  unknown_spans ← read_required (read_list read_place) (codes "unknown-type-spans") j
  resources ← read_required (read_list (read_pair read_number read_place))
      (codes "required-resources") j
  Ok (record {
    name = name;
    package_name_span = span;
    docs = docs;
    worlds = worlds;
    interfaces = interfaces;
    types = types;
    foreign_deps = deps;
    foreign_dep_spans = dep_spans;
    unknown_type_spans = unknown_spans;
    required_resource_types = resources;
  })
