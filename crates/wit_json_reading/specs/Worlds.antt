-- What interfaces and worlds are read from, of graphs (which have no `includes`) and of unresolved packages (which have no
-- `package`).
use Rattle.std.specs.Prelude.{ℕ, List, [], ◌∷◌, ◌++◌, None, Ok, codes, decimal, drop, if◌then◌else◌, bytes_eq, is_some, nat_eq, Result, Err}
use Rattle.json.specs.Find.{get}
use Rattle.std.specs.List.{list_any, starts_with}
use Rattle.std.specs.Map.{lookup}
use Rattle.json.specs.Json.{Json, Members}
use Rattle.json.specs.Json as json
use Rattle.wit_data.specs.facts.WorldKeyFacts.{same_key}
use Rattle.wit_data.specs.declared.interface.Interface.{Interface}
use Rattle.wit_data.specs.declared.world.IncludeName.{IncludeName}
use Rattle.wit_data.specs.declared.world.World.{World}
use Rattle.wit_data.specs.declared.world.WorldInclude.{WorldInclude}
use Rattle.wit_data.specs.declared.world.WorldItem.{WorldItem}
use Rattle.wit_data.specs.declared.world.WorldItem.TheVariants as item
use Rattle.wit_data.specs.declared.world.WorldKey.{WorldKey}
use Rattle.wit_data.specs.declared.world.WorldKey.TheVariants as key
use Rattle.wit_json_reading.specs.Functions.{read_function}
use Rattle.wit_json_reading.specs.Gates.{read_docs, read_span, read_stability}
use Rattle.wit_json_reading.specs.Objects.{read_variant, one_member}
use Rattle.wit_json_reading.specs.Reading.{Reading, ◌>>=◌, instead_of, read_list, only, read_optional, read_required, under, read_or}
use Rattle.wit_json_reading.specs.Tables.{read_named}
use Rattle.wit_json_reading.specs.Values.{nullable, read_number, read_text}
use Rattle.wit_json_reading.specs.declared.fault.Expected.TheVariants as expected
use Rattle.wit_json_reading.specs.declared.fault.Step.TheVariants as step

-- it belongs to no package where that is left out or `null`
unfoldable pub read_interface : Json → Reading Interface
read_interface j = do
  _ ← only (codes "name" ∷ codes "types" ∷ codes "functions" ∷ codes "docs" ∷ codes "stability"
      ∷ codes "package" ∷ codes "span" ∷ []) j
  name ← read_required (nullable read_text) (codes "name") j
  types ← read_required (read_named read_number) (codes "types") j
  functions ← read_required (read_named read_function) (codes "functions") j
  docs ← read_docs j
  stability ← read_stability j
  home ← read_or (nullable read_number) None (codes "package") j
  span ← read_span j
  Ok (record {
    name = name;
    types = types;
    functions = functions;
    docs = docs;
    stability = stability;
    «package» = home;
    span = span;
  })

-- ---- entries of worlds

unfoldable pub read_interface_entry : Json → Reading WorldItem
read_interface_entry j = do
  _ ← only (codes "id" ∷ codes "stability" ∷ codes "docs" ∷ codes "span" ∷ codes "external-id" ∷ [])
      j
  id ← read_required read_number (codes "id") j
  stability ← read_stability j
  docs ← read_docs j
  span ← read_span j
  external_id ← read_optional read_text (codes "external-id") j
  Ok (item.Interface id stability docs span external_id)

-- an id with a span
unfoldable pub read_placed_type : Json → Reading WorldItem
read_placed_type j = do
  _ ← only (codes "id" ∷ codes "span" ∷ []) j
  id ← read_required read_number (codes "id") j
  span ← read_span j
  Ok (item.Type_ id span)

-- an id alone, or with a span
abbrev pub read_type_entry : Json → Reading WorldItem
read_type_entry (json.object ms) = read_placed_type (json.object ms)
read_type_entry j = read_number j >>= λ id. Ok (item.Type_ id None)

-- what a world imports or exports
abbrev pub read_item_by : List ℕ → Json → Reading WorldItem
read_item_by name j =
    if bytes_eq name (codes "interface") then read_interface_entry j
    else if bytes_eq name (codes "function") then (read_function j >>= λ f. Ok (item.Function f))
    else if bytes_eq name (codes "type") then read_type_entry j
    else instead_of expected.Entry

-- a name without a mark: the key of an interface where it is `interface-` and its id, else a label
abbrev pub plain_key : List ℕ → WorldItem → WorldKey
plain_key name (item.Interface id stability docs span external_id) =
    if bytes_eq name (codes "interface-" ++ decimal id) then key.Interface id else key.Name name
plain_key name (item.Function f) = key.Name name
plain_key name (item.Type_ id span) = key.Name name

-- the key of an entry under a name: the label behind the mark `%`, or what the name says without that mark
abbrev pub read_key : List ℕ → WorldItem → WorldKey
read_key name entry =
    if starts_with nat_eq name (codes "%") then key.Name (drop 1 name) else plain_key name entry

-- an entry behind those that are there, under a key that isn't there yet
abbrev pub with_entry : List ℕ → WorldItem → List (WorldKey × WorldItem)
    → Reading (List (WorldKey × WorldItem))
with_entry name entry entries =
    if is_some (lookup (same_key (read_key name entry)) entries) then under (step.Member name)
    (instead_of expected.NoSecondMember)
    else Ok (entries ++ (read_key name entry, entry) ∷ [])

-- the entries of members, behind those that are there
abbrev pub entries_from : List (WorldKey × WorldItem) → Members
    → Reading (List (WorldKey × WorldItem))
entries_from entries json.no_members = Ok entries
entries_from entries (json.member name j ms) =
    (under (step.Member name) (read_variant read_item_by expected.Entry j)
    >>= λ entry. with_entry name entry entries) >>= λ more. entries_from more ms

-- no name is one of the earlier ones, or stands twice
abbrev pub names_differ : List (List ℕ) → Members → Reading (Unit {0})
names_differ earlier json.no_members = Ok tt
names_differ earlier (json.member name j ms) =
    if list_any (bytes_eq name) earlier then under (step.Member name)
    (instead_of expected.NoSecondMember)
    else names_differ (earlier ++ name ∷ []) ms

-- the entries of a world, whose names and keys differ
abbrev pub read_entries : Json → Reading (List (WorldKey × WorldItem))
read_entries (json.object ms) = names_differ [] ms >>= λ _. entries_from [] ms
read_entries _ = instead_of expected.Object

-- ---- worlds

unfoldable pub read_include_name : Json → Reading IncludeName
read_include_name j = do
  _ ← only (codes "name" ∷ codes "as" ∷ []) j
  name ← read_required read_text (codes "name") j
  as_ ← read_required read_text (codes "as") j
  Ok (record { name = name; as_ = as_ })

unfoldable pub read_include : Json → Reading WorldInclude
read_include j = do
  _ ← only (codes "id" ∷ codes "names" ∷ codes "stability" ∷ codes "span" ∷ []) j
  id ← read_required read_number (codes "id") j
  names ← read_required (read_list read_include_name) (codes "names") j
  stability ← read_stability j
  span ← read_span j
  Ok (record { stability = stability; id = id; names = names; span = span })

-- it includes nothing, and belongs to no package, where that is left out
unfoldable pub read_world : Json → Reading World
read_world j = do
  _ ← only (codes "name" ∷ codes "imports" ∷ codes "exports" ∷ codes "includes" ∷ codes "docs"
      ∷ codes "stability" ∷ codes "package" ∷ codes "span" ∷ []) j
  name ← read_required read_text (codes "name") j
  imports ← read_required read_entries (codes "imports") j
  exports ← read_required read_entries (codes "exports") j
  includes ← read_or (read_list read_include) [] (codes "includes") j
  docs ← read_docs j
  stability ← read_stability j
  home ← read_or (nullable read_number) None (codes "package") j
  span ← read_span j
  Ok (record {
    name = name;
    imports = imports;
    exports = exports;
    docs = docs;
    stability = stability;
    «package» = home;
    includes = includes;
    span = span;
  })
