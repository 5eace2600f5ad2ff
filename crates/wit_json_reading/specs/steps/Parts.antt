-- Names for parts of what is read.
use Rattle.std.specs.Prelude.{ℕ, List, Ok}
use Rattle.json.specs.Json.{Json}
use Rattle.wit_sources.specs.SourceMap.{Sources}
use Rattle.wit_data.specs.declared.function.FunctionKind.{FunctionKind}
use Rattle.wit_data.specs.declared.types.TypeDefKind.{TypeDefKind}
use Rattle.wit_data.specs.declared.types.TypeDefKind.TheVariants as kind
use Rattle.wit_data.specs.declared.world.WorldItem.{WorldItem}
use Rattle.wit_data.specs.declared.world.WorldKey.{WorldKey}
use Rattle.wit_json_reading.specs.Functions.{read_resource_kind}
use Rattle.wit_json_reading.specs.Groups.{read_source, with_source}
use Rattle.wit_json_reading.specs.Objects.{read_pair, read_variant}
use Rattle.wit_json_reading.specs.Reading.{Reading, ◌>>=◌, under}
use Rattle.wit_json_reading.specs.Types.{read_type}
use Rattle.wit_json_reading.specs.Values.{read_number, read_small_number}
use Rattle.wit_json_reading.specs.Worlds.{read_item_by, with_entry}
use Rattle.wit_json_reading.specs.declared.fault.Expected.TheVariants as expected
use Rattle.wit_json_reading.specs.declared.fault.Step.TheVariants as step

-- the kind of this name of a function of the resource that a value is
abbrev pub read_function_kind_by : List ℕ → Json → Reading FunctionKind
read_function_kind_by name j = read_number j >>= λ id. read_resource_kind name id

-- the types of keys and of values
abbrev pub read_map : Json → Reading TypeDefKind
read_map j = read_pair read_type read_type j >>= λ parts. Ok (kind.Map parts.0 parts.1)

-- the type of the items, and how many they are
abbrev pub read_fixed_length_list : Json → Reading TypeDefKind
read_fixed_length_list j =
    read_pair read_type read_small_number j >>= λ parts. Ok (kind.FixedLengthList parts.0 parts.1)

-- the sources with the file that a value is behind them
abbrev pub source_behind : Sources → Json → Reading Sources
source_behind sources j = read_source j >>= λ file. with_source sources file

-- the entry of a member behind those that are there
abbrev pub entry_behind : List ℕ → Json → List (WorldKey × WorldItem)
    → Reading (List (WorldKey × WorldItem))
entry_behind name j entries =
    under (step.Member name) (read_variant read_item_by expected.Entry j)
    >>= λ entry. with_entry name entry entries
