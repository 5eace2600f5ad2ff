-- What questions about a graph are read from.
use Rattle.std.specs.Prelude.{ℕ, List, [], ◌∷◌, Ok, codes, if◌then◌else◌, bytes_eq}
use Rattle.json.specs.Json.{Json}
use Rattle.json.specs.Json as json
use Rattle.wit_json_reading.specs.Objects.{alone, read_variant}
use Rattle.wit_json_reading.specs.Packages.{read_package_name}
use Rattle.wit_json_reading.specs.Reading.{Reading, ◌>>=◌, instead_of, read_list, only, read_optional, read_required}
use Rattle.wit_json_reading.specs.Values.{read_text}
use Rattle.wit_json_reading.specs.declared.fault.Expected.TheVariants as expected
use Rattle.wit_json_commands.specs.declared.commands.questions.FunctionPlace.{FunctionPlace}
use Rattle.wit_json_commands.specs.declared.commands.questions.FunctionSite.{FunctionSite}
use Rattle.wit_json_commands.specs.declared.commands.questions.FunctionSite.TheVariants as site
use Rattle.wit_json_commands.specs.declared.commands.questions.Mangling.{Mangling}
use Rattle.wit_json_commands.specs.declared.commands.questions.Mangling.TheVariants.{LegacyAsyncCallback, LegacyAsyncStackful, LegacySync, Standard32}
use Rattle.wit_json_commands.specs.declared.commands.questions.Question.{Question}
use Rattle.wit_json_commands.specs.declared.commands.questions.Question.TheVariants as question

unfoldable pub read_select : Json → Reading Question
read_select j = do
  _ ← only (codes "packages" ∷ codes "world" ∷ []) j
  packages ← read_required (read_list read_package_name) (codes "packages") j
  world ← read_optional read_text (codes "world") j
  Ok (question.Select packages world)

unfoldable pub read_interface_question : Json → Reading Question
read_interface_question j = do
  _ ← only (codes "package" ∷ codes "interface" ∷ []) j
  home ← read_required read_package_name (codes "package") j
  interface ← read_required read_text (codes "interface") j
  Ok (question.InterfaceDependencies home interface)

unfoldable pub read_canonical_id : Json → Reading Question
read_canonical_id j = do
  _ ← only (codes "package" ∷ codes "name" ∷ []) j
  home ← read_required read_package_name (codes "package") j
  name ← read_required read_text (codes "name") j
  Ok (question.CanonicalId home name)

-- ---- names of core wasm

-- a mangling by its name
unfoldable pub read_mangling : Json → Reading Mangling
read_mangling (json.string word) =
    if bytes_eq word (codes "standard32") then Ok Standard32
    else if bytes_eq word (codes "legacy-sync") then Ok LegacySync
    else if bytes_eq word (codes "legacy-async-callback") then Ok LegacyAsyncCallback
    else if bytes_eq word (codes "legacy-async-stackful") then Ok LegacyAsyncStackful
    else instead_of expected.Mangling
read_mangling _ = instead_of expected.Text

unfoldable pub read_core_names : Json → Reading Question
read_core_names j = do
  _ ← only (codes "package" ∷ codes "world" ∷ codes "mangling" ∷ []) j
  home ← read_required read_package_name (codes "package") j
  world ← read_required read_text (codes "world") j
  mangling ← read_required read_mangling (codes "mangling") j
  Ok (question.CoreNames home world mangling)

-- ---- functions

unfoldable pub read_place_in : FunctionSite → Json → Reading FunctionPlace
read_place_in site j = do
  _ ← only (codes "package" ∷ codes "name" ∷ codes "function" ∷ []) j
  home ← read_required read_package_name (codes "package") j
  name ← read_required read_text (codes "name") j
  function ← read_required read_text (codes "function") j
  Ok (record { site = site; «package» = home; name = name; function = function })

-- a function of an interface or a world
abbrev pub read_function_place_by : List ℕ → Json → Reading FunctionPlace
read_function_place_by name j =
    if bytes_eq name (codes "interface") then read_place_in site.Interface j
    else if bytes_eq name (codes "import") then read_place_in site.Import j
    else if bytes_eq name (codes "export") then read_place_in site.Export j
    else instead_of expected.FunctionPlace

-- the question of a name
unfoldable pub read_question_by : List ℕ → Json → Reading Question
read_question_by name j =
    if bytes_eq name (codes "select") then read_select j
    else if bytes_eq name (codes "package-dependencies")
    then (alone read_package_name (codes "package") j
    >>= λ home. Ok (question.PackageDependencies home))
    else if bytes_eq name (codes "interface-dependencies") then read_interface_question j
    else if bytes_eq name (codes "canonical-id") then read_canonical_id j
    else if bytes_eq name (codes "core-names") then read_core_names j
    else if bytes_eq name (codes "futures-and-streams")
    then (read_variant read_function_place_by expected.FunctionPlace j
    >>= λ place. Ok (question.FuturesAndStreams place))
    else instead_of expected.Command
