-- What is answered to questions about a graph.
use Rattle.std.specs.Prelude.{◌≡◌, ◌⊎◌, ℕ, List, [], ◌∷◌, Option, None, Some, Ok, option_and_then, slice_get, codes, bytes_eq, if◌then◌else◌, option_map}
use Rattle.std.specs.Map.{lookup}
use Rattle.std.specs.Option.{option_or}
use Rattle.wit_names.specs.declared.package_name.PackageName.{PackageName}
use Rattle.wit_sources.specs.SourceMap.{Sources}
use Rattle.wit_data.specs.declared.function.Function.{Function}
use Rattle.wit_data.specs.declared.interface.Interface.{Interface}
use Rattle.wit_data.specs.declared.world.World.{World}
use Rattle.wit_data.specs.declared.world.WorldItem.{WorldItem}
use Rattle.wit_data.specs.declared.world.WorldItem.TheVariants as item
use Rattle.wit_data.specs.declared.world.WorldKey.{WorldKey}
use Rattle.wit_data.specs.declared.world.WorldKey.TheVariants as key
use Rattle.wit_graph_data.specs.Named.{interface_in, package_named, world_named}
use Rattle.wit_graph_data.specs.Queries.{canonical_id_text, futures_and_streams as function_futures, interface_direct_deps, package_direct_deps, topological_packages}
use Rattle.wit_graph_data.specs.declared.error_kind.ResolveErrorKind.TheVariants.{OutOfMemory}
use Rattle.wit_graph_data.specs.declared.graph.Graph.{Graph}
use Rattle.wit_queries.specs.Selection.{IsSelectionError, selected_world}
use Rattle.wit_json_commands.specs.Asked.{question_word}
use Rattle.wit_json_commands.specs.declared.commands.questions.FunctionSite.{FunctionSite}
use Rattle.wit_json_commands.specs.declared.commands.questions.FunctionSite.TheVariants as site
use Rattle.wit_json_commands.specs.declared.commands.questions.Question.{Question}
use Rattle.wit_json_commands.specs.declared.commands.questions.Question.TheVariants as question
use Rattle.wit_json_commands.specs.Refusals.{refused}
use Rattle.wit_json_commands.specs.declared.replies.answers.Answer.{Answer}
use Rattle.wit_json_commands.specs.declared.replies.answers.Answer.TheVariants as answer
use Rattle.wit_json_commands.specs.CoreNames.{core_names_of, mangling_and_abi}

-- what is answered of what is there
abbrev pub found : {A : Type 0} → (A → Answer) → Option A → Answer
found f None = answer.NotFound
found f (Some x) = f x

-- ---- which world a text names

-- the ids of packages of these names, where all are there
abbrev pub packages_named : Graph → List PackageName → Option (List ℕ)
packages_named g [] = Some []
packages_named g (name ∷ names) =
    option_and_then (λ id. option_map (λ ids. id ∷ ids) (packages_named g names))
    (package_named g name)

-- the world that a text names among main packages, or an error that says why there is none
abbrev pub TellsSelected : Graph → Sources → List ℕ → Option (List ℕ) → Answer → Type 0
TellsSelected g files mains text (answer.World id) = selected_world g mains text ≡ Ok id
TellsSelected g files mains text (answer.Refused refusal) =
    IsSelectionError (selected_world g mains text) refusal.error
    × (answer.Refused refusal ≡ refused g files (codes "select") [] refusal.error)
TellsSelected g files mains text _ = ⊥

abbrev pub TellsAmong : Graph → Sources → Option (List ℕ) → Option (List ℕ) → Answer → Type 0
TellsAmong g files None text told = told ≡ answer.NotFound
TellsAmong g files (Some mains) text told = TellsSelected g files mains text told

-- ---- functions

abbrev pub interface_id_named : Graph → PackageName → List ℕ → Option ℕ
interface_id_named g home name = option_and_then (interface_in g name) (package_named g home)

-- the function that an entry is, where it has this label
abbrev pub entry_function : List ℕ → WorldKey × WorldItem → Option Function
entry_function label (key.Name name, item.Function f) = if bytes_eq name label then Some f else None
entry_function label _ = None

-- the first function under a label
abbrev pub function_under : List ℕ → List (WorldKey × WorldItem) → Option Function
function_under label [] = None
function_under label (e ∷ es) = option_or (entry_function label e) (function_under label es)

-- a function of an interface, or one that a world imports or exports
abbrev pub function_at : Graph → FunctionSite → PackageName → List ℕ → List ℕ → Option Function
function_at g site.Interface home name f =
    option_and_then (λ (interface : Interface). lookup (bytes_eq f) interface.functions)
    (option_and_then (slice_get g.interfaces) (interface_id_named g home name))
function_at g site.Import home name f =
    option_and_then (λ (world : World). function_under f world.imports)
    (option_and_then (slice_get g.worlds) (world_named g home name))
function_at g site.Export home name f =
    option_and_then (λ (world : World). function_under f world.exports)
    (option_and_then (slice_get g.worlds) (world_named g home name))

-- ---- all questions

-- this is what a question asks about a graph whose spans stand in these files
abbrev pub TellsAnswer : Graph → Sources → Question → Answer → Type 0
TellsAnswer g files (question.Select names text) told =
    TellsAmong g files (packages_named g names) text told
TellsAnswer g files (question.PackageDependencies home) told =
    told
    ≡ found (λ p. answer.Packages (package_direct_deps g.types g.interfaces g.worlds g.packages p))
    (package_named g home)
TellsAnswer g files (question.InterfaceDependencies home name) told =
    told
    ≡ found (λ i. answer.Interfaces (interface_direct_deps g.types g.interfaces i))
    (interface_id_named g home name)
TellsAnswer g files question.PackageOrder told =
    told ≡ answer.Packages (topological_packages g.types g.interfaces g.worlds g.packages)
TellsAnswer g files (question.CanonicalId home name) told =
    told
    ≡ found (λ p. answer.Text (canonical_id_text g.packages p name)) (package_named g home)
TellsAnswer g files (question.CoreNames home world mangling) told =
    told
    ≡ found (λ it. answer.CoreNames (core_names_of g (mangling_and_abi mangling) it))
    (option_and_then (slice_get g.worlds) (world_named g home world))
TellsAnswer g files (question.FuturesAndStreams place) told =
    told
    ≡ found (λ f. answer.Types (function_futures g.types f))
    (function_at g place.site place.«package» place.name place.function)

-- this may be answered: what is asked, or the refusal of memory for it
abbrev pub AnswersQuestion : Graph → Sources → Question → Answer → Type 0
AnswersQuestion g files it told =
    TellsAnswer g files it told ⊎ (told ≡ refused g files (question_word it) [] OutOfMemory)
