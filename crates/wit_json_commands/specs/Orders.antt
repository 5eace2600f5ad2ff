-- What the commands of a document are read from.
use Rattle.std.specs.Prelude.{ℕ, Bool, true, List, [], ◌∷◌, Option, Some, Ok, codes, if◌then◌else◌, bytes_eq}
use Rattle.std.specs.List.{list_any}
use Rattle.json.specs.Json.{Json}
use Rattle.json.specs.Json as json
use Rattle.wit_json_graphs.specs.Resolves.{read_resolve}
use Rattle.wit_json_reading.specs.Objects.{read_variant}
use Rattle.wit_json_reading.specs.Reading.{Reading, ◌>>=◌, instead_of, read_list, only, read_optional, read_required}
use Rattle.wit_json_reading.specs.Values.{read_boolean}
use Rattle.wit_json_reading.specs.declared.fault.Expected.TheVariants as expected
use Rattle.wit_json_layout.specs.Known.{known_part}
use Rattle.wit_json_layout.specs.declared.layout.Layout.TheVariants as layout
use Rattle.wit_json_commands.specs.Changes.{read_change_by}
use Rattle.wit_json_commands.specs.Questions.{read_question_by}
use Rattle.wit_json_commands.specs.declared.commands.orders.Document.{Document}
use Rattle.wit_json_commands.specs.declared.commands.orders.Order.{Order}
use Rattle.wit_json_commands.specs.declared.commands.orders.Order.TheVariants as order
use Rattle.wit_json_commands.specs.declared.commands.orders.Request.{Request}
use Rattle.wit_json_commands.specs.declared.commands.orders.Request.TheVariants as request
use Rattle.wit_json_commands.specs.declared.commands.questions.Question.TheVariants.{PackageOrder}

-- the names of changes
abbrev pub is_change : List ℕ → Bool
is_change name =
    list_any (bytes_eq name)
    (codes "add-feature" ∷ codes "set-all-features" ∷ codes "set-track-rule"
    ∷ codes "push-groups" ∷ codes "importize" ∷ codes "exportize" ∷ codes "semver" ∷ [])

-- the change or the question of a name
abbrev pub read_request_by : List ℕ → Json → Reading Request
read_request_by name j =
    if is_change name then (read_change_by name j >>= λ it. Ok (request.Change it))
    else (read_question_by name j >>= λ it. Ok (request.Ask it))

-- a change or a question, of which one has no parts
unfoldable pub read_request : Json → Reading Request
read_request (json.string word) =
    if bytes_eq word (codes "package-order") then Ok (request.Ask PackageOrder)
    else instead_of expected.Command
read_request j = read_variant read_request_by expected.Command j

abbrev pub read_order_by : List ℕ → Json → Reading Order
read_order_by name j =
    if bytes_eq name (codes "merge")
    then (read_list read_request j >>= λ requests. Ok (order.Merge requests))
    else (read_request_by name j >>= λ it. Ok (order.Request it))

-- a change, a question, or a merge
unfoldable pub read_order : Json → Reading Order
read_order (json.string word) =
    read_request (json.string word) >>= λ it. Ok (order.Request it)
read_order j = read_variant read_order_by expected.Command j

-- `{"resolve": .., "commands": [..]}`; the graph with which a document begins may be left out
unfoldable pub read_strict_document : Json → Reading Document
read_strict_document j = do
  _ ← only (codes "resolve" ∷ codes "commands" ∷ codes "lenient" ∷ []) j
  resolve ← read_optional read_resolve (codes "resolve") j
  commands ← read_required (read_list read_order) (codes "commands") j
  Ok (record { resolve = resolve; commands = commands })

-- the part that the layout has, if a document is to be read leniently, else all of it
abbrev pub part_to_read : Option Bool → Json → Json
part_to_read (Some true) j = known_part layout.Document j
part_to_read _ j = j

-- a document, which may ask for a lenient reading with `"lenient": true`
unfoldable pub read_document : Json → Reading Document
read_document j = do
  lenient ← read_optional read_boolean (codes "lenient") j
  read_strict_document (part_to_read lenient j)
