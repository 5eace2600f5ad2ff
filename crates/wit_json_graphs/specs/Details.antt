-- What the details of a graph say of its things: spans, external ids, and the docs of entries. What they leave out is
-- unknown, or isn't there.
use Rattle.std.specs.Prelude.{ℕ, suc, List, [], ◌∷◌, Option, Ok, codes, if◌then◌else◌, bytes_eq}
use Rattle.json.specs.Json.{Items, Json, Members}
use Rattle.json.specs.Json as json
use Rattle.wit_data.specs.declared.function.Function.{Function}
use Rattle.wit_data.specs.declared.function.Param.{Param}
use Rattle.wit_data.specs.declared.interface.Interface.{Interface}
use Rattle.wit_data.specs.declared.stability.Docs.{Docs}
use Rattle.wit_data.specs.declared.types.Case.{Case}
use Rattle.wit_data.specs.declared.types.EnumCase.{EnumCase}
use Rattle.wit_data.specs.declared.types.Field.{Field}
use Rattle.wit_data.specs.declared.types.Flag.{Flag}
use Rattle.wit_data.specs.declared.types.TypeDef.{TypeDef}
use Rattle.wit_data.specs.declared.types.TypeDefKind.{TypeDefKind}
use Rattle.wit_data.specs.declared.types.TypeDefKind.TheVariants as kind
use Rattle.wit_data.specs.declared.world.World.{World}
use Rattle.wit_data.specs.declared.world.WorldItem.{WorldItem}
use Rattle.wit_data.specs.declared.world.WorldItem.TheVariants as item
use Rattle.wit_graph_data.specs.declared.graph.Graph.{Graph}
use Rattle.wit_json.specs.Worlds.{entry_name}
use Rattle.wit_json_reading.specs.Gates.{read_docs, read_place, read_span}
use Rattle.wit_json_reading.specs.Reading.{Reading, ◌>>=◌, instead_of, only, read_optional, read_required, under}
use Rattle.wit_json_reading.specs.Values.{read_text}
use Rattle.wit_json_reading.specs.declared.fault.Expected.TheVariants as expected
use Rattle.wit_json_reading.specs.declared.fault.Step.TheVariants as step

-- ---- lists and tables

-- of each of some things, in order; their indices begin with n
abbrev pub things_with : {A : Type 0} → (A → Json → Reading A) → ℕ → List A → Items
    → Reading (List A)
things_with f n [] json.no_items = Ok []
things_with f n (x ∷ xs) (json.item j js) = do
  y ← under (step.Item n) (f x j)
  ys ← things_with f (suc n) xs js
  Ok (y ∷ ys)
things_with f n xs js = instead_of expected.Details

abbrev pub list_with : {A : Type 0} → (A → Json → Reading A) → List A → Json → Reading (List A)
list_with f xs (json.array js) = things_with f 0 xs js
list_with f xs _ = instead_of expected.List

-- of each entry of a table, under its name, in order
abbrev pub entries_with : {K A : Type 0} → (K → List ℕ) → (A → Json → Reading A) → List (K × A)
    → Members → Reading (List (K × A))
entries_with name f [] json.no_members = Ok []
entries_with name f (e ∷ es) (json.member key j ms) =
    if bytes_eq key (name e.0)
    then (under (step.Member key) (f e.1 j) >>= λ x. entries_with name f es ms
    >>= λ more. Ok ((e.0, x) ∷ more))
    else instead_of expected.Details
entries_with name f es ms = instead_of expected.Details

abbrev pub table_with : {K A : Type 0} → (K → List ℕ) → (A → Json → Reading A) → List (K × A) → Json
    → Reading (List (K × A))
table_with name f es (json.object ms) = entries_with name f es ms
table_with name f es _ = instead_of expected.Object

-- ---- types

-- a thing with the span that a value is
abbrev pub with_span : {A : Type 0} → (A → Option (ℕ × ℕ) → A) → A → Json → Reading A
with_span set x j = read_place j >>= λ span. Ok (set x span)

-- the fields, the flags or the cases of a type that has some; of another type there is nothing to say
unfoldable pub kind_with : TypeDefKind → Json → Reading TypeDefKind
kind_with (kind.Record fields) j =
    read_required (list_with (with_span (λ (f : Field) span. record f { span = span })) fields)
    (codes "parts") j >>= λ parts. Ok (kind.Record parts)
kind_with (kind.Flags flags) j =
    read_required (list_with (with_span (λ (f : Flag) span. record f { span = span })) flags)
    (codes "parts") j >>= λ parts. Ok (kind.Flags parts)
kind_with (kind.Variant cases) j =
    read_required (list_with (with_span (λ (c : Case) span. record c { span = span })) cases)
    (codes "parts") j >>= λ parts. Ok (kind.Variant parts)
kind_with (kind.Enum cases) j =
    read_required (list_with (with_span (λ (c : EnumCase) span. record c { span = span })) cases)
    (codes "parts") j >>= λ parts. Ok (kind.Enum parts)
kind_with k j = only (codes "span" ∷ codes "external-id" ∷ []) j >>= λ _. Ok k

unfoldable pub type_with_details : TypeDef → Json → Reading TypeDef
type_with_details def j = do
  _ ← only (codes "span" ∷ codes "external-id" ∷ codes "parts" ∷ []) j
  span ← read_span j
  external_id ← read_optional read_text (codes "external-id") j
  k ← kind_with def.kind j
  Ok (record def { span = span; external_id = external_id; kind = k })

-- ---- functions and interfaces

unfoldable pub function_with_details : Function → Json → Reading Function
function_with_details f j = do
  _ ← only (codes "span" ∷ codes "external-id" ∷ codes "params" ∷ []) j
  span ← read_span j
  external_id ← read_optional read_text (codes "external-id") j
  params ← read_required
      (list_with (with_span (λ (p : Param) span. record p { span = span })) f.params)
      (codes "params") j
  Ok (record f { span = span; external_id = external_id; params = params })

unfoldable pub interface_with : Interface → Json → Reading Interface
interface_with interface j = do
  _ ← only (codes "span" ∷ codes "functions" ∷ []) j
  span ← read_span j
  functions ← read_required
      (table_with (λ (name : List ℕ). name) function_with_details interface.functions)
      (codes "functions") j
  Ok (record interface { span = span; functions = functions })

-- ---- worlds

-- the docs, the span and the external id of an interface that a world imports or exports
unfoldable pub entry_with : Json → Reading (Docs × Option (ℕ × ℕ) × Option (List ℕ))
entry_with j = do
  _ ← only (codes "docs" ∷ codes "span" ∷ codes "external-id" ∷ []) j
  docs ← read_docs j
  span ← read_span j
  external_id ← read_optional read_text (codes "external-id") j
  Ok (docs, span, external_id)

-- the span of a type of a world
unfoldable pub span_alone : Json → Reading (Option (ℕ × ℕ))
span_alone j = do
  _ ← only (codes "span" ∷ []) j
  read_span j

-- what a world imports or exports
unfoldable pub item_with : WorldItem → Json → Reading WorldItem
item_with (item.Interface id stability _ _ _) j =
    entry_with j >>= λ e. Ok (item.Interface id stability e.0 e.1 e.2)
item_with (item.Function f) j = function_with_details f j >>= λ g. Ok (item.Function g)
item_with (item.Type_ id _) j = span_alone j >>= λ span. Ok (item.Type_ id span)

unfoldable pub world_with : World → Json → Reading World
world_with world j = do
  _ ← only (codes "span" ∷ codes "imports" ∷ codes "exports" ∷ []) j
  span ← read_span j
  imports ← read_required (table_with entry_name item_with world.imports) (codes "imports") j
  exports ← read_required (table_with entry_name item_with world.exports) (codes "exports") j
  Ok (record world { span = span; imports = imports; exports = exports })

-- ---- graphs

unfoldable pub graph_with : Graph → Json → Reading Graph
graph_with graph j = do
  _ ← only (codes "worlds" ∷ codes "interfaces" ∷ codes "types" ∷ []) j
  worlds ← read_required (list_with world_with graph.worlds) (codes "worlds") j
  interfaces ← read_required (list_with interface_with graph.interfaces) (codes "interfaces") j
  types ← read_required (list_with type_with_details graph.types) (codes "types") j
  Ok (record graph { worlds = worlds; interfaces = interfaces; types = types })
