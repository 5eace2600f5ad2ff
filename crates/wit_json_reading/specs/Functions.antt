-- What functions are read from.
use Rattle.std.specs.Prelude.{ℕ, List, [], ◌∷◌, Ok, codes, if◌then◌else◌, bytes_eq, Option, Some, None, Result, Err}
use Rattle.json.specs.Json.{Json}
use Rattle.json.specs.Json as json
use Rattle.wit_data.specs.declared.function.Function.{Function}
use Rattle.wit_data.specs.declared.function.FunctionKind.{FunctionKind}
use Rattle.wit_data.specs.declared.function.FunctionKind.TheVariants as function
use Rattle.wit_data.specs.declared.function.Param.{Param}
use Rattle.wit_json_reading.specs.Gates.{read_docs, read_span, read_stability}
use Rattle.wit_json_reading.specs.Objects.{read_variant}
use Rattle.wit_json_reading.specs.Reading.{Reading, ◌>>=◌, instead_of, read_list, only, read_optional, read_required}
use Rattle.wit_json_reading.specs.Types.{read_type}
use Rattle.wit_json_reading.specs.Values.{read_number, read_text}
use Rattle.wit_json_reading.specs.declared.fault.Expected.TheVariants as expected

-- a kind of a resource's function
abbrev pub read_resource_kind : List ℕ → ℕ → Reading FunctionKind
read_resource_kind name id =
    if bytes_eq name (codes "method") then Ok (function.Method id)
    else if bytes_eq name (codes "async-method") then Ok (function.AsyncMethod id)
    else if bytes_eq name (codes "static") then Ok (function.Static id)
    else if bytes_eq name (codes "async-static") then Ok (function.AsyncStatic id)
    else if bytes_eq name (codes "constructor") then Ok (function.Constructor id)
    else if bytes_eq name (codes "method-getter") then Ok (function.MethodGetter id)
    else if bytes_eq name (codes "method-setter") then Ok (function.MethodSetter id)
    else if bytes_eq name (codes "static-getter") then Ok (function.StaticGetter id)
    else if bytes_eq name (codes "static-setter") then Ok (function.StaticSetter id)
    else instead_of expected.FunctionKind

-- what a function is: a word, or a word with the id of its resource
unfoldable pub read_function_kind : Json → Reading FunctionKind
read_function_kind (json.string word) =
    if bytes_eq word (codes "freestanding") then Ok function.Freestanding
    else if bytes_eq word (codes "async-freestanding") then Ok function.AsyncFreestanding
    else if bytes_eq word (codes "getter") then Ok function.Getter
    else if bytes_eq word (codes "setter") then Ok function.Setter
    else instead_of expected.FunctionKind
read_function_kind j =
    read_variant (λ name it. read_number it >>= λ id. read_resource_kind name id)
    expected.FunctionKind j

unfoldable pub read_param : Json → Reading Param
read_param j = do
  _ ← only (codes "name" ∷ codes "type" ∷ codes "span" ∷ []) j
  name ← read_required read_text (codes "name") j
  ty ← read_required read_type (codes "type") j
  span ← read_span j
  Ok (record { name = name; ty = ty; span = span })

unfoldable pub read_function : Json → Reading Function
read_function j = do
  _ ← only (codes "name" ∷ codes "kind" ∷ codes "params" ∷ codes "result" ∷ codes "docs"
      ∷ codes "stability" ∷ codes "span" ∷ codes "external-id" ∷ []) j
  name ← read_required read_text (codes "name") j
  kind ← read_required read_function_kind (codes "kind") j
  params ← read_required (read_list read_param) (codes "params") j
  result ← read_optional read_type (codes "result") j
  docs ← read_docs j
  stability ← read_stability j
  span ← read_span j
  external_id ← read_optional read_text (codes "external-id") j
  Ok (record {
    name = name;
    kind = kind;
    params = params;
    result_ = result;
    docs = docs;
    stability = stability;
    span = span;
    external_id = external_id;
  })
