-- Functions as JSON.
use Rattle.std.specs.Prelude.{ℕ, List, ◌++◌, codes}
use Rattle.std.specs.Option.{option_map}
use Rattle.json.specs.Json.{Json}
use Rattle.wit_data.specs.declared.function.Function.{Function}
use Rattle.wit_data.specs.declared.function.FunctionKind.{FunctionKind}
use Rattle.wit_data.specs.declared.function.FunctionKind.TheVariants as function
use Rattle.wit_data.specs.declared.function.Param.{Param}
use Rattle.wit_json.specs.Gates.{docs_member, stability_member}
use Rattle.wit_json.specs.Types.{json_of_type}
use Rattle.wit_json.specs.Values.{json_of_number, json_of_text, list_of, member, object, optional, tagged}

-- what a function is: a word, with the id of the resource that it belongs to
abbrev pub json_of_function_kind : FunctionKind → Json
json_of_function_kind function.Freestanding = json_of_text (codes "freestanding")
json_of_function_kind function.AsyncFreestanding = json_of_text (codes "async-freestanding")
json_of_function_kind (function.Method id) = tagged (codes "method") (json_of_number id)
json_of_function_kind (function.AsyncMethod id) = tagged (codes "async-method") (json_of_number id)
json_of_function_kind (function.Static id) = tagged (codes "static") (json_of_number id)
json_of_function_kind (function.AsyncStatic id) = tagged (codes "async-static") (json_of_number id)
json_of_function_kind (function.Constructor id) = tagged (codes "constructor") (json_of_number id)
json_of_function_kind function.Getter = json_of_text (codes "getter")
json_of_function_kind function.Setter = json_of_text (codes "setter")
json_of_function_kind (function.MethodGetter id) =
    tagged (codes "method-getter") (json_of_number id)
json_of_function_kind (function.MethodSetter id) =
    tagged (codes "method-setter") (json_of_number id)
json_of_function_kind (function.StaticGetter id) =
    tagged (codes "static-getter") (json_of_number id)
json_of_function_kind (function.StaticSetter id) =
    tagged (codes "static-setter") (json_of_number id)

abbrev pub json_of_param : Param → Json
json_of_param p =
    object
    (member (codes "name") (json_of_text p.name) ++ member (codes "type") (json_of_type p.ty))

abbrev pub json_of_function : Function → Json
json_of_function f =
    object (member (codes "name") (json_of_text f.name)
    ++ member (codes "kind") (json_of_function_kind f.kind) ++ member (codes "params")
    (list_of json_of_param f.params)
    ++ optional (codes "result") (option_map json_of_type f.result_) ++ docs_member f.docs
    ++ stability_member f.stability)
