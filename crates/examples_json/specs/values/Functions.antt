-- Functions of each kind.
use Rattle.std.specs.Prelude.{◌≡◌, ◌≢◌, ℕ, List, [], ◌∷◌, ◌++◌, Some, None, codes}
use Rattle.wit_data.specs.New.{new_function}
use Rattle.wit_data.specs.declared.function.Function.{Function}
use Rattle.wit_data.specs.declared.function.FunctionKind.{FunctionKind}
use Rattle.wit_data.specs.declared.function.FunctionKind.TheVariants as function
use Rattle.wit_data.specs.declared.function.Param.{Param}
use Rattle.wit_data.specs.declared.types.Type_.TheVariants as type
use Rattle.wit_json.specs.Functions.{json_of_function, json_of_function_kind}
use Rattle.wit_json.specs.Graph.{compact}
use Rattle.examples_json.specs.values.Gates.{docs_of}

abbrev pub kind_text : FunctionKind → List ℕ
kind_text k = compact (json_of_function_kind k)

abbrev pub a_param : Param
a_param = record { name = codes "a"; ty = type.Id 2; span = None }

-- f, a method of type 7 with a parameter and a result
abbrev pub a_method : Function
a_method = new_function (codes "f") (function.Method 7) (a_param ∷ []) (Some type.U8)

pub record ExamplesOfFunctions : Type 0 where
  pub free : kind_text function.Freestanding ≡ codes "\"freestanding\""
  pub async : kind_text function.AsyncFreestanding ≡ codes "\"async-freestanding\""
  pub not_sync : kind_text function.AsyncFreestanding ≢ codes "\"freestanding\""
  pub method : kind_text (function.Method 7) ≡ codes "{\"method\":7}"
  pub not_static : kind_text (function.Method 7) ≢ codes "{\"static\":7}"
  pub not_next : kind_text (function.Method 7) ≢ codes "{\"method\":8}"
  pub async_method : kind_text (function.AsyncMethod 7) ≡ codes "{\"async-method\":7}"
  pub static : kind_text (function.Static 7) ≡ codes "{\"static\":7}"
  pub async_static : kind_text (function.AsyncStatic 7) ≡ codes "{\"async-static\":7}"
  pub constructor : kind_text (function.Constructor 7) ≡ codes "{\"constructor\":7}"
  pub getter : kind_text function.Getter ≡ codes "\"getter\""
  pub setter : kind_text function.Setter ≡ codes "\"setter\""
  pub method_getter : kind_text (function.MethodGetter 7) ≡ codes "{\"method-getter\":7}"
  pub method_setter : kind_text (function.MethodSetter 7) ≡ codes "{\"method-setter\":7}"
  pub static_getter : kind_text (function.StaticGetter 7) ≡ codes "{\"static-getter\":7}"
  pub static_setter : kind_text (function.StaticSetter 7) ≡ codes "{\"static-setter\":7}"
  -- a whole function; where there is no result the member is left out
  pub whole : compact (json_of_function a_method)
      ≡ codes "{\"name\":\"f\",\"kind\":{\"method\":7},"
      ++ codes "\"params\":[{\"name\":\"a\",\"type\":2}],\"result\":\"u8\"}"
  pub no_param_dropped : compact (json_of_function a_method)
      ≢ codes "{\"name\":\"f\",\"kind\":{\"method\":7},\"params\":[],\"result\":\"u8\"}"
  pub not_results : compact (json_of_function a_method)
      ≢ codes "{\"name\":\"f\",\"kind\":{\"method\":7},"
      ++ codes "\"params\":[{\"name\":\"a\",\"type\":2}],\"results\":[\"u8\"]}"
  pub no_result : compact
      (json_of_function (new_function (codes "g") function.Freestanding [] None))
      ≡ codes "{\"name\":\"g\",\"kind\":\"freestanding\",\"params\":[]}"
  pub not_null : compact (json_of_function (new_function (codes "g") function.Freestanding [] None))
      ≢ codes "{\"name\":\"g\",\"kind\":\"freestanding\",\"params\":[],\"result\":null}"
  pub docs : compact
      (json_of_function (record (new_function (codes "g") function.Freestanding [] None)
      { docs = docs_of (Some (codes "G.")) }))
      ≡ codes
      "{\"name\":\"g\",\"kind\":\"freestanding\",\"params\":[],\"docs\":{\"contents\":\"G.\"}}"
