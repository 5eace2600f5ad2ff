-- Functions as WIT text has them.
use Rattle.std.specs.Prelude.{ℕ, ◌==◌, List, [], ◌++◌, Option, Some, None, slice_get, codes, drop, is_some, bytes_eq, option_and_then, if◌then◌else◌}
use Rattle.std.specs.List.{after_first, join_by}
use Rattle.std.specs.Option.{option_map_or}
use Rattle.wit_data.specs.Function.{accessor_of, resource_of}
use Rattle.wit_data.specs.declared.function.Function.{Function}
use Rattle.wit_data.specs.declared.function.FunctionKind.{FunctionKind}
use Rattle.wit_data.specs.declared.function.FunctionKind.TheVariants as function
use Rattle.wit_data.specs.declared.function.Param.{Param}
use Rattle.wit_data.specs.declared.types.TypeDef.{TypeDef}
use Rattle.wit_data.specs.declared.types.TypeDefKind.{TypeDefKind}
use Rattle.wit_data.specs.declared.types.TypeDefKind.TheVariants as kind
use Rattle.wit_data.specs.declared.types.Type_.{Type_}
use Rattle.wit_data.specs.declared.types.Type_.TheVariants as type
use Rattle.wit_print.specs.Headings.{heading_wit}
use Rattle.wit_print.specs.Names.{name_wit}
use Rattle.wit_print.specs.Types.{type_wit}

-- ---- in whose braces a function stands

-- type r, if it is of the kind of a resource
abbrev pub if_resource : ℕ → TypeDefKind → Option ℕ
if_resource r kind.Resource = Some r
if_resource r _ = None

-- the resource in whose braces a function stands
unfoldable pub resource_around : List TypeDef → FunctionKind → Option ℕ
resource_around types k =
    option_and_then (λ r.
    option_and_then (λ (def : TypeDef). if_resource r def.kind) (slice_get types r)) (resource_of k)

-- ---- parts of a function

-- the words between the name and the parameters
abbrev pub function_form : FunctionKind → List ℕ
function_form function.AsyncFreestanding = codes "async func"
function_form (function.AsyncMethod r) = codes "async func"
function_form (function.Static r) = codes "static func"
function_form (function.StaticGetter r) = codes "static func"
function_form (function.StaticSetter r) = codes "static func"
function_form (function.AsyncStatic r) = codes "static async func"
function_form _ = codes "func"

-- a function up to its parameters
abbrev pub head_wit : FunctionKind → List ℕ → List ℕ
head_wit k name = name_wit name ++ (codes ": " ++ function_form k)

-- the same in the braces of its resource: the name is what stands behind the first dot, 46. That of a
-- function that reads or writes a property stays whole, which is no name in WIT
abbrev pub head_within : FunctionKind → List ℕ → List ℕ
head_within (function.Constructor r) name = codes "constructor"
head_within k name =
    head_wit k (if is_some (accessor_of k) then name else after_first (λ b. b == 46) name)

-- the parameters in the braces of its resource: of a method all but the first, which is the resource
abbrev pub params_within : FunctionKind → List Param → List Param
params_within (function.Method r) params = drop 1 params
params_within (function.AsyncMethod r) params = drop 1 params
params_within (function.MethodGetter r) params = drop 1 params
params_within (function.MethodSetter r) params = drop 1 params
params_within _ params = params

abbrev pub param_wit : List TypeDef → Param → List ℕ
param_wit types p = name_wit p.name ++ (codes ": " ++ type_wit types p.ty)

-- a result behind an arrow; that of a constructor isn't written if it is written as the resource
abbrev pub arrow_wit : List TypeDef → FunctionKind → Option Type_ → List ℕ
arrow_wit types k None = []
arrow_wit types (function.Constructor r) (Some ty) =
    if bytes_eq (type_wit types ty) (type_wit types (type.Id r)) then []
    else codes " -> " ++ type_wit types ty
arrow_wit types k (Some ty) = codes " -> " ++ type_wit types ty

-- ---- functions

-- a function with this head and these parameters
unfoldable pub signature_wit : List TypeDef → List ℕ → Function → List ℕ → List Param → List ℕ
signature_wit types indent f head params =
    heading_wit indent f.docs f.stability f.external_id
    ++ (indent
    ++ (head
    ++ (codes "("
    ++ (join_by (param_wit types) (codes ", ") params
    ++ (codes ")" ++ (arrow_wit types f.kind f.result_ ++ codes ";\n"))))))

-- a function behind a word
abbrev pub function_wit : List TypeDef → List ℕ → List ℕ → Function → List ℕ
function_wit types indent word f =
    signature_wit types indent f (word ++ head_wit f.kind f.name) f.params

-- a function that stands in the braces of no resource
abbrev pub free_wit : List TypeDef → List ℕ → List ℕ → Function → List ℕ
free_wit types indent word f =
    option_map_or (λ r. []) (resource_around types f.kind) (function_wit types indent word f)

-- a function in the braces of its resource
abbrev pub method_wit : List TypeDef → List ℕ → Function → List ℕ
method_wit types indent f =
    signature_wit types indent f (head_within f.kind f.name) (params_within f.kind f.params)

-- a function, if it stands in the braces of resource r
abbrev pub method_of : List TypeDef → List ℕ → ℕ → Function → List ℕ
method_of types indent r f =
    option_map_or (λ around. if around == r then method_wit types indent f else [])
    (resource_around types f.kind) []
