-- Interfaces as WIT text has them.
use Rattle.std.specs.Prelude.{ℕ, List, [], ◌++◌, None, codes, flat_map, slice_get, unwrap_or}
use Rattle.std.specs.Map.{values_of}
use Rattle.std.specs.Option.{option_map_or}
use Rattle.wit_data.specs.declared.function.Function.{Function}
use Rattle.wit_data.specs.declared.interface.Interface.{Interface}
use Rattle.wit_data.specs.declared.types.TypeDef.{TypeDef}
use Rattle.wit_graph_data.specs.declared.graph.Graph.{Graph}
use Rattle.wit_print.specs.Definitions.{definition_wit}
use Rattle.wit_print.specs.Functions.{free_wit, method_of}
use Rattle.wit_print.specs.Headings.{block_wit, heading_wit}

-- those of some functions that stand in the braces of resource t, two spaces further in than its definition
unfoldable pub methods_wit : List TypeDef → List ℕ → List Function → ℕ → List ℕ
methods_wit types indent functions t = flat_map (method_of types (indent ++ codes "  ") t) functions

-- what stands in the braces of an interface: its types, then the functions that stand in no resource
unfoldable pub body_wit : Graph → List ℕ → Interface → List ℕ
body_wit g indent interface =
    flat_map (λ (e : List ℕ × ℕ).
    definition_wit g interface.package indent e.1
    (methods_wit g.types indent (values_of interface.functions) e.1)) interface.types
    ++ flat_map (λ (e : List ℕ × Function). free_wit g.types indent [] e.1) interface.functions

-- interface i behind an empty line, if it is there
unfoldable pub interface_wit : Graph → List ℕ → ℕ → List ℕ
interface_wit g indent i =
    option_map_or (λ (interface : Interface).
    codes "\n"
    ++ (heading_wit indent interface.docs interface.stability None
    ++ block_wit indent (codes "interface ") (unwrap_or interface.name [])
    (body_wit g (indent ++ codes "  ") interface)))
    (slice_get g.interfaces i) []
