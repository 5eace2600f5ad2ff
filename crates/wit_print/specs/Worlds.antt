-- Worlds as WIT text has them.
use Rattle.std.specs.Prelude.{ℕ, List, [], ◌∷◌, ◌++◌, Option, None, slice_get, codes, flat_map}
use Rattle.std.specs.Option.{option_map_or}
use Rattle.wit_data.specs.Entries.{Entry}
use Rattle.wit_data.specs.declared.function.Function.{Function}
use Rattle.wit_data.specs.declared.interface.Interface.{Interface}
use Rattle.wit_data.specs.declared.types.TypeDef.{TypeDef}
use Rattle.wit_data.specs.declared.world.World.{World}
use Rattle.wit_data.specs.declared.world.WorldItem.{WorldItem}
use Rattle.wit_data.specs.declared.world.WorldItem.TheVariants as item
use Rattle.wit_data.specs.declared.world.WorldKey.{WorldKey}
use Rattle.wit_data.specs.declared.world.WorldKey.TheVariants as key
use Rattle.wit_graph_data.specs.declared.graph.Graph.{Graph}
use Rattle.wit_print.specs.Definitions.{definition_wit}
use Rattle.wit_print.specs.Functions.{free_wit, function_wit}
use Rattle.wit_print.specs.Headings.{block_wit, heading_wit}
use Rattle.wit_print.specs.Interfaces.{body_wit, methods_wit}
use Rattle.wit_print.specs.Names.{name_wit, path_wit}
use Rattle.wit_print.specs.declared.worlds.Side.{Side}
use Rattle.wit_print.specs.declared.worlds.Side.TheVariants as side

-- the word before an entry
abbrev pub word_before : Side → List ℕ
word_before side.Import = codes "import "
word_before side.Export = codes "export "

-- `label: `, of an entry under a label
abbrev pub label_wit : WorldKey → List ℕ
label_wit (key.Interface i) = []
label_wit (key.Name label) = name_wit label ++ codes ": "

-- interface i in an entry of a world of a package: its path, or what stands in its braces if it has no name
abbrev pub path_or_body : Graph → Option ℕ → List ℕ → ℕ → Interface → List ℕ
path_or_body g home indent i interface =
    option_map_or (λ name. path_wit g home i ++ codes ";\n") interface.name
    (codes "interface {\n"
    ++ (body_wit g (indent ++ codes "  ") interface ++ (indent ++ codes "}\n")))

-- the function of an entry; an imported one of a resource stands with the resource
abbrev pub function_entry : List TypeDef → List ℕ → Side → Function → List ℕ
function_entry types indent side.Import f = free_wit types indent (codes "import ") f
function_entry types indent side.Export f = function_wit types indent (codes "export ") f

-- an entry, where `methods` writes the functions of a resource. An interface in place has its own documentation
abbrev pub entry_wit : Graph → Option ℕ → List ℕ → (ℕ → List ℕ) → Side → WorldKey → WorldItem
    → List ℕ
entry_wit g home indent methods s k (item.Interface i stability docs span external_id) =
    option_map_or (λ (interface : Interface).
    heading_wit indent (option_map_or (λ name. docs) interface.name interface.docs) stability
    external_id
    ++ (indent ++ (word_before s ++ (label_wit k ++ path_or_body g home indent i interface))))
    (slice_get g.interfaces i) []
entry_wit g home indent methods s k (item.Function f) = function_entry g.types indent s f
entry_wit g home indent methods s k (item.Type_ t span) =
    definition_wit g home indent t (methods t)

-- the entries of a side
abbrev pub side_wit : Graph → Option ℕ → List ℕ → (ℕ → List ℕ) → Side → List Entry → List ℕ
side_wit g home indent methods s entries =
    flat_map (λ (e : Entry). entry_wit g home indent methods s e.0 e.1) entries

-- the function of an item
abbrev pub item_functions : WorldItem → List Function
item_functions (item.Function f) = f ∷ []
item_functions _ = []

-- the entries of a world, first its imports; the functions of its resources are imported, too
unfoldable pub entries_wit : Graph → List ℕ → World → List ℕ
entries_wit g indent world =
    let methods = methods_wit g.types indent
    (flat_map (λ (e : Entry). item_functions e.1) world.imports) in
    side_wit g world.package indent methods side.Import world.imports
    ++ side_wit g world.package indent methods side.Export world.exports

-- world w behind an empty line, if it is there
unfoldable pub world_wit : Graph → List ℕ → ℕ → List ℕ
world_wit g indent w =
    option_map_or (λ (world : World).
    codes "\n"
    ++ (heading_wit indent world.docs world.stability None
    ++ block_wit indent (codes "world ") world.name
    (entries_wit g (indent ++ codes "  ") world)))
    (slice_get g.worlds w) []
