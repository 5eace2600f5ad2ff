-- The boxes of a picture, as lines of DOT.
use Rattle.std.specs.Prelude.{ℕ, List, [], ◌++◌, codes, decimal, flat_map, if◌then◌else◌}
use Rattle.wit_data.specs.Entries.{Entry}
use Rattle.wit_data.specs.declared.world.World.{World}
use Rattle.wit_data.specs.declared.world.WorldItem.TheVariants as item
use Rattle.wit_data.specs.declared.world.WorldKey.TheVariants as key
use Rattle.wit_graph_data.specs.declared.graph.Package.{Package}
use Rattle.witgraph_dot.specs.Sets.{is_one_of}
use Rattle.witgraph_dot.specs.Texts.{quoted_text, quoted_name}
use Rattle.wit_names.specs.declared.package_name.PackageName.{PackageName}

-- the name of package p
abbrev pub name_box : ℕ → PackageName → List ℕ
name_box p owner =
    codes "    p" ++ (decimal p ++ (codes " [shape=plaintext, style=filled, fillcolor=\"#f6f6f3\", fontname=\"Helvetica-Bold\", margin=\"0.02,0.02\", height=0, label=\"" ++ (quoted_name owner ++ codes "\"];\n")))

-- the interfaces of a package that are shown, each with its name
abbrev pub interface_boxes : List ℕ → Package → List ℕ
interface_boxes shown «package» =
    flat_map (λ (e : List ℕ × ℕ).
    if is_one_of shown e.1
    then codes "    i"
    ++ (decimal e.1 ++ (codes " [label=\"" ++ (quoted_text e.0 ++ codes "\"];\n")))
    else [])
    «package».interfaces

-- the line of an entry below the name of its world: of a function or a type under a label
abbrev pub box_line : List ℕ → Entry → List ℕ
box_line word (key.Name label, item.Function function) =
    codes "\\n" ++ (word ++ (codes " func " ++ quoted_text label))
box_line word (key.Name label, item.Type_ id span) =
    codes "\\n" ++ (word ++ (codes " type " ++ quoted_text label))
box_line word _ = []

-- world w, with its functions and types below its name
abbrev pub world_box : ℕ → World → List ℕ
world_box w world =
    (codes "    w"
    ++ (decimal w
    ++ (codes " [shape=component, style=filled, fillcolor=\"#dbe7f6\", label=\""
    ++ quoted_text world.name)))
    ++ (flat_map (box_line (codes "import")) world.imports
    ++ (flat_map (box_line (codes "export")) world.exports ++ codes "\"];\n"))
