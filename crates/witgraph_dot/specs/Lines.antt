-- The arrows of a picture, as lines of DOT.
use Rattle.std.specs.Prelude.{◌-◌, ℕ, List, [], ◌++◌, ◌==◌, Option, None, Some, codes, decimal, filter, filter_map, fold, if◌then◌else◌, length, nat_eq, nat_lt, slice_get}
use Rattle.std.specs.List.{flat_map}
use Rattle.std.specs.Option.{option_map_or}
use Rattle.wit_data.specs.Entries.{Entry}
use Rattle.wit_data.specs.declared.world.World.{World}
use Rattle.wit_data.specs.declared.world.WorldItem.TheVariants as item
use Rattle.wit_data.specs.declared.world.WorldKey.TheVariants as key
use Rattle.wit_digraph.specs.PostOrder.{first_of_each}
use Rattle.wit_graph_data.specs.declared.graph.Package.{Package}
use Rattle.witgraph_dot.specs.Frames.{has_inner_frame}
use Rattle.witgraph_dot.specs.Labels.{labelled_interface}
use Rattle.witgraph_dot.specs.Scene.{View, uses_arrows, entry_arrows}
use Rattle.witgraph_dot.specs.Sets.{is_one_of}
use Rattle.witgraph_dot.specs.Texts.{quoted_text}
use Rattle.witgraph_dot.specs.declared.arrow.Arrow.{Arrow}
use Rattle.witgraph_dot.specs.declared.arrow.ArrowKind.{ArrowKind}
use Rattle.witgraph_dot.specs.declared.arrow.ArrowKind.TheVariants as kind
use Rattle.witgraph_dot.specs.declared.arrow.Target.{Target}
use Rattle.witgraph_dot.specs.declared.arrow.Target.TheVariants as target

-- what an arrow of a kind looks like
abbrev pub look : ArrowKind → List ℕ
look kind.Used = codes "color=\"#8a8a8a\""
look kind.Listed = codes "color=\"#1f5fa8\""
look kind.Added = codes "color=\"#d1660f\", style=dashed"
look kind.Exported = codes "color=\"#2e7d32\", arrowhead=diamond"

-- ---- arrows without labels

-- the end of an arrow of this look at the interface, i, or the world, w, of an index
abbrev pub thing_end : List ℕ → ℕ → List ℕ → List ℕ
thing_end letter n attributes =
    letter ++ (decimal n ++ (codes " [" ++ (attributes ++ codes "];\n")))

-- the end of an arrow at the frame of package p: it leads to an interface in it, and ends at the frame
abbrev pub frame_end : ℕ → List ℕ → List ℕ → ℕ → List ℕ
frame_end p suffix attributes i =
    codes "i"
    ++ (decimal i
    ++ (codes " ["
    ++ (attributes ++ (codes ", lhead=cluster_" ++ (decimal p ++ (suffix ++ codes "];\n"))))))

-- the end of an arrow at the frame that holds the interfaces of package p, its own or one in that: it leads to the last of them
abbrev pub end_at_frame : View → ℕ → List ℕ → List ℕ
end_at_frame v p attributes =
    option_map_or (λ (owner : Package).
    option_map_or (λ interfaces.
    let is_inner = has_inner_frame v.worlds owner (length interfaces) in
    option_map_or (frame_end p (if is_inner then codes "_interfaces" else []) attributes)
    (slice_get interfaces (length interfaces - 1)) [])
    (slice_get v.frames p) [])
    (slice_get v.graph.packages p) []

-- the end of an arrow
abbrev pub arrow_end : View → Target → List ℕ → List ℕ
arrow_end v (target.Interface i) attributes = thing_end (codes "i") i attributes
arrow_end v (target.World w) attributes = thing_end (codes "w") w attributes
arrow_end v (target.Frame p) attributes = end_at_frame v p attributes

-- an arrow from the interface, i, or the world, w, of an index
abbrev pub arrow_line : View → List ℕ → ℕ → Arrow → List ℕ
arrow_line v letter n arrow =
    codes "  "
    ++ (letter ++ (decimal n ++ (codes " -> " ++ arrow_end v arrow.target (look arrow.kind))))

-- the arrows from interface i, where it is there
abbrev pub uses_lines : View → ℕ → List ℕ
uses_lines v i =
    if nat_lt i (length v.graph.interfaces)
    then flat_map (arrow_line v (codes "i") i) (uses_arrows v i)
    else []

-- ---- arrows with labels

-- the label of an entry that has interface i under one
abbrev pub label_for : ℕ → Entry → Option (List ℕ)
label_for i (key.Name label, item.Interface j stability docs span external_id) =
    if nat_eq j i then Some label else None
label_for i _ = None

-- a label below others, where there are any
abbrev pub and_label : List ℕ → List ℕ → List ℕ
and_label labels label =
    if length labels == 0 then quoted_text label else labels ++ (codes "\\n" ++ quoted_text label)

-- labels, one on a line
abbrev pub label_lines : List (List ℕ) → List ℕ
label_lines labels = fold and_label [] labels

-- the letter of a box of labels: of exports, and of imports
abbrev pub box_letter : ArrowKind → List ℕ
box_letter kind.Exported = codes "x"
box_letter _ = codes "m"

-- the name of the box through which an arrow from world w to interface i leads
abbrev pub box_name : ArrowKind → ℕ → ℕ → List ℕ
box_name sort w i = box_letter sort ++ (decimal w ++ (codes "_" ++ decimal i))

-- the box of this name, with labels
abbrev pub label_box : List ℕ → List ℕ → List ℕ
label_box name labels =
    codes "  " ++ (name ++ (codes " [shape=plaintext, style=filled, fontsize=10, margin=\"0.04,0.02\", height=0, width=0, label=\"" ++ (labels ++ codes "\"];\n")))

-- the box of this name with labels, an arrow of this look from world w to it, which ends there without a head, and on to
-- interface i
abbrev pub arrow_through_box : List ℕ → ℕ → ℕ → List ℕ → List ℕ → List ℕ
arrow_through_box name w i labels attributes =
    label_box name labels
    ++ ((codes "  w"
    ++ (decimal w
    ++ (codes " -> " ++ (name ++ (codes " [" ++ (attributes ++ codes ", dir=none];\n"))))))
    ++ (codes "  "
    ++ (name ++ (codes " -> i" ++ (decimal i ++ (codes " [" ++ (attributes ++ codes "];\n")))))))

-- that from world w to interface i, with the labels under which entries have the interface
abbrev pub labelled_lines : ArrowKind → ℕ → List Entry → ℕ → List ℕ
labelled_lines sort w entries i =
    arrow_through_box (box_name sort w i) w i (label_lines (filter_map (label_for i) entries))
    (look sort)

-- all that entries of world w have under labels, each interface once
abbrev pub labelled_entries : ArrowKind → List ℕ → ℕ → List Entry → List ℕ
labelled_entries sort shown w entries =
    flat_map (labelled_lines sort w entries)
    (first_of_each (filter (is_one_of shown) (filter_map labelled_interface entries)))

-- so of world w, where all entries are shown
abbrev pub all_labelled : View → ℕ → List ℕ
all_labelled v w =
    if v.only_added then []
    else option_map_or (λ (world : World).
    labelled_entries kind.Listed v.interfaces w world.imports
    ++ labelled_entries kind.Exported v.interfaces w world.exports)
    (slice_get v.graph.worlds w) []

-- ---- all arrows

-- the arrows from world w
abbrev pub world_lines : View → ℕ → List ℕ
world_lines v w = flat_map (arrow_line v (codes "w") w) (entry_arrows v w) ++ all_labelled v w

-- those from interfaces, and then those from worlds
abbrev pub arrow_lines : View → List ℕ
arrow_lines v = flat_map (uses_lines v) v.interfaces ++ flat_map (world_lines v) v.worlds
