-- Parts of the definitions under names of their own, for contracts of inner functions and for proofs. Each is what stands
-- in a definition in its place, so none has to be believed.
use Rattle.std.specs.Prelude.{ℕ, Bool, true, false, List, [], ◌++◌, codes, if◌then◌else◌, length, ◌&&◌, filter, map, not, slice_get, Option, filter_map, option_and_then, decimal, Some, bytes_eq, option_to_list, find, ◌-◌, nat_eq}
use Rattle.wit_graph_data.specs.declared.graph.Graph.{Graph}
use Rattle.witgraph_dot.specs.Scene.{View, import_frames, included_imports, included_worlds, shown_imports}
use Rattle.witgraph_dot.specs.declared.choice.Choice.{Choice}
use Rattle.witgraph_dot.specs.declared.listing.Listing.{Listing}
use Rattle.witgraph_dot.specs.declared.stage.Stage.{Stage}
use Rattle.std.specs.List.{list_any}
use Rattle.wit_data.specs.declared.world.World.{World}
use Rattle.witgraph_dot.specs.Bundles.{whole_frames}
use Rattle.witgraph_dot.specs.Entries.{own_exports, own_imports}
use Rattle.witgraph_dot.specs.Listed.{listed_for, and_links, new_listing}
use Rattle.witgraph_dot.specs.Sets.{is_one_of, intersection, without}
use Rattle.witgraph_dot.specs.declared.arrow.Arrow.{Arrow}
use Rattle.witgraph_dot.specs.declared.scene.Scene.{Scene}
use Rattle.wit_graph_data.specs.declared.graph.Package.{Package}
use Rattle.witgraph_dot.specs.declared.arrow.ArrowKind.{ArrowKind}
use Rattle.std.specs.Option.{option_map_or, option_eq}
use Rattle.wit_commands.specs.declared.change.Change.{Change}
use Rattle.wit_graph_data.specs.Named.{world_named}
use Rattle.wit_names.specs.declared.track.TrackRule.{TrackRule}
use Rattle.witgraph_dot.specs.declared.effect.Effect.{Effect}
use Rattle.wit_names.specs.declared.package_name.PackageName.{PackageName}
use Rattle.witgraph_dot.specs.Boxes.{interface_boxes, world_box}
use Rattle.wit_data.specs.declared.interface.Interface.{Interface}
use Rattle.wit_values.specs.Version.{Parts, version_eq}
use Rattle.wit_script_explain.specs.Desk.{new_desk, working}
use Rattle.wit_script_explain.specs.declared.desk.Desk.{Desk}
use Rattle.wit_script_explain.specs.declared.desk.TrackedGraph.{TrackedGraph}
use Rattle.witgraph_dot.specs.Effects.{with_effect, with_versions, replaced, request_effect}
use Rattle.witgraph_dot.specs.declared.choice.Pick.{Pick}
use Rattle.wit_data.specs.Foreign.{ForeignItem}
use Rattle.wit_data.specs.declared.unresolved.UnresolvedPackage.{UnresolvedPackage}
use Rattle.wit_data.specs.Entries.{Entry}
use Rattle.witgraph_dot.specs.Frames.{has_inner_frame, world_boxes, shown_boxes, frame_head}
use Rattle.witgraph_dot.specs.Labels.{labelled_interface}
use Rattle.witgraph_dot.specs.Texts.{quoted_text}
use Rattle.witgraph_dot.specs.Lines.{frame_end}
use Rattle.witgraph_dot.specs.Choice.{picks}
use Rattle.witgraph_dot.specs.Pushed.{interface_by_name, is_interface_item, is_world_item}
use Rattle.witgraph_dot.specs.declared.arrow.ArrowKind.TheVariants as kind
use Rattle.witgraph_dot.specs.declared.arrow.Target.TheVariants as target
use Rattle.witgraph_dot.specs.declared.effect.Effect.TheVariants as effect
use Rattle.wit_script_lines.specs.declared.request.Request.TheVariants as request

-- interface i
abbrev pub interface_box : ℕ → List ℕ → List ℕ
interface_box i name =
    codes "    i" ++ (decimal i ++ (codes " [label=\"" ++ (quoted_text name ++ codes "\"];\n")))

-- the beginning of world w, with its name
abbrev pub world_head : ℕ → List ℕ → List ℕ
world_head w name =
    codes "    w"
    ++ (decimal w
    ++ (codes " [shape=component, style=filled, fillcolor=\"#dbe7f6\", label=\""
    ++ quoted_text name))

-- the interfaces of a package that are shown, in the order of its table
abbrev pub frame_of : List ℕ → Package → List ℕ
frame_of shown «package» =
    filter (is_one_of shown) (map (λ (e : List ℕ × ℕ). e.1) «package».interfaces)

-- an arrow of a kind to each interface
abbrev pub arrows_to_interfaces : ArrowKind → List ℕ → List Arrow
arrows_to_interfaces kind targets =
    map (λ i. record { kind = kind; target = target.Interface i }) targets

-- the version of a pick, which stands for each where there is none
abbrev pub matches_version : Option Parts → Option Parts → Bool
matches_version of_pick version =
    option_map_or (λ picked. option_eq version_eq (Some picked) version) of_pick true

-- the pick is of all in its package, or of this name alone
abbrev pub picks_name : Pick → List ℕ → Bool
picks_name pick name = option_map_or (λ picked. bytes_eq picked name) pick.name true

-- the pick is of this package, or of something in it
abbrev pub picks_package : Pick → PackageName → Bool
picks_package pick owner =
    bytes_eq pick.«package».namespace owner.namespace
    && (bytes_eq pick.«package».name owner.name
    && matches_version pick.«package».version owner.version)

-- one of some picks is of it
abbrev pub is_picked : List Pick → PackageName → List ℕ → Bool
is_picked picked owner name = list_any (λ (pick : Pick). picks pick owner name) picked

-- some picks, and one more where there is one
abbrev pub and_pick : List Pick → Option Pick → List Pick
and_pick picked pick = picked ++ option_to_list pick

-- no line chooses anything: all is shown
abbrev pub all_things : Choice
all_things = record { shown = []; hidden = []; only_added = false }

-- what a world exports under the ids of interfaces, nothing where there is no world
abbrev pub exports_of : Option ℕ → Graph → List ℕ
exports_of world g = option_map_or (λ w. own_exports (slice_get g.worlds w)) world []

-- `importize`: what this world exports will be listed for it
abbrev pub importize_effect : Graph → Option ℕ → Effect
importize_effect g world = effect.Importizes world (exports_of world g)

abbrev pub change_effect : Graph → Change → Effect
change_effect g made = request_effect g (request.Change made)

-- after `exportize`: what was listed and isn't exported
abbrev pub exportized_imports : Option ℕ → Graph → List (ℕ × ℕ) → List (ℕ × ℕ)
exportized_imports world g imports =
    option_map_or (λ w.
    replaced w (without (listed_for w imports) (own_exports (slice_get g.worlds w))) imports)
    world imports

-- after `semver`: also what the world imports on the track of something listed
abbrev pub semver_merged_imports : Option ℕ → TrackRule → Graph → List (ℕ × ℕ) → List (ℕ × ℕ)
semver_merged_imports world rule g imports =
    option_map_or (λ w. with_versions rule g imports w (own_imports (slice_get g.worlds w))) world
    imports

-- the beginning of that frame of package p
abbrev pub inner_head : ℕ → List ℕ
inner_head p =
    codes "    subgraph cluster_"
    ++ (decimal p ++ codes "_interfaces {\n    style=rounded; color=\"#dcdcd4\"; label=\"\";\n")

-- the interfaces of package p that are shown, in it
abbrev pub inner_frame : ℕ → Package → List ℕ → List ℕ
inner_frame p «package» interfaces =
    inner_head p ++ (interface_boxes interfaces «package» ++ codes "    }\n")

-- a world, where it is one of these
abbrev pub shown_world : List World → List ℕ → ℕ → List ℕ
shown_world all worlds w =
    if is_one_of worlds w then option_map_or (world_box w) (slice_get all w) [] else []

-- the frame of package p with these interfaces
abbrev pub whole_frame : View → ℕ → Package → List ℕ → List ℕ
whole_frame v p «package» interfaces =
    frame_head p «package».name
    ++ (shown_boxes v.worlds p «package» interfaces
    ++ (world_boxes v.graph.worlds v.worlds «package» ++ codes "  }\n"))

-- the interfaces of entries under labels, with repeats
abbrev pub labelled_interfaces : List Entry → List ℕ
labelled_interfaces entries = filter_map labelled_interface entries

-- the rest of the name of the frame that holds the interfaces of a package: its own, or one in that
abbrev pub inner_suffix : List ℕ → Package → ℕ → List ℕ
inner_suffix worlds «package» interfaces =
    if has_inner_frame worlds «package» interfaces then codes "_interfaces" else []

-- the interface is the last in the frame
abbrev pub end_in_frame : View → ℕ → List ℕ → Package → List ℕ → List ℕ
end_in_frame v p attributes «package» interfaces =
    option_map_or (frame_end p (inner_suffix v.worlds «package» (length interfaces)) attributes)
    (slice_get interfaces (length interfaces - 1)) []

-- an arrow of this look from world w to the box, which ends there without a head
abbrev pub arrow_to_box : List ℕ → ℕ → List ℕ → List ℕ
arrow_to_box name w attributes =
    codes "  w"
    ++ (decimal w
    ++ (codes " -> " ++ (name ++ (codes " [" ++ (attributes ++ codes ", dir=none];\n")))))

-- and on to interface i
abbrev pub arrow_from_box : List ℕ → ℕ → List ℕ → List ℕ
arrow_from_box name i attributes =
    codes "  "
    ++ (name ++ (codes " -> i" ++ (decimal i ++ (codes " [" ++ (attributes ++ codes "];\n")))))

-- what is listed for other worlds
abbrev pub others_of : ℕ → List (ℕ × ℕ) → List (ℕ × ℕ)
others_of world links = filter (λ (link : ℕ × ℕ). not (nat_eq link.0 world)) links

-- an empty graph, for whose worlds no line lists anything
abbrev pub new_stage : Stage
new_stage = record { desk = new_desk; first = new_listing; second = new_listing }

-- after an effect on the graph on which commands work: the second, where there is one
abbrev pub with_working_effect : Desk → Effect → Option TrackedGraph → Listing → Listing → Stage
with_working_effect desk done working first second =
    option_map_or (λ (graph : TrackedGraph).
    record { desk = desk; first = first; second = with_effect graph.resolve done second })
    working
    (record { desk = desk; first = with_effect desk.first.resolve done first; second = second })

-- interface i of a package, where it isn't of another one
abbrev pub own_graph_interface : Graph → UnresolvedPackage → ℕ → Option ℕ
own_graph_interface g p i =
    option_and_then
    (λ (interface : Interface). option_and_then (interface_by_name g p.name) interface.name)
    (slice_get p.interfaces i)

-- interface i of a package, where these are what it names of others
abbrev pub interface_among : Graph → UnresolvedPackage → ℕ → List (PackageName × ForeignItem)
    → Option ℕ
interface_among g p i items =
    option_map_or (λ (named : PackageName × ForeignItem). interface_by_name g named.0 named.1.0)
    (find (λ (named : PackageName × ForeignItem). is_interface_item i named.1.1.0) items)
    (own_graph_interface g p i)

-- world w of a package, where it isn't of another one
abbrev pub own_graph_world : Graph → UnresolvedPackage → ℕ → Option ℕ
own_graph_world g p w =
    option_and_then (λ (world : World). world_named g p.name world.name) (slice_get p.worlds w)

-- so world w of a package
abbrev pub world_among : Graph → UnresolvedPackage → ℕ → List (PackageName × ForeignItem) → Option ℕ
world_among g p w items =
    option_map_or (λ (named : PackageName × ForeignItem). world_named g named.0 named.1.0)
    (find (λ (named : PackageName × ForeignItem). is_world_item w named.1.1.0) items)
    (own_graph_world g p w)

-- these as links of world w of a graph
abbrev pub links_for : List ℕ → ℕ → List (ℕ × ℕ)
links_for things w = map (λ thing. (w, thing)) things

-- these as links of a world, where the graph has it
abbrev pub world_links : List ℕ → Option ℕ → List (ℕ × ℕ)
world_links things found = option_map_or (links_for things) found []

-- what is listed for an included world is listed for the world that includes it
abbrev pub with_brought : List (ℕ × ℕ) → ℕ × ℕ → List (ℕ × ℕ)
with_brought links include = and_links links include.0 (listed_for include.1 links)

-- an arrow to each of some worlds
abbrev pub included_arrows : List ℕ → List Arrow
included_arrows worlds = map (λ w. record { kind = kind.Listed; target = target.World w }) worlds

-- of what world w imports, that to which no arrow to an included world leads
abbrev pub left_imports : View → ℕ → List ℕ
left_imports v w =
    without (shown_imports v w) (included_imports v.graph.worlds (included_worlds v w))

-- of that what some included world imports, shown or not
abbrev pub brought_imports : View → ℕ → List ℕ
brought_imports v w =
    intersection (left_imports v w) (included_imports v.graph.worlds (listed_for w v.includes))

-- of what is left that which stands in no whole frame of what included worlds import
abbrev pub single_imports : View → ℕ → List ℕ
single_imports v w =
    without (left_imports v w) (whole_frames (import_frames v w) (brought_imports v w))

abbrev pub view_of : Scene → View
view_of scene = record {
  graph = scene.resolve.now.graph;
  imports = scene.listing.now.imports;
  includes = scene.listing.now.includes;
  interfaces = scene.interfaces.items;
  worlds = scene.worlds.items;
  frames = scene.frames;
  only_added = scene.only_added;
}

-- one of some picks is of what has this name in package p
abbrev pub has_pick : List Package → List Pick → ℕ → List ℕ → Bool
has_pick packages picked p name =
    option_map_or (λ (owner : Package).
    list_any (λ (pick : Pick). picks pick owner.name name) picked)
    (slice_get packages p) false
