-- The frames of packages, as lines of DOT.
use Rattle.std.specs.Prelude.{◌&&◌, ◌==◌, ℕ, suc, Bool, List, [], ◌∷◌, ◌++◌, codes, decimal, if◌then◌else◌, length, nat_lt, not, slice_get}
use Rattle.std.specs.List.{flat_map, list_any}
use Rattle.std.specs.Option.{option_map_or}
use Rattle.wit_data.specs.declared.world.World.{World}
use Rattle.wit_graph_data.specs.declared.graph.Package.{Package}
use Rattle.wit_names.specs.declared.package_name.PackageName.{PackageName}
use Rattle.witgraph_dot.specs.Boxes.{interface_boxes, world_box, name_box}
use Rattle.witgraph_dot.specs.Scene.{View}
use Rattle.witgraph_dot.specs.Sets.{is_one_of}

-- a world of a package is shown
abbrev pub shows_world : List ℕ → Package → Bool
shows_world worlds «package» = list_any (λ (e : List ℕ × ℕ). is_one_of worlds e.1) «package».worlds

-- so many interfaces of a package stand in a frame of their own: several, beside a world
abbrev pub has_inner_frame : List ℕ → Package → ℕ → Bool
has_inner_frame worlds «package» interfaces = nat_lt 1 interfaces && shows_world worlds «package»

-- the interfaces of package p that are shown, beside its worlds of these, perhaps in a frame of their own
abbrev pub shown_boxes : List ℕ → ℕ → Package → List ℕ → List ℕ
shown_boxes worlds p «package» interfaces =
    if has_inner_frame worlds «package» (length interfaces)
    then (codes "    subgraph cluster_"
    ++ (decimal p ++ codes "_interfaces {\n    style=rounded; color=\"#dcdcd4\"; label=\"\";\n"))
    ++ (interface_boxes interfaces «package» ++ codes "    }\n")
    else interface_boxes interfaces «package»

-- the worlds of a package that are shown
abbrev pub world_boxes : List World → List ℕ → Package → List ℕ
world_boxes all worlds «package» =
    flat_map (λ (e : List ℕ × ℕ).
    if is_one_of worlds e.1 then option_map_or (world_box e.1) (slice_get all e.1) [] else [])
    «package».worlds

-- the beginning of the frame of package p, with its name
abbrev pub frame_head : ℕ → PackageName → List ℕ
frame_head p owner =
    codes "  subgraph cluster_" ++ (decimal p ++ (codes " {\n    style=\"rounded,filled\"; color=\"#c9c9c9\"; fillcolor=\"#f6f6f3\"; label=\"\";\n" ++ name_box p owner))

-- the frame of package p, where there is something in it
abbrev pub frame_text : View → ℕ → Package → List ℕ
frame_text v p «package» =
    option_map_or (λ interfaces.
    if (length interfaces == 0) && not (shows_world v.worlds «package») then []
    else frame_head p «package».name
    ++ (shown_boxes v.worlds p «package» interfaces
    ++ (world_boxes v.graph.worlds v.worlds «package» ++ codes "  }\n")))
    (slice_get v.frames p) []

-- the frames of packages, of which the first has this id
abbrev pub frame_texts : View → ℕ → List Package → List ℕ
frame_texts v p [] = []
frame_texts v p («package» ∷ packages) = frame_text v p «package» ++ frame_texts v (suc p) packages
