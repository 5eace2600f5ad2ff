-- Which arrows a picture has.
use Rattle.std.specs.Prelude.{◌&&◌, ◌==◌, ℕ, Bool, List, ◌++◌, filter, flat_map, if◌then◌else◌, length, map, not, slice_get}
use Rattle.std.specs.List.{list_any}
use Rattle.wit_data.specs.declared.world.World.{World}
use Rattle.wit_digraph.specs.PostOrder.{first_of_each}
use Rattle.wit_graph_data.specs.Queries.{interface_direct_deps}
use Rattle.wit_graph_data.specs.declared.graph.Graph.{Graph}
use Rattle.witgraph_dot.specs.Bundles.{bundle, frame_arrows, whole_frames, frames_but}
use Rattle.witgraph_dot.specs.Entries.{own_exports, own_imports}
use Rattle.witgraph_dot.specs.Listed.{listed_for, has_link}
use Rattle.witgraph_dot.specs.Sets.{are_among, is_one_of, intersection, without}
use Rattle.witgraph_dot.specs.declared.arrow.Arrow.{Arrow}
use Rattle.witgraph_dot.specs.declared.arrow.ArrowKind.TheVariants as kind
use Rattle.witgraph_dot.specs.declared.arrow.Target.TheVariants as target

-- a graph, what lines list and include, and what is shown: interfaces, worlds, the interfaces of each package
pub record View : Type 0 where
  pub graph : Graph
  pub imports : List (ℕ × ℕ)
  pub includes : List (ℕ × ℕ)
  pub interfaces : List ℕ
  pub worlds : List ℕ
  pub frames : List (List ℕ)
  pub only_added : Bool

-- ---- from interfaces

-- the arrows from interface i: to the interfaces that it uses and that are shown, each once
abbrev pub uses_arrows : View → ℕ → List Arrow
uses_arrows v i =
    bundle v.frames kind.Used (first_of_each
    (filter (is_one_of v.interfaces) (interface_direct_deps v.graph.types v.graph.interfaces i)))

-- ---- from worlds to worlds that they include

-- what worlds import under the ids of interfaces
abbrev pub included_imports : List World → List ℕ → List ℕ
included_imports worlds some = flat_map (λ w. own_imports (slice_get worlds w)) some

-- world w' is shown, imports something, and world w imports all that it imports
abbrev pub is_included : View → ℕ → ℕ → Bool
is_included v w w' =
    is_one_of v.worlds w'
    && (not (length (own_imports (slice_get v.graph.worlds w')) == 0)
    && are_among (own_imports (slice_get v.graph.worlds w'))
    (own_imports (slice_get v.graph.worlds w)))

-- one of some worlds includes world w
abbrev pub is_included_by_any : List (ℕ × ℕ) → List ℕ → ℕ → Bool
is_included_by_any included worlds w = list_any (λ u. has_link included u w) worlds

-- the worlds that no other of them includes
abbrev pub outermost : List (ℕ × ℕ) → List ℕ → List ℕ
outermost included worlds = filter (λ w. not (is_included_by_any included worlds w)) worlds

-- the worlds to which one arrow leads in place of arrows to all that they import
abbrev pub included_worlds : View → ℕ → List ℕ
included_worlds v w = outermost v.includes (filter (is_included v w) (listed_for w v.includes))

-- ---- from worlds to interfaces and frames

-- what world w imports under the ids of interfaces that are shown
abbrev pub shown_imports : View → ℕ → List ℕ
shown_imports v w = intersection (own_imports (slice_get v.graph.worlds w)) v.interfaces

-- the frames without what world w exports, since an arrow to a frame stands for all that is in it but that
abbrev pub import_frames : View → ℕ → List (List ℕ)
import_frames v w = frames_but (own_exports (slice_get v.graph.worlds w)) v.frames

-- the arrows to what world w imports: to included worlds; of what these leave, to whole frames of what included worlds import,
-- shown or not; and of what these leave, to what lines list and to what elaboration added
abbrev pub import_arrows : View → ℕ → List Arrow
import_arrows v w =
    let frames = import_frames v w in
    let included = included_worlds v w in
    let left = without (shown_imports v w) (included_imports v.graph.worlds included) in
    let brought =
    intersection left (included_imports v.graph.worlds (listed_for w v.includes)) in
    let single = without left (whole_frames frames brought) in
    let listed = listed_for w v.imports in
    map (λ u. record { kind = kind.Listed; target = target.World u }) included
    ++ (frame_arrows frames kind.Listed brought
    ++ (bundle frames kind.Listed (intersection single listed)
    ++ bundle frames kind.Added (without single listed)))

-- the arrows to what elaboration added alone
abbrev pub added_arrows : View → ℕ → List Arrow
added_arrows v w =
    bundle (import_frames v w) kind.Added (without (shown_imports v w) (listed_for w v.imports))

-- the arrows to what world w exports
abbrev pub export_arrows : View → ℕ → List Arrow
export_arrows v w =
    bundle v.frames kind.Exported
    (intersection (own_exports (slice_get v.graph.worlds w)) v.interfaces)

-- the arrows from world w
abbrev pub entry_arrows : View → ℕ → List Arrow
entry_arrows v w = if v.only_added then added_arrows v w else import_arrows v w ++ export_arrows v w
