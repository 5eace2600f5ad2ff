-- The interfaces and worlds of a graph that a picture shows.
use Rattle.std.specs.Prelude.{◌&&◌, ◌||◌, ◌==◌, ℕ, suc, Bool, false, List, [], ◌∷◌, ◌++◌, Option, Some, None, nat_eq, not, if◌then◌else◌, flat_map, length, slice_get}
use Rattle.std.specs.List.{list_any}
use Rattle.std.specs.Option.{option_map_or}
use Rattle.wit_data.specs.Entries.{interfaces_of_entries}
use Rattle.wit_data.specs.declared.interface.Interface.{Interface}
use Rattle.wit_data.specs.declared.world.World.{World}
use Rattle.wit_graph_data.specs.declared.graph.Graph.{Graph}
use Rattle.wit_graph_data.specs.declared.graph.Package.{Package}
use Rattle.witgraph_dot.specs.declared.choice.Choice.{Choice}
use Rattle.witgraph_dot.specs.declared.choice.Pick.{Pick}
use Rattle.witgraph_dot.specs.Choice.{picks}

-- ---- which picks are of a thing

-- one of some picks is of what has this name in this package; of what lacks either none is
abbrev pub has_pick_at : List Package → List Pick → Option ℕ → Option (List ℕ) → Bool
has_pick_at packages picked (Some p) (Some name) =
    option_map_or (λ (owner : Package).
    list_any (λ (pick : Pick). picks pick owner.name name) picked)
    (slice_get packages p) false
has_pick_at packages picked (Some p) None = false
has_pick_at packages picked None name = false

-- one of some picks is of an interface
abbrev pub interface_has_pick : List Package → List Pick → Interface → Bool
interface_has_pick packages picked interface =
    has_pick_at packages picked interface.«package» interface.name

-- one of some picks is of a world
abbrev pub world_has_pick : List Package → List Pick → World → Bool
world_has_pick packages picked world = has_pick_at packages picked world.«package» (Some world.name)

-- ---- what is shown

-- a world: it is picked, or nothing is, and it isn't hidden
abbrev pub is_world_shown : Choice → List Package → World → Bool
is_world_shown choice packages world =
    (length choice.shown == 0 || world_has_pick packages choice.shown world)
    && not (world_has_pick packages choice.hidden world)

-- the interfaces that the worlds which are picked import and export, under whatever keys
abbrev pub entries_of_picked : List Package → List Pick → List World → List ℕ
entries_of_picked packages picked worlds =
    flat_map (λ (world : World).
    if world_has_pick packages picked world
    then interfaces_of_entries world.imports ++ interfaces_of_entries world.exports
    else []) worlds

-- interface i: it is picked, or one of these, or nothing is picked, and it isn't hidden
abbrev pub is_interface_shown : Choice → List Package → List ℕ → ℕ → Interface → Bool
is_interface_shown choice packages entries i interface =
    (length choice.shown == 0
    || (interface_has_pick packages choice.shown interface || list_any (nat_eq i) entries))
    && not (interface_has_pick packages choice.hidden interface)

-- the indices of the members of a list that a test takes, which is told each member with its index, the first of which is this
abbrev pub indices_from : {A : Type 0} → (ℕ → A → Bool) → ℕ → List A → List ℕ
indices_from takes i [] = []
indices_from takes i (x ∷ xs) =
    if takes i x then i ∷ indices_from takes (suc i) xs else indices_from takes (suc i) xs

-- the interfaces of a graph that are shown
abbrev pub shown_interfaces : Choice → Graph → List ℕ
shown_interfaces choice g =
    indices_from
    (is_interface_shown choice g.packages (entries_of_picked g.packages choice.shown g.worlds)) 0
    g.interfaces

-- the worlds of a graph that are shown
abbrev pub shown_worlds : Choice → Graph → List ℕ
shown_worlds choice g = indices_from (λ w. is_world_shown choice g.packages) 0 g.worlds
