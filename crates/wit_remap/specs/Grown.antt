-- Graphs that grow at the ends of their lists, and are cut back.
use Rattle.std.specs.Prelude.{◌≡◌, List, length, take}
use Rattle.wit_graph_data.specs.declared.graph.Graph.{Graph}

-- new begins with all of old
abbrev pub Begins : {X : Type 0} → List X → List X → Type 0
Begins old new = take (length old) new ≡ old

-- each list of new begins with the list of old
pub record Grown (old new : Graph) : Type 0 where
  pub types : Begins old.types new.types
  pub interfaces : Begins old.interfaces new.interfaces
  pub worlds : Begins old.worlds new.worlds
  pub packages : Begins old.packages new.packages
  pub package_names : Begins old.package_names new.package_names
