-- The parts of validity that are told one after another.
use Rattle.wit_elaboration.specs.Valid.{HasValidNames, HasOwners, HasPackageNames, HasReferences, HasTables, HasWorlds}
use Rattle.wit_graph_data.specs.declared.graph.Graph.{Graph}

-- each thing stands under its name where it should, and names and versions are valid
pub record HasNamesInTables (g : Graph) : Type 0 where
  pub package_names : HasPackageNames g.packages g.package_names
  pub tables : HasTables g.packages g.interfaces g.worlds
  pub names : HasValidNames g.packages g.interfaces

-- owners, references and worlds are in order
pub record IsOwned (g : Graph) : Type 0 where
  pub owners : HasOwners g.types g.interfaces g.worlds
  pub references : HasReferences g.types g.interfaces
  pub worlds : HasWorlds g.types g.interfaces g.worlds
