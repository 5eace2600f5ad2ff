-- The keys of each table of a graph differ, since they are keys of tables.
use Rattle.wit_data.specs.Each.{Each}
use Rattle.wit_data.specs.declared.interface.Interface.{Interface}
use Rattle.wit_data.specs.declared.world.World.{World}
use Rattle.wit_graph_data.specs.declared.graph.Graph.{Graph}
use Rattle.wit_graph_data.specs.declared.graph.Package.{Package}
use Rattle.wit_values.specs.Table.{HasDistinctKeys}

pub record KeysDiffer (g : Graph) : Type 0 where
  pub package_names : HasDistinctKeys g.package_names
  pub interface_tables : Each (λ (home : Package). HasDistinctKeys home.interfaces) g.packages
  pub world_tables : Each (λ (home : Package). HasDistinctKeys home.worlds) g.packages
  pub types : Each (λ (interface : Interface). HasDistinctKeys interface.types) g.interfaces
  pub functions : Each (λ (interface : Interface). HasDistinctKeys interface.functions) g.interfaces
  pub imports : Each (λ (world : World). HasDistinctKeys world.imports) g.worlds
  pub exports : Each (λ (world : World). HasDistinctKeys world.exports) g.worlds
