-- Words of inner contracts and proofs, beside `Grown`.
use Rattle.std.specs.Prelude.{length, take}
use Rattle.wit_graph_data.specs.declared.graph.Graph.{Graph}
use Rattle.wit_remap.specs.declared.mark.Mark.{Mark}

-- how long the lists of a graph are
abbrev pub mark_of : Graph → Mark
mark_of g = record {
  types = length g.types;
  interfaces = length g.interfaces;
  worlds = length g.worlds;
  packages = length g.packages;
  package_names = length g.package_names;
}

-- the lists of a graph, each cut to a length
abbrev pub cut_at : Mark → Graph → Graph
cut_at m g = record {
  types = take m.types g.types;
  interfaces = take m.interfaces g.interfaces;
  worlds = take m.worlds g.worlds;
  packages = take m.packages g.packages;
  package_names = take m.package_names g.package_names;
}
