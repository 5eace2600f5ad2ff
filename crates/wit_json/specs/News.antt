-- What is new of a graph with what stands beside it, for someone who was told the first so many things of each list.
use Rattle.std.specs.Prelude.{◌++◌, codes, drop}
use Rattle.json.specs.Json.{Json}
use Rattle.wit_graph_data.specs.declared.features.Features.{Features}
use Rattle.wit_graph_data.specs.declared.graph.Graph.{Graph}
use Rattle.wit_names.specs.declared.track.TrackRule.{TrackRule}
use Rattle.wit_sources.specs.SourceMap.{Sources, files_of}
use Rattle.wit_json.specs.declared.news.Told.{Told}
use Rattle.wit_json.specs.Details.{graph_details}
use Rattle.wit_json.specs.Graph.{json_of_graph}
use Rattle.wit_json.specs.Values.{json_of_number, list_of, member, object}
use Rattle.wit_json.specs.Whole.{json_of_features, json_of_file, json_of_rule}

-- how many things of each list were told
abbrev pub json_of_told : Told → Json
json_of_told told =
    object (member (codes "worlds") (json_of_number told.worlds)
    ++ member (codes "interfaces") (json_of_number told.interfaces)
    ++ member (codes "types") (json_of_number told.types)
    ++ member (codes "packages") (json_of_number told.packages)
    ++ member (codes "sources") (json_of_number told.files))

-- the things of a graph behind those that were told
abbrev pub graph_behind : Told → Graph → Graph
graph_behind told graph = record {
  types = drop told.types graph.types;
  interfaces = drop told.interfaces graph.interfaces;
  worlds = drop told.worlds graph.worlds;
  packages = drop told.packages graph.packages;
  package_names = drop told.packages graph.package_names;
}

-- the index at which each list goes on, and what stands there and behind it; all else as in the whole
abbrev pub json_of_news : Told → Graph → Features → TrackRule → Sources → Json
json_of_news told graph features rule sources =
    object (member (codes "from") (json_of_told told)
    ++ member (codes "graph") (json_of_graph (graph_behind told graph))
    ++ member (codes "details") (graph_details (graph_behind told graph))
    ++ member (codes "features") (json_of_features features)
    ++ member (codes "track-rule") (json_of_rule rule)
    ++ member (codes "sources")
    (list_of json_of_file (drop told.files (files_of sources.files))))
