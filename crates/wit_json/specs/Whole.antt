-- A graph with what stands beside it: what the layout leaves out, the features that are on, the rule of tracks, and the files.
use Rattle.std.specs.Prelude.{ℕ, List, ◌++◌, codes}
use Rattle.json.specs.Json.{Json}
use Rattle.json.specs.Json as json
use Rattle.wit_graph_data.specs.declared.features.Features.{Features}
use Rattle.wit_graph_data.specs.declared.graph.Graph.{Graph}
use Rattle.wit_names.specs.declared.track.TrackRule.{TrackRule}
use Rattle.wit_names.specs.declared.track.TrackRule.TheVariants.{Published, WithPrereleases}
use Rattle.wit_sources.specs.SourceMap.{Sources, files_of}
use Rattle.wit_json.specs.Details.{graph_details}
use Rattle.wit_json.specs.Graph.{json_of_graph}
use Rattle.wit_json.specs.Values.{json_of_text, list_of, member, object}

abbrev pub json_of_features : Features → Json
json_of_features features =
    object (member (codes "all") (json.boolean features.all)
    ++ member (codes "names") (list_of json_of_text features.names))

-- by which rule versions stand on one track
abbrev pub json_of_rule : TrackRule → Json
json_of_rule Published = json_of_text (codes "published")
json_of_rule WithPrereleases = json_of_text (codes "with-prereleases")

-- a file: its path and its text
abbrev pub json_of_file : List ℕ × List ℕ → Json
json_of_file file =
    object
    (member (codes "path") (json_of_text file.0) ++ member (codes "text") (json_of_text file.1))

-- the files, in order
abbrev pub json_of_sources : Sources → Json
json_of_sources sources = list_of json_of_file (files_of sources.files)

-- the layout stands under a key of its own, so what reads it needs to know nothing of the rest
abbrev pub json_of_whole : Graph → Features → TrackRule → Sources → Json
json_of_whole graph features rule sources =
    object (member (codes "graph") (json_of_graph graph) ++ member (codes "details")
    (graph_details graph) ++ member (codes "features") (json_of_features features)
    ++ member (codes "track-rule") (json_of_rule rule) ++ member (codes "sources")
    (json_of_sources sources))
