-- What the parts of a `Resolve` are read from: a graph with what stands beside it, as it comes out.
use Rattle.std.specs.Prelude.{[], ◌∷◌, Ok, codes, false}
use Rattle.json.specs.Json.{Json}
use Rattle.wit_names.specs.declared.track.TrackRule.TheVariants.{Published}
use Rattle.wit_json_reading.specs.Features.{read_features, read_rule}
use Rattle.wit_json_reading.specs.Graphs.{read_graph}
use Rattle.wit_json_reading.specs.Groups.{read_sources}
use Rattle.wit_json_reading.specs.Reading.{Reading, only, read_or, read_required, ◌>>=◌}
use Rattle.wit_json_graphs.specs.Details.{graph_with}
use Rattle.wit_json_graphs.specs.declared.resolves.ResolveParts.{ResolveParts}

-- all but the graph may be left out: then spans, external ids and docs of entries are those in the graph itself, no feature is
-- on, the rule is the published one, and there is no file
unfoldable pub read_resolve : Json → Reading ResolveParts
read_resolve j = do
  _ ← only (codes "graph" ∷ codes "details" ∷ codes "features" ∷ codes "track-rule"
      ∷ codes "sources" ∷ []) j
  graph ← read_required read_graph (codes "graph") j
  whole ← read_or (graph_with graph) graph (codes "details") j
  features ← read_or read_features (record { names = []; all = false }) (codes "features") j
  rule ← read_or read_rule Published (codes "track-rule") j
  sources ← read_or read_sources (record { files = []; end = 0 }) (codes "sources") j
  Ok (record { graph = whole; features = features; source_map = sources; track_rule = rule })
