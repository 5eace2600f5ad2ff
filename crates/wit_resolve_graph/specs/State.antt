-- What contracts see of a `Resolve`.
use Rattle.std.specs.Prelude.{[], false}
use Rattle.wit_graph_data.specs.declared.features.Features.{Features}
use Rattle.wit_graph_data.specs.declared.graph.Graph.{Graph}
use Rattle.wit_names.specs.declared.track.TrackRule.{TrackRule}
use Rattle.wit_names.specs.declared.track.TrackRule.TheVariants.{Published}
use Rattle.wit_sources.specs.SourceMap.{Sources}
use Rattle.wit_elaboration.specs.Valid.{IsValid}
use Rattle.wit_link.specs.Appending.{AreCachesOf}
use Rattle.wit_queries.specs.ValidBits.{AreValidBitsOf}
use Rattle.wit_resolve_graph.specs.declared.kept.Kept.{Kept}

pub record State : Type 0 where
  pub graph : Graph
  pub features : Features
  pub source_map : Sources
  pub track_rule : TrackRule

-- no package, no feature, no file, and the published rule of tracks
abbrev pub new_state : State
new_state = record {
  graph = record { types = []; interfaces = []; worlds = []; packages = []; package_names = [] };
  features = record { names = []; all = false };
  source_map = record { files = []; end = 0 };
  track_rule = Published;
}

-- What a `Resolve` keeps beside its graph.

-- a valid graph, caches of it, and of which of its types all bits are valid
pub record AreKept (graph : Graph) (kept : Kept) : Type 0 where
  pub valid : IsValid graph
  pub caches : AreCachesOf graph kept.caches
  pub bits : AreValidBitsOf graph.types kept.valid_bits
