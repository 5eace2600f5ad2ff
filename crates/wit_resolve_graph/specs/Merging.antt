-- What merging one state into another does, and what is left where it is refused.
use Rattle.std.specs.Prelude.{◌≡◌, ◌⊎◌, ◌≤◌, ◌<◌, ◌+◌, ◌^◌}
use Rattle.wit_sources.specs.SourceMap.{Sources, with_sources}
use Rattle.wit_graph_data.specs.declared.error_kind.ResolveErrorKind.{ResolveErrorKind}
use Rattle.wit_graph_data.specs.declared.error_kind.ResolveErrorKind.TheVariants.{OffsetOverflow, OutOfMemory}
use Rattle.wit_remap.specs.declared.remap.Remap.{Remap}
use Rattle.wit_merge_match.specs.Remapped.{merge_remap}
use Rattle.wit_merge_spec.specs.Cause.{IsMergeCause}
use Rattle.wit_merge_spec.specs.Matches.{GraphMerge}
use Rattle.wit_merge_spec.specs.Merged.{merged}
use Rattle.wit_resolve_graph.specs.State.{State}
use Rattle.wit_graph_data.specs.Error.{NoCause}

-- the graph of another state goes into that of a state; its spans move to the end of the sources, as its files do
abbrev pub merge_of : State → State → GraphMerge
merge_of old other = record { graph = old.graph; other = other.graph; offset = old.source_map.end }

-- 27: the files of both end past 4294967295
abbrev pub FilesPass : State → State → ResolveErrorKind → Type 0
FilesPass old other OffsetOverflow = 2 ^ 32 ≤ old.source_map.end + other.source_map.end
FilesPass old other _ = ⊥

-- another state is merged: its files fit and no cause holds against it, the graphs are one, its files stand at the end,
-- the features and the rule of tracks stay, and the answer is where its things went
pub record Merges (old other : State) (remap : Remap) (new : State) : Type 0 where
  pub fits : old.source_map.end + other.source_map.end < 2 ^ 32
  pub accepted : NoCause (IsMergeCause (merge_of old other))
  pub graph : new.graph ≡ merged (merge_of old other)
  pub features : new.features ≡ old.features
  pub rule : new.track_rule ≡ old.track_rule
  pub files : new.source_map ≡ with_sources old.source_map other.source_map
  pub remap_is : remap ≡ merge_remap (merge_of old other)

-- where files are after a refusal, given the sources with those that come: at the end, but after a position that is too
-- large nowhere, and after want of memory there or not
abbrev pub HasSourcesAfter : ResolveErrorKind → Sources → Sources → Sources → Type 0
HasSourcesAfter OffsetOverflow old added new = new ≡ old
HasSourcesAfter OutOfMemory old added new = (new ≡ old) ⊎ (new ≡ added)
HasSourcesAfter _ old added new = new ≡ added

-- a merge is refused with this error
pub record RefusesMerge (old other : State) (error : ResolveErrorKind) (new : State) : Type 0 where
  pub cause : (error ≡ OutOfMemory)
      ⊎ (IsMergeCause (merge_of old other) error ⊎ FilesPass old other error)
  -- where the files of both end past 4294967295, no other cause is told
  pub past_end : 2 ^ 32 ≤ old.source_map.end + other.source_map.end
      → (error ≡ OutOfMemory) ⊎ (error ≡ OffsetOverflow)
  pub graph : new.graph ≡ old.graph
  pub features : new.features ≡ old.features
  pub rule : new.track_rule ≡ old.track_rule
  pub files : HasSourcesAfter error old.source_map (with_sources old.source_map other.source_map)
      new.source_map
