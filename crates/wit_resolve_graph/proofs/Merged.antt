-- From what making two graphs one tells to what is told of a merge of two states.
use Rattle.std.proofs.Common.{◌≡◌, ◌∙◌, ◌⊎◌, ◌+◌, ◌<◌, ◌≤◌, ◌^◌, ℕ, ◌++◌, length, take, map, Result, Ok, Err, IfOk, IfErr, OnErr, OnOk, refl, ap, sym, subst, inl, inr, arith, ◌↔◌}
use Rattle.std.proofs.lemmas.Bool.{cases_lt}
use Rattle.std.proofs.lemmas.List.{take_at}
use Rattle.wit_sources.specs.SourceMap.{Sources, moved_file, with_sources}
use Rattle.wit_graph_data.specs.declared.graph.Graph.{Graph}
use Rattle.wit_graph_data.specs.declared.error_kind.ResolveErrorKind.{ResolveErrorKind}
use Rattle.wit_graph_data.specs.declared.error_kind.ResolveErrorKind.TheVariants.{OffsetOverflow, OutOfMemory}
use Rattle.wit_remap.specs.declared.remap.Remap.{Remap}
use Rattle.wit_merge_spec.specs.Cause.{IsMergeCause}
use Rattle.wit_merge_spec.specs.Matches.{GraphMerge}
use Rattle.wit_merge_spec.specs.Merged.{merged}
use Rattle.wit_merge_match.specs.Differing.{merge_of_graphs_by}
use Rattle.wit_merge_match.specs.Remapped.{merge_remap}
use Rattle.wit_resolve_graph.specs.Merging.{FilesPass, Merges, RefusesMerge, merge_of}
use Rattle.wit_resolve_graph.specs.State.{State}
use Rattle.wit_resolve_graph.proofs.FilesAfter.{files_after, files_stay}

-- ---- the files

-- those that were there are left where the others are cut off
pub cut_back : (old added now : Sources) (n end : ℕ) → now ≡ with_sources old added → n ≡ length old.files → end ≡ old.end → record { files = take n now.files; end = end } ≡ old
cut_back old added now n end placed long ends =
    let front : take (length old.files) (old.files ++ map (moved_file old.end) added.files) ≡ old.files = take_at old.files (map (moved_file old.end) added.files) (length old.files) refl in
    rw (placed, long, ends, front) refl

-- an end that isn't too large
pub within : {P : Type 0} (end : ℕ) → P ↔ (2 ^ 32 ≤ end) → (P → ⊥) → end < 2 ^ 32
within end told fits = elim (cases_lt end (2 ^ 32)) [
  | inl less ↦ less
  | inr past ↦ absurd (fits (told.1 (omega (arith, past))))
]

-- a graph that is made is the same elsewhere
pub made_one : (made new now : Graph) (r : Result Remap ResolveErrorKind) → now ≡ new → OnOk r (new ≡ made) → OnOk r (now ≡ made)
made_one made new now (Ok remap) is same = is ∙ same
made_one made new now (Err kind) is same = tt

-- ---- the steps of a merge

-- the other graph and the offset are those of the states
module _ (old other : State) (g : Graph) (offset : ℕ) (same : g ≡ other.graph) (starts : offset ≡ old.source_map.end) where
  one : merge_of_graphs_by old.graph g offset ≡ merge_of old other
  one = rw (same, starts) refl

  caused : (kind : ResolveErrorKind) → (kind ≡ OutOfMemory) ⊎ IsMergeCause (merge_of_graphs_by old.graph g offset) kind → (kind ≡ OutOfMemory) ⊎ (IsMergeCause (merge_of old other) kind ⊎ FilesPass old other kind)
  caused kind (inl memory) = inl memory
  caused kind (inr cause) = inr (inl (subst (λ (m : GraphMerge). IsMergeCause m kind) one cause))

  -- the states are merged
  pub merges : (new : State) (r : Result Remap ResolveErrorKind) → old.source_map.end + other.source_map.end < 2 ^ 32 → OnOk r (new.graph ≡ merged (merge_of_graphs_by old.graph g offset))
      → IfOk r (λ remap. remap ≡ merge_remap (merge_of_graphs_by old.graph g offset)) → new.features ≡ old.features → new.track_rule ≡ old.track_rule → new.source_map ≡ with_sources old.source_map other.source_map
      → ((kind : ResolveErrorKind) → IsMergeCause (merge_of_graphs_by old.graph g offset) kind → OnOk r ⊥) → IfOk r (λ remap. Merges old other remap new)
  merges new (Err kind) fits graph remap features rule files refuses = tt
  merges new (Ok remap) fits graph is features rule files refuses = record {
    fits = fits;
    accepted = λ kind cause. refuses kind (subst (λ (m : GraphMerge). IsMergeCause m kind) (sym one) cause);
    graph = graph ∙ ap merged one;
    features = features;
    rule = rule;
    files = files;
    remap_is = is ∙ ap merge_remap one;
  }

  pub never_merged : (new : State) (r : Result Remap ResolveErrorKind) → r ≡ Err OffsetOverflow → IfOk r (λ remap. Merges old other remap new)
  never_merged new (Ok remap) far = cc
  never_merged new (Err kind) far = tt

  -- they are refused, and the files stay at the end
  pub refuses : (new : State) (r : Result Remap ResolveErrorKind) → old.source_map.end + other.source_map.end < 2 ^ 32 → (r ≡ Err OffsetOverflow → ⊥) → OnErr r (new.graph ≡ old.graph) → new.features ≡ old.features → new.track_rule ≡ old.track_rule
      → new.source_map ≡ with_sources old.source_map other.source_map → IfErr r (λ kind. (kind ≡ OutOfMemory) ⊎ IsMergeCause (merge_of_graphs_by old.graph g offset) kind) → IfErr r (λ kind. RefusesMerge old other kind new)
  refuses new (Ok remap) fits apart graph features rule files cause = tt
  refuses new (Err kind) fits apart graph features rule files cause = record {
    cause = caused kind cause;
    past_end = λ past. absurd (omega (arith, fits, past));
    graph = graph;
    features = features;
    rule = rule;
    files = files_after kind old.source_map (with_sources old.source_map other.source_map) new.source_map (λ far. apart (ap Err far)) files;
  }

  -- or they are taken back
  pub takes_back : (new : State) (r : Result Remap ResolveErrorKind) → r ≡ Err OffsetOverflow → OnErr r (new.graph ≡ old.graph) → new.features ≡ old.features → new.track_rule ≡ old.track_rule
      → new.source_map ≡ old.source_map → IfErr r (λ kind. (kind ≡ OutOfMemory) ⊎ IsMergeCause (merge_of_graphs_by old.graph g offset) kind) → IfErr r (λ kind. RefusesMerge old other kind new)
  takes_back new (Ok remap) far graph features rule files cause = tt
  takes_back new (Err kind) far graph features rule files cause =
      let overflow : kind ≡ OffsetOverflow = cc in
      record {
        cause = caused kind cause;
        past_end = λ past. inr overflow;
        graph = graph;
        features = features;
        rule = rule;
        files = files_stay kind old.source_map (with_sources old.source_map other.source_map) new.source_map (inr overflow) files;
      }
