-- Files that come in with groups or with another state: the last position at which they fit, and the next one.
use Rattle.std.specs.Prelude.{ℕ, [], ◌∷◌}
use Rattle.wit_graph_data.specs.declared.error_kind.ResolveErrorKind.TheVariants.{OffsetOverflow, OutOfMemory}
use Rattle.wit_link.specs.Appending.{FilesPassTheEnd}
use Rattle.wit_resolve_graph.specs.examples.Examples.{first_group}
use Rattle.wit_resolve_graph.specs.Merging.{FilesPass}
use Rattle.wit_resolve_graph.specs.State.{State, new_state}

-- a state whose files end at this position
abbrev pub ending : ℕ → State
ending at = record new_state { source_map = record { files = []; end = at } }

pub record ExamplesOfFiles : Type 0 where
  -- 27 of a merge: the files of both would end past the last position; of nothing else
  pub merged_too_far : FilesPass (ending 4294967290) (ending 6) OffsetOverflow
  pub merged_fit : FilesPass (ending 4294967290) (ending 5) OffsetOverflow → ⊥
  pub not_memory : FilesPass (ending 4294967290) (ending 6) OutOfMemory → ⊥
  -- 27 of groups: those of all together, also where each alone would fit
  pub too_far : FilesPassTheEnd 4294967286 (first_group ∷ []) OffsetOverflow
  pub both_too_far : FilesPassTheEnd 4294967276 (first_group ∷ first_group ∷ []) OffsetOverflow
  pub fit : FilesPassTheEnd 4294967285 (first_group ∷ []) OffsetOverflow → ⊥
  pub both_fit : FilesPassTheEnd 4294967275 (first_group ∷ first_group ∷ []) OffsetOverflow → ⊥
