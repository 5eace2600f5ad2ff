-- A source that can't be read after one that is there.
use Rattle.std.specs.Prelude.{◌≡◌, ℕ, Some, codes}
use Rattle.wit_sources.specs.SourceMap.{Sources, with_sources}
use Rattle.wit_graph_data.specs.declared.error_kind.ResolveErrorKind.TheVariants.{OffsetOverflow}
use Rattle.wit_resolve_graph.specs.Sources.{IsNotPlaced, IsPlaced, fault_rendered, only_file}
use Rattle.wit_resolve_graph.specs.State.{State, new_state}
use Rattle.wit_resolve_graph.specs.declared.sources.SourceFault.{SourceFault}
use Rattle.wit_resolve_graph.specs.declared.sources.SourceFault.TheVariants as fault

-- a file of 24 bytes
abbrev pub source : Sources
source = only_file (codes "m.wit") (codes "package a:b;\nworld w {}\n")

-- it is there once, and twice
abbrev pub once : State
once = record new_state { source_map = source }

abbrev pub twice : State
twice = record new_state { source_map = with_sources source source }

-- there is room for one more byte
abbrev pub full : State
full = record new_state { source_map = record source { end = 4294967294 } }

-- what is told where its second word can't be read, at these positions
abbrev pub bad_at : ℕ → ℕ → SourceFault
bad_at start end = fault.Parse (Some (start, end)) (codes "bad")

pub record ExamplesOfSources : Type 0 where
  pub placed : IsPlaced once source (Some (13, 18)) (codes "bad") (bad_at 38 43) twice
  pub shown : fault_rendered twice.source_map.files (bad_at 38 43)
      ≡ codes "bad\n     --> m.wit:2:1\n      |\n    2 | world w {}\n      | ^----"
  pub no_room : IsNotPlaced full source (Some (13, 18)) (fault.Resolve OffsetOverflow) full
  -- near misses: the span left as it was, the file nowhere, 27 where there is room
  pub not_left : IsPlaced once source (Some (13, 18)) (codes "bad") (bad_at 13 18) twice → ⊥
  pub not_nowhere : IsPlaced once source (Some (13, 18)) (codes "bad") (bad_at 38 43) once → ⊥
  pub has_room : IsNotPlaced once source (Some (13, 18)) (fault.Resolve OffsetOverflow) once → ⊥
