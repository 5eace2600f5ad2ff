-- Another state that goes into one, as a step: merges that are done, merges that are refused, and what neither does.
use Rattle.std.specs.Prelude.{◌≡◌, ℕ, List, [], ◌∷◌, Some, None, codes}
use Rattle.wit_sources.specs.Span.{OptionalSpan}
use Rattle.wit_data.specs.declared.stability.Stability.{Stability}
use Rattle.wit_names.specs.declared.track.TrackRule.TheVariants.{WithPrereleases}
use Rattle.wit_graph_data.specs.examples.Samples.{foo_bar}
use Rattle.wit_graph_data.specs.declared.graph.Graph.{Graph}
use Rattle.wit_graph_data.specs.declared.error_kind.ResolveErrorKind.{ResolveErrorKind}
use Rattle.wit_graph_data.specs.declared.error_kind.ResolveErrorKind.TheVariants.{OffsetOverflow, OutOfMemory, StabilityMismatch}
use Rattle.wit_remap.specs.declared.remap.Remap.{Remap}
use Rattle.wit_resolve_graph.specs.examples.FilesExamples.{ending}
use Rattle.wit_resolve_graph.specs.State.{State, new_state}
use Rattle.wit_resolve_graph.specs.Step.{Run}
use Rattle.wit_resolve_graph.specs.declared.command.Command.TheVariants.{Merge, SetTrackRule}
use Rattle.wit_resolve_graph.specs.declared.command.Reply.{Reply}
use Rattle.wit_resolve_graph.specs.declared.command.Reply.TheVariants.{Done, Merged, NoWorld, Pushed, Refused}
use Rattle.examples_resolve.specs.script.SmallGraphs.{after, first_of, foo_baz, gate, gated, nothing, one, one_file, second_of, two, two_files}

-- ---- merges that are done

-- one step in which a state takes another
abbrev pub Takes : State → State → Reply → State → Type 0
Takes old other reply new = Run old (Merge other ∷ []) (reply ∷ []) new

-- so the first state of a graph the second of another
abbrev pub MayMerge : Graph → Graph → Reply → State → Type 0
MayMerge g other reply new = Takes (first_of g) (second_of other) reply new

-- where things went: packages to these ids, and nothing else; and an interface to its id
abbrev pub at : List ℕ → Remap
at packages = record { types = []; interfaces = []; worlds = []; packages = packages }

abbrev pub interface_at : ℕ → List ℕ → Remap
interface_at i packages = record (at packages) { interfaces = Some i ∷ [] }

pub record ExamplesOfMerges : Type 0 where
  -- nothing into nothing
  pub nothing_to_nothing : Takes new_state new_state (Merged (at [])) new_state
  -- an empty graph into foo:bar: the graph, the features and the rule of tracks stay, and its file stands at the end
  pub nothing_comes : MayMerge (one foo_bar) nothing (Merged (at [])) (after (one foo_bar))
  -- not: another graph, the features or the rule of the other, its file left out, at the place where it was or before the
  -- one that was there
  pub not_its_graph : MayMerge (one foo_bar) nothing (Merged (at [])) (after nothing) → ⊥
  pub not_more : MayMerge (one foo_bar) nothing (Merged (at [])) (after (two foo_bar foo_baz)) → ⊥
  pub not_its_features : MayMerge (one foo_bar) nothing (Merged (at []))
      (record (after (one foo_bar)) { features = (second_of nothing).features }) → ⊥
  pub not_its_rule : MayMerge (one foo_bar) nothing (Merged (at []))
      (record (after (one foo_bar)) { track_rule = WithPrereleases }) → ⊥
  pub not_without_file : MayMerge (one foo_bar) nothing (Merged (at []))
      (record (after (one foo_bar)) { source_map = one_file (codes "f") }) → ⊥
  pub not_where_it_was : MayMerge (one foo_bar) nothing (Merged (at []))
      (record (after (one foo_bar)) { source_map = one_file (codes "g") }) → ⊥
  pub not_in_front : MayMerge (one foo_bar) nothing (Merged (at []))
      (record (after (one foo_bar)) { source_map = two_files (codes "g") (codes "f") }) → ⊥
  -- nor any other answer
  pub not_done : MayMerge (one foo_bar) nothing Done (after (one foo_bar)) → ⊥
  pub not_pushed : MayMerge (one foo_bar) nothing (Pushed 0) (after (one foo_bar)) → ⊥
  pub no_world : MayMerge (one foo_bar) nothing NoWorld (after (one foo_bar)) → ⊥
  pub not_to_a_place : MayMerge (one foo_bar) nothing (Merged (at (0 ∷ []))) (after (one foo_bar))
      → ⊥
  -- foo:baz comes behind foo:bar, and into nothing it is the first; where it is there already it stays one
  pub package_comes : MayMerge (one foo_bar) (one foo_baz) (Merged (at (1 ∷ [])))
      (after (two foo_bar foo_baz))
  pub package_alone : MayMerge nothing (one foo_baz) (Merged (at (0 ∷ []))) (after (one foo_baz))
  pub package_there : MayMerge (two foo_bar foo_baz) (one foo_baz) (Merged (at (1 ∷ [])))
      (after (two foo_bar foo_baz))
  -- not: left out, before the one that was there, under the id that it had
  pub not_left_out : MayMerge (one foo_bar) (one foo_baz) (Merged (at (1 ∷ [])))
      (after (one foo_bar)) → ⊥
  pub not_before : MayMerge (one foo_bar) (one foo_baz) (Merged (at (0 ∷ [])))
      (after (two foo_baz foo_bar)) → ⊥
  pub not_its_id : MayMerge (one foo_bar) (one foo_baz) (Merged (at (0 ∷ [])))
      (after (two foo_bar foo_baz)) → ⊥
  -- an interface under the same gate is there already
  pub interface_there : MayMerge (gated (codes "f")) (gated (codes "f"))
      (Merged (interface_at 0 (0 ∷ []))) (after (gated (codes "f")))
  -- nothing but want of memory is told where no cause holds against the merge
  pub not_refused : (error : ResolveErrorKind) (new : State)
      → MayMerge (one foo_bar) (one foo_baz) (Refused error) new → error ≡ OutOfMemory
  -- a rule that was set before stays, whatever that of the other
  pub rule_stays : Run new_state (SetTrackRule WithPrereleases ∷ Merge new_state ∷ [])
      (Done ∷ Merged (at []) ∷ []) (record new_state { track_rule = WithPrereleases })
  pub not_unset : Run new_state (SetTrackRule WithPrereleases ∷ Merge new_state ∷ [])
      (Done ∷ Merged (at []) ∷ []) new_state → ⊥
  -- each merge has a reply
  pub reply_missing : Run new_state (Merge new_state ∷ []) [] new_state → ⊥

-- ---- merges that are refused

-- interfaces under two gates: 8 of these is told
abbrev pub gates_differ : List ℕ → List ℕ → Reply
gates_differ from into = Refused (StabilityMismatch None (gate from) (gate into))

pub record ExamplesOfRefusedMerges : Type 0 where
  -- 8: i is under feature f here and under g there; the file comes all the same, and nothing else changes
  pub apart : MayMerge (gated (codes "f")) (gated (codes "g"))
      (gates_differ (codes "g") (codes "f")) (after (gated (codes "f")))
  -- not: the graph of the other, nothing left of the graph, the features or the rule of the other, its file left out
  pub not_its_graph : MayMerge (gated (codes "f")) (gated (codes "g"))
      (gates_differ (codes "g") (codes "f")) (after (gated (codes "g"))) → ⊥
  pub not_nothing : MayMerge (gated (codes "f")) (gated (codes "g"))
      (gates_differ (codes "g") (codes "f")) (after nothing) → ⊥
  pub not_its_features : MayMerge (gated (codes "f")) (gated (codes "g"))
      (gates_differ (codes "g") (codes "f"))
      (record (after (gated (codes "f"))) { features = (second_of nothing).features }) → ⊥
  pub not_its_rule : MayMerge (gated (codes "f")) (gated (codes "g"))
      (gates_differ (codes "g") (codes "f"))
      (record (after (gated (codes "f"))) { track_rule = WithPrereleases }) → ⊥
  pub not_without_file : MayMerge (gated (codes "f")) (gated (codes "g"))
      (gates_differ (codes "g") (codes "f")) (first_of (gated (codes "f"))) → ⊥
  -- nor is it told the other way round, or done
  pub not_transformed : (new : State)
      → MayMerge (gated (codes "f")) (gated (codes "g")) (gates_differ (codes "f") (codes "g")) new
      → ⊥
  pub not_done : (remap : Remap) (new : State)
      → MayMerge (gated (codes "f")) (gated (codes "g")) (Merged remap) new → ⊥
  -- under one gate nothing is refused for it
  pub no_cause : (span : OptionalSpan) (from into : Stability) (new : State)
      → MayMerge (gated (codes "f")) (gated (codes "f"))
      (Refused (StabilityMismatch span from into)) new → ⊥
  -- 27: the files of both would end past the last position, so they are left out; up to it they come
  pub too_far : Takes (ending 4294967290) (ending 6) (Refused OffsetOverflow) (ending 4294967290)
  pub not_placed : Takes (ending 4294967290) (ending 6) (Refused OffsetOverflow) (ending 4294967296)
      → ⊥
  pub not_merged : (remap : Remap) (new : State)
      → Takes (ending 4294967290) (ending 6) (Merged remap) new → ⊥
  pub just_fits : Takes (ending 4294967290) (ending 5) (Merged (at [])) (ending 4294967295)
  pub not_too_far : (new : State)
      → Takes (ending 4294967290) (ending 5) (Refused OffsetOverflow) new → ⊥
  -- want of memory leaves the file there or not, and nothing else of the other
  pub memory_before : MayMerge (one foo_bar) (one foo_baz) (Refused OutOfMemory)
      (first_of (one foo_bar))
  pub memory_after : MayMerge (one foo_bar) (one foo_baz) (Refused OutOfMemory)
      (after (one foo_bar))
  pub memory_not_alone : MayMerge (one foo_bar) (one foo_baz) (Refused OutOfMemory)
      (record (first_of (one foo_bar)) { source_map = one_file (codes "g") }) → ⊥
  pub memory_not_merged : MayMerge (one foo_bar) (one foo_baz) (Refused OutOfMemory)
      (after (two foo_bar foo_baz)) → ⊥
