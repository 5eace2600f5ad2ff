use Rattle.std.proofs.Common.{◌≡◌, ◌∙◌, ◌+◌, ◌<◌, ◌^◌, refl, ap, sym, arith}
use Rattle.std.proofs.lemmas.Bool.{false≢true}
use Rattle.wit_sources.specs.SourceMap.{Sources, with_sources}
use Rattle.wit_resolve_graph.specs.State.{State}
use Rattle.wit_resolve_graph.proofs.Grouped.{same_after}
use Rattle.wit_resolve_graph.proofs.Merged.{cut_back, made_one, merges, never_merged, refuses, takes_back, within}
use Rattle.wit_resolve_graph.proofs.resolve.Resolve.merge.Goals as goal
use Rattle.wit_resolve_graph.proofs.resolve.Resolve.merge.Goals.{then-is_offset_overflow, else-is_offset_overflow}

pub returns-clause-ok : goal.returns-clause-ok
returns-clause-ok c =
    let old : State = record { graph = c.self.inside.graph; features = c.self.inside.features; source_map = c.self.inside.source_map; track_rule = c.self.inside.track_rule } in
    let other : State = record { graph = c.other.inside.graph; features = c.other.inside.features; source_map = c.other.inside.source_map; track_rule = c.other.inside.track_rule } in
    let placed : c.append.new.self ≡ with_sources old.source_map other.source_map = c.in_ok-offset.ensures.ok.1 ∙ ap (with_sources old.source_map) c.replace-files.ensures.value in
    let end : c.replace-files.result.end ≡ other.source_map.end = ap (λ (s : Sources). s.end) c.replace-files.ensures.value in
    let less = within (old.source_map.end + c.replace-files.result.end) c.in_ok-offset.ensures.overflow (λ far. cc) in
    let fits : old.source_map.end + other.source_map.end < 2 ^ 32 = omega (arith, less, end) in
    rw (← c.self.view_is, ← c.other.view_is) (elim c.if-is_offset_overflow.branch [
      | then-is_offset_overflow w ↦
          never_merged old other other.graph c.in_ok-offset.offset refl c.in_ok-offset.ensures.ok.0 c.if-is_offset_overflow.self c.merge_kept-merged.result (c.is_offset_overflow.ensures.0 w.if-is_offset_overflow.true)
      | else-is_offset_overflow w ↦
          merges old other other.graph c.in_ok-offset.offset refl c.in_ok-offset.ensures.ok.0 c.if-is_offset_overflow.self c.merge_kept-merged.result fits
          (made_one _ c.merge_kept-merged.new.graph c.if-is_offset_overflow.self.graph c.merge_kept-merged.result (ap (λ (s : State). s.graph) w.self-is) c.merge_kept-merged.ensures.graph) c.merge_kept-merged.ensures.remap (ap (λ (s : State). s.features) w.self-is) (ap (λ (s : State). s.track_rule) w.self-is)
          (ap (λ (s : State). s.source_map) w.self-is ∙ placed) c.merge_kept-merged.ensures.refuses
    ])

pub returns-clause-cause : goal.returns-clause-cause
returns-clause-cause c =
    let old : State = record { graph = c.self.inside.graph; features = c.self.inside.features; source_map = c.self.inside.source_map; track_rule = c.self.inside.track_rule } in
    let other : State = record { graph = c.other.inside.graph; features = c.other.inside.features; source_map = c.other.inside.source_map; track_rule = c.other.inside.track_rule } in
    let placed : c.append.new.self ≡ with_sources old.source_map other.source_map = c.in_ok-offset.ensures.ok.1 ∙ ap (with_sources old.source_map) c.replace-files.ensures.value in
    let end : c.replace-files.result.end ≡ other.source_map.end = ap (λ (s : Sources). s.end) c.replace-files.ensures.value in
    let less = within (old.source_map.end + c.replace-files.result.end) c.in_ok-offset.ensures.overflow (λ far. cc) in
    let fits : old.source_map.end + other.source_map.end < 2 ^ 32 = omega (arith, less, end) in
    rw (← c.self.view_is, ← c.other.view_is) (elim c.if-is_offset_overflow.branch [
      | then-is_offset_overflow w ↦
          takes_back old other other.graph c.in_ok-offset.offset refl c.in_ok-offset.ensures.ok.0 c.if-is_offset_overflow.self c.merge_kept-merged.result (c.is_offset_overflow.ensures.0 w.if-is_offset_overflow.true)
          (same_after old.graph c.merge_kept-merged.new.graph c.if-is_offset_overflow.self.graph c.merge_kept-merged.result (ap (λ (s : State). s.graph) w.self-is) c.merge_kept-merged.ensures.unchanged)
          (ap (λ (s : State). s.features) w.self-is) (ap (λ (s : State). s.track_rule) w.self-is)
          (ap (λ (s : State). s.source_map) w.self-is ∙ w.truncate.ensures ∙ cut_back old.source_map other.source_map c.append.new.self c.len-len.result c.end-end.result placed c.len-len.ensures c.end-end.ensures.value)
          c.merge_kept-merged.ensures.cause
      | else-is_offset_overflow w ↦
          refuses old other other.graph c.in_ok-offset.offset refl c.in_ok-offset.ensures.ok.0 c.if-is_offset_overflow.self c.merge_kept-merged.result
          fits (λ far. false≢true (sym w.if-is_offset_overflow.false ∙ c.is_offset_overflow.ensures.1 far))
          (same_after old.graph c.merge_kept-merged.new.graph c.if-is_offset_overflow.self.graph c.merge_kept-merged.result (ap (λ (s : State). s.graph) w.self-is) c.merge_kept-merged.ensures.unchanged)
          (ap (λ (s : State). s.features) w.self-is) (ap (λ (s : State). s.track_rule) w.self-is)
          (ap (λ (s : State). s.source_map) w.self-is ∙ placed) c.merge_kept-merged.ensures.cause
    ])
