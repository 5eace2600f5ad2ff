use Rattle.std.proofs.Common.{◌∙◌, ◌∷◌, ap, sym}
use Rattle.std.proofs.lemmas.Bool.{false≢true}
use Rattle.wit_resolve_graph.specs.State.{State}
use Rattle.wit_resolve_graph.proofs.Grouped.{added_to, files_before, laid_out_before, main_named, must_refuse, never_pushed, packages_can, pushes, refuses, same_after, takes_back}
use Rattle.wit_resolve_graph.proofs.resolve.Resolve.push_groups.Goals as goal
use Rattle.wit_resolve_graph.proofs.resolve.Resolve.push_groups.Goals.{then-is_offset_overflow, else-is_offset_overflow}

pub add_packages-pushed-requires-clause-packages : goal.add_packages-pushed-requires-clause-packages
add_packages-pushed-requires-clause-packages c = rw c.in_ok-packages.ensures.ok (packages_can c.self.inside.source_map.end (c.args.main ∷ c.args.deps) c.requires.shaped)

pub add_packages-pushed-requires-clause-named : goal.add_packages-pushed-requires-clause-named
add_packages-pushed-requires-clause-named c = rw (c.in_ok-packages.ensures.ok, c.in_ok-name.ensures) (main_named c.self.inside.source_map.end c.args.main c.args.deps)

pub truncate-requires : goal.truncate-requires
truncate-requires c =
    laid_out_before c.self.inside.source_map c.place_groups.new.source_map (c.args.main ∷ c.args.deps) c.in_ok-packages.ensures.files c.len-files.result c.end-end.result c.len-files.ensures c.end-end.ensures.value
    c.end-end.ensures.laid_out

pub returns-clause-ok : goal.returns-clause-ok
returns-clause-ok c =
    let old : State = record { graph = c.self.inside.graph; features = c.self.inside.features; source_map = c.self.inside.source_map; track_rule = c.self.inside.track_rule } in
    rw (← c.self.view_is) (elim c.if-is_offset_overflow.branch [
      | then-is_offset_overflow w ↦
          never_pushed old c.args.main c.args.deps c.in_ok-packages.packages c.in_ok-packages.ensures.ok c.in_ok-name.name c.in_ok-name.ensures c.if-is_offset_overflow.self c.add_packages-pushed.result
          (c.is_offset_overflow.ensures.0 w.if-is_offset_overflow.true)
      | else-is_offset_overflow w ↦
          pushes old c.args.main c.args.deps c.in_ok-packages.packages c.in_ok-packages.ensures.ok c.in_ok-name.name c.in_ok-name.ensures c.if-is_offset_overflow.self c.add_packages-pushed.result
          c.in_ok-packages.ensures.fits (ap (λ (s : State). s.features) w.self-is) (ap (λ (s : State). s.track_rule) w.self-is) (ap (λ (s : State). s.source_map) w.self-is ∙ c.in_ok-packages.ensures.files) (added_to c.add_packages-pushed.result old.features old.graph c.in_ok-packages.packages c.in_ok-name.name (sym (ap (λ (s : State). s.graph) w.self-is)) c.add_packages-pushed.ensures.ok)
    ])

pub returns-clause-cause : goal.returns-clause-cause
returns-clause-cause c =
    let old : State = record { graph = c.self.inside.graph; features = c.self.inside.features; source_map = c.self.inside.source_map; track_rule = c.self.inside.track_rule } in
    rw (← c.self.view_is) (elim c.if-is_offset_overflow.branch [
      | then-is_offset_overflow w ↦
          takes_back old c.args.main c.args.deps c.in_ok-packages.packages c.in_ok-packages.ensures.ok c.in_ok-name.name c.in_ok-name.ensures c.if-is_offset_overflow.self c.add_packages-pushed.result
          (c.is_offset_overflow.ensures.0 w.if-is_offset_overflow.true) (same_after old.graph c.add_packages-pushed.new.graph c.if-is_offset_overflow.self.graph c.add_packages-pushed.result (ap (λ (s : State). s.graph) w.self-is) c.add_packages-pushed.ensures.unchanged) (ap (λ (s : State). s.features) w.self-is) (ap (λ (s : State). s.track_rule) w.self-is)
          (ap (λ (s : State). s.source_map) w.self-is ∙ w.truncate.ensures
          ∙ files_before c.self.inside.source_map c.place_groups.new.source_map (c.args.main ∷ c.args.deps) c.in_ok-packages.ensures.files c.len-files.result c.end-end.result c.len-files.ensures c.end-end.ensures.value)
          c.add_packages-pushed.ensures.cause
      | else-is_offset_overflow w ↦
          refuses old c.args.main c.args.deps c.in_ok-packages.packages c.in_ok-packages.ensures.ok c.in_ok-name.name c.in_ok-name.ensures c.if-is_offset_overflow.self c.add_packages-pushed.result
          c.in_ok-packages.ensures.fits (λ far. false≢true (sym w.if-is_offset_overflow.false ∙ c.is_offset_overflow.ensures.1 far)) (same_after old.graph c.add_packages-pushed.new.graph c.if-is_offset_overflow.self.graph c.add_packages-pushed.result (ap (λ (s : State). s.graph) w.self-is) c.add_packages-pushed.ensures.unchanged) (ap (λ (s : State). s.features) w.self-is) (ap (λ (s : State). s.track_rule) w.self-is)
          (ap (λ (s : State). s.source_map) w.self-is ∙ c.in_ok-packages.ensures.files) c.add_packages-pushed.ensures.cause
    ])

pub returns-clause-refuses : goal.returns-clause-refuses
returns-clause-refuses c =
    let old : State = record { graph = c.self.inside.graph; features = c.self.inside.features; source_map = c.self.inside.source_map; track_rule = c.self.inside.track_rule } in
    rw (← c.self.view_is) (must_refuse old c.args.main c.args.deps c.in_ok-packages.packages c.in_ok-packages.ensures.ok c.in_ok-name.name c.in_ok-name.ensures _ c.in_ok-packages.ensures.fits c.add_packages-pushed.ensures.refuses)
