use Rattle.std.proofs.Common.{◌≡◌, ◌∙◌, ◌⊎◌, ◌∷◌, ◌++◌, [], ap, refl, sym, subst, rules, List}
use Rattle.std.specs.Vec.Iter.{into_iter_items}
use Rattle.std.proofs.lemmas.List.{append_assoc}
use Rattle.wit_graph_data.specs.facts.ResultFacts.{residual_error}
use Rattle.wit_graph_data.specs.declared.error_kind.ResolveErrorKind.{ResolveErrorKind}
use Rattle.wit_graph_data.specs.declared.error_kind.ResolveErrorKind.TheVariants.{OutOfMemory}
use Rattle.wit_data.specs.declared.unresolved.UnresolvedPackageGroup.{UnresolvedPackageGroup}
use Rattle.wit_link.specs.Appending.{FilesPassTheEnd}
use Rattle.wit_remap.specs.Grown.{Begins}
use Rattle.wit_sources.specs.SourceMap.{Sources}
use Rattle.wit_resolve_graph.proofs.Grouped.{begins_still, begins_with_files, more_files, more_fits, more_taken, passes_there}
use Rattle.wit_resolve_graph.proofs.groups.place_each.Goals as goal

pub returns-in_err-place_group-clause-cause : goal.returns-in_err-place_group-clause-cause
returns-in_err-place_group-clause-cause c =
    residual_error c.from_residual.result c.from_residual.ensures.1
    (λ e is.
    let same : e ≡ c.in_err-place_group.field-0.0 = is in
    subst (λ (x : ResolveErrorKind). (x ≡ OutOfMemory) ⊎ FilesPassTheEnd c.args.source_map.now.end (c.args.main ∷ c.args.deps) x) (sym same)
    (passes_there c.args.source_map.now c.args.source_map.now [] c.args.main refl c.args.deps (c.args.main ∷ c.args.deps) refl c.in_err-place_group.field-0.0 c.in_err-place_group.ensures.cause))

pub loop-group-preserved : goal.loop-group-preserved
loop-group-preserved c =
    let are : c.loop-group.yielded ++ c.in-Some.group ∷ into_iter_items c.next.new.self ≡ c.args.deps = search rules in
    let groups : List UnresolvedPackageGroup = c.args.main ∷ c.loop-group.yielded in
    record {
      files = more_files c.args.source_map.now c.loop-group.source_map groups c.in-Some.group c.loop-group.invariant.files c.place_group-in-loop-group.new.source_map c.in_ok-place_group-2.ensures.files;
      packages =
          more_taken c.args.source_map.now c.loop-group.source_map groups c.in-Some.group c.loop-group.invariant.files c.loop-group.packages c.place_group-in-loop-group.new.packages c.loop-group.invariant.packages
          c.in_ok-place_group-2.ensures.ok;
      fits = more_fits c.args.source_map.now c.loop-group.source_map groups c.in-Some.group c.loop-group.invariant.files c.in_ok-place_group-2.ensures.fits;
      all = append_assoc c.loop-group.yielded (c.in-Some.group ∷ []) (into_iter_items c.next.new.self) ∙ are;
    }

pub returns-in_err-place_group-2-clause-begins : goal.returns-in_err-place_group-2-clause-begins
returns-in_err-place_group-2-clause-begins c =
    begins_still c.args.source_map.now c.loop-group.source_map (c.args.main ∷ c.loop-group.yielded) c.in-Some.group c.loop-group.invariant.files c.place_group-in-loop-group.new.source_map c.in_err-place_group-2.ensures.begins

pub returns-in_err-place_group-2-clause-cause : goal.returns-in_err-place_group-2-clause-cause
returns-in_err-place_group-2-clause-cause c =
    let are : c.loop-group.yielded ++ c.in-Some.group ∷ into_iter_items c.next.new.self ≡ c.args.deps = search rules in
    residual_error c.from_residual-in_err-place_group-2.result c.from_residual-in_err-place_group-2.ensures.1
    (λ e is.
    let same : e ≡ c.in_err-place_group-2.field-0.0 = is in
    subst (λ (x : ResolveErrorKind). (x ≡ OutOfMemory) ⊎ FilesPassTheEnd c.args.source_map.now.end (c.args.main ∷ c.args.deps) x) (sym same)
    (passes_there c.args.source_map.now c.loop-group.source_map (c.args.main ∷ c.loop-group.yielded) c.in-Some.group c.loop-group.invariant.files (into_iter_items c.next.new.self) (c.args.main ∷ c.args.deps)
    (ap (λ (l : List UnresolvedPackageGroup). c.args.main ∷ l) are) c.in_err-place_group-2.field-0.0 c.in_err-place_group-2.ensures.cause))

pub returns-clause-begins : goal.returns-clause-begins
returns-clause-begins c =
    subst (λ (s : Sources). Begins c.args.source_map.now.files s.files) (sym c.loop-group.invariant.files) (begins_with_files c.args.source_map.now (c.args.main ∷ c.loop-group.yielded))
