use Rattle.std.proofs.Common.{rules, ◌≡◌, ◌∙◌, ◌⊎◌, ◌++◌, ◌∷◌, [], ℕ, List, subst, sym}
use Rattle.std.proofs.lemmas.List.{append_assoc}
use Rattle.std.specs.Vec.Iter.{into_iter_items}
use Rattle.wit_graph_data.specs.facts.ResultFacts.{residual_error}
use Rattle.wit_graph_data.specs.declared.error_kind.ResolveErrorKind.{ResolveErrorKind}
use Rattle.wit_graph_data.specs.declared.error_kind.ResolveErrorKind.TheVariants.{OutOfMemory}
use Rattle.wit_link.specs.facts.CachesFacts.{grown_then}
use Rattle.wit_remap.specs.facts.GrownFacts.{Grown-then}
use Rattle.wit_link.specs.GroupOrder.{Unresolved}
use Rattle.wit_link.specs.Appending.{AreAdded, IsOneRefused}
use Rattle.wit_link.proofs.OneAfterAnother.{pushed_more, refused_here}
use Rattle.wit_link.proofs.several.append_each.Goals as goal

pub loop-package-preserved : goal.loop-package-preserved
loop-package-preserved c =
    let one : Unresolved = (c.in-Some.package, c.in-Some.offset) in
    let are : c.loop-package.yielded ++ one ∷ into_iter_items c.next.new.self ≡ c.args.packages = search rules in
    record {
      pushed =
          subst (λ (ids : List ℕ). AreAdded c.args.features.now c.args.graph.now (c.loop-package.yielded ++ one ∷ []) c.append_with.new.graph ids) (sym c.in_ok-push.ensures.ok)
          (pushed_more c.args.features.now c.args.graph.now c.loop-package.yielded c.loop-package.graph c.loop-package.ids one c.append_with.new.graph c.in_ok-id.id c.loop-package.invariant.pushed c.in_ok-id.ensures.ok);
      valid = c.append_with.ensures.valid;
      grown = Grown-then c.args.graph.now c.loop-package.graph c.append_with.new.graph c.loop-package.invariant.grown c.append_with.ensures.grown;
      caches = c.append_with.ensures.caches;
      known = grown_then c.args.caches.now c.loop-package.caches c.append_with.new.caches c.loop-package.invariant.known c.append_with.ensures.known;
      left = search rules;
      all = append_assoc c.loop-package.yielded (one ∷ []) (into_iter_items c.next.new.self) ∙ are;
    }

pub returns-in_err-id-clause-cause : goal.returns-in_err-id-clause-cause
returns-in_err-id-clause-cause c =
    let one : Unresolved = (c.in-Some.package, c.in-Some.offset) in
    let are : c.loop-package.yielded ++ one ∷ into_iter_items c.next.new.self ≡ c.args.packages = search rules in
    residual_error c.from_residual.result c.from_residual.ensures.1
    (λ e is.
    let same : e ≡ c.in_err-id.field-0.0 = is in
    subst (λ (x : ResolveErrorKind). (x ≡ OutOfMemory) ⊎ IsOneRefused c.args.features.now c.args.graph.now c.args.packages x) (sym same)
    (refused_here c.args.features.now c.args.graph.now c.args.packages c.loop-package.yielded (into_iter_items c.next.new.self) one c.loop-package.graph c.loop-package.ids are c.loop-package.invariant.pushed c.in_err-id.field-0.0
    c.in_err-id.ensures.cause))

pub returns-in_err-push-clause-grown : goal.returns-in_err-push-clause-grown
returns-in_err-push-clause-grown c = Grown-then c.args.graph.now c.loop-package.graph c.append_with.new.graph c.loop-package.invariant.grown c.append_with.ensures.grown

pub returns-in_err-push-clause-known : goal.returns-in_err-push-clause-known
returns-in_err-push-clause-known c = grown_then c.args.caches.now c.loop-package.caches c.append_with.new.caches c.loop-package.invariant.known c.append_with.ensures.known

pub returns-in_err-id-clause-known : goal.returns-in_err-id-clause-known
returns-in_err-id-clause-known c = grown_then c.args.caches.now c.loop-package.caches c.append_with.new.caches c.loop-package.invariant.known c.append_with.ensures.known
