use Rattle.std.proofs.Common.{◌≡◌, ◌∙◌, ◌⊎◌, inl, inr, ℕ, List, None, Some, slice_get, sym, ap, subst}
use Rattle.wit_names.specs.declared.track.TrackRule.{TrackRule}
use Rattle.wit_data.specs.declared.world.World.{World}
use Rattle.wit_graph_data.specs.facts.ResultFacts.{residual_error}
use Rattle.wit_graph_data.specs.declared.cause.Cause.TheVariants as cause
use Rattle.wit_graph_data.specs.declared.graph.Graph.{Graph}
use Rattle.wit_graph_data.specs.declared.error_kind.ResolveErrorKind.{ResolveErrorKind}
use Rattle.wit_graph_data.specs.declared.error_kind.ResolveErrorKind.TheVariants.{OutOfMemory, Semantic}
use Rattle.wit_semver.specs.SemverMerged.{types_of_new_entries, SemverMerge, Disagrees, IsSemverMergeCause, SemverMergeCause, functions_disagree_25, type_missing_25, semver_merge}
use Rattle.wit_semver.specs.declared.merging.NewEntries.{NewEntries}
use Rattle.wit_semver.specs.steps.Replacing.{HasNewEntries, LackTypes, semver_merge_of}
use Rattle.wit_semver.proofs.merging.checked_entries.Goals as goal

module _ (rule : TrackRule) (g : Graph) (w : ℕ) (world : World) (there : slice_get g.worlds w ≡ Some world) (v : SemverMerge) (of : v ≡ semver_merge rule g world) where
  abbrev u : SemverMerge
  u = semver_merge rule g world

  disagreement : (e : ResolveErrorKind) → (e ≡ OutOfMemory) ⊎ ((f : ℕ) × (message : List ℕ) × Disagrees v f message × (e ≡ Semantic None message cause.UpgradeMismatch)) → (e ≡ OutOfMemory) ⊎ IsSemverMergeCause rule g w e
  disagreement e (inl memory) = inl memory
  disagreement e (inr told) =
      inr (world, there, subst (SemverMergeCause u w) (sym told.3) (functions_disagree_25 told.0 told.1 (subst (λ (x : SemverMerge). Disagrees x told.0 told.1) of told.2)))

  -- the types that follow
  module _ (entries : NewEntries) (told : HasNewEntries v entries) where
    pub has : HasNewEntries u entries
    has = subst (λ (x : SemverMerge). HasNewEntries x entries) of told

    lacking : (message : List ℕ) → LackTypes v entries.types message → LackTypes u (types_of_new_entries u) message
    lacking message lacks = subst (λ (x : SemverMerge). LackTypes x (types_of_new_entries u) message) of (subst (λ (xs : List ℕ). LackTypes v xs message) has.types_are lacks)

    back : (message : List ℕ) → LackTypes u (types_of_new_entries u) message → LackTypes v entries.types message
    back message lacks = subst (λ (xs : List ℕ). LackTypes v xs message) (sym has.types_are) (subst (λ (x : SemverMerge). LackTypes x (types_of_new_entries u) message) (sym of) lacks)

    missing : (e : ResolveErrorKind) → (e ≡ OutOfMemory) ⊎ ((message : List ℕ) × LackTypes v entries.types message × (e ≡ Semantic None message cause.UpgradeMismatch)) → (e ≡ OutOfMemory) ⊎ IsSemverMergeCause rule g w e
    missing e (inl memory) = inl memory
    missing e (inr lacked) = let lacks = lacking lacked.0 lacked.1 in inr (world, there, subst (SemverMergeCause u w) (sym lacked.2) (type_missing_25 lacks.0 lacked.0 lacks.1 lacks.2))

pub returns-in_err-check_functions-clause-cause : goal.returns-in_err-check_functions-clause-cause
returns-in_err-check_functions-clause-cause c =
    let there = ap (slice_get c.args.graph.now.worlds) (sym c.index.ensures) ∙ c.at-current.ensures in
    let v = semver_merge_of c.in_ok-plan.plan in
    residual_error c.from_residual-in_err-check_functions.result c.from_residual-in_err-check_functions.ensures.1
    (λ e is.
    let same : e ≡ c.in_err-check_functions.field-0.0 = is in
    subst (λ (x : ResolveErrorKind). (x ≡ OutOfMemory) ⊎ IsSemverMergeCause c.args.rule c.args.graph.now c.args.world x) (sym same)
    (disagreement c.args.rule c.args.graph.now c.args.world c.at-current.result.now there v c.in_ok-plan.ensures.of c.in_err-check_functions.field-0.0 c.in_err-check_functions.ensures.cause))

pub returns-in_err-check_types-clause-cause : goal.returns-in_err-check_types-clause-cause
returns-in_err-check_types-clause-cause c =
    let g = c.args.graph.now in
    let there = ap (slice_get g.worlds) (sym c.index.ensures) ∙ c.at-current.ensures in
    let v = semver_merge_of c.in_ok-plan.plan in
    residual_error c.from_residual-in_err-check_types.result c.from_residual-in_err-check_types.ensures.1
    (λ e is.
    let same : e ≡ c.in_err-check_types.field-0.0 = is in
    subst (λ (x : ResolveErrorKind). (x ≡ OutOfMemory) ⊎ IsSemverMergeCause c.args.rule g c.args.world x) (sym same)
    (missing c.args.rule g c.args.world c.at-current.result.now there v c.in_ok-plan.ensures.of c.in_ok-entries.entries c.in_ok-entries.ensures c.in_err-check_types.field-0.0 c.in_err-check_types.ensures.cause))

pub returns-clause-ok : goal.returns-clause-ok
returns-clause-ok c =
    let g = c.args.graph.now in
    let world = c.at-current.result.now in
    let there = ap (slice_get g.worlds) (sym c.index.ensures) ∙ c.at-current.ensures in
    let v = semver_merge_of c.in_ok-plan.plan in
    let of = c.in_ok-plan.ensures.of in
    let entries = c.in_ok-entries.entries in
    let are = has c.args.rule g c.args.world world there v of entries c.in_ok-entries.ensures in
    record {
      world = world;
      there = there;
      complete = λ t message follows lacks. c.in_ok-check_types.ensures.complete message (back c.args.rule g c.args.world world there v of entries c.in_ok-entries.ensures message (t, follows, lacks));
      agree = λ f message differ. c.in_ok-check_functions.ensures.agree f message (subst (λ (x : SemverMerge). Disagrees x f message) (sym of) differ);
      imports_are = are.imports_are;
      targets_are = are.targets_are;
    }
