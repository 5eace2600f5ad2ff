use Rattle.std.proofs.Common.{◌≡◌, ◌∙◌, ◌⊎◌, sym, subst}
use Rattle.wit_graph_data.specs.facts.ResultFacts.{residual_error}
use Rattle.wit_graph_data.specs.declared.error_kind.ResolveErrorKind.{ResolveErrorKind}
use Rattle.wit_graph_data.specs.declared.error_kind.ResolveErrorKind.TheVariants.{OutOfMemory}
use Rattle.wit_semver.specs.SemverMerged.{IsSemverMergeCause}
use Rattle.wit_semver.proofs.Made.{accepted, can_be_elaborated, elaborated_is, elaborated_valid, kept_accepted, kept_is, kept_valid, refused}
use Rattle.wit_semver.proofs.merging.find_semver_merge.Goals as goal

pub returns-then-is_empty-clause-ok : goal.returns-then-is_empty-clause-ok
returns-then-is_empty-clause-ok c =
    kept_is c.args.rule c.args.graph.now c.args.world c.in_ok-entries.entries.imports c.in_ok-entries.entries.targets c.requires.valid c.semver_merges_stay_valid.ensures c.in_ok-entries.ensures.ok
    c.same_types_keep_worlds.ensures (c.is_empty.ensures.0 c.if-is_empty.true)

pub returns-then-is_empty-clause-valid : goal.returns-then-is_empty-clause-valid
returns-then-is_empty-clause-valid c =
    kept_valid c.args.rule c.args.graph.now c.args.world c.in_ok-entries.entries.imports c.in_ok-entries.entries.targets c.requires.valid c.semver_merges_stay_valid.ensures c.in_ok-entries.ensures.ok
    c.same_types_keep_worlds.ensures (c.is_empty.ensures.0 c.if-is_empty.true)

pub returns-then-is_empty-clause-refuses : goal.returns-then-is_empty-clause-refuses
returns-then-is_empty-clause-refuses c =
    kept_accepted c.args.rule c.args.graph.now c.args.world c.in_ok-entries.entries.imports c.in_ok-entries.entries.targets c.requires.valid c.semver_merges_stay_valid.ensures c.in_ok-entries.ensures.ok
    c.same_types_keep_worlds.ensures (c.is_empty.ensures.0 c.if-is_empty.true)

pub check_and_elaborate-requires : goal.check_and_elaborate-requires
check_and_elaborate-requires c =
    can_be_elaborated c.args.rule c.args.graph.now c.args.world c.in_ok-entries.entries.imports c.in_ok-entries.entries.targets c.requires.valid c.semver_merges_stay_valid.ensures c.in_ok-entries.ensures.ok
    c.in_ok-merged.merged c.in_ok-merged.ensures

pub returns-in_err-check_and_elaborate-clause-cause : goal.returns-in_err-check_and_elaborate-clause-cause
returns-in_err-check_and_elaborate-clause-cause c =
    residual_error c.from_residual-in_err-check_and_elaborate.result c.from_residual-in_err-check_and_elaborate.ensures.1
    (λ e is.
    let same : e ≡ c.in_err-check_and_elaborate.field-0.0 = is in
    subst (λ (x : ResolveErrorKind). (x ≡ OutOfMemory) ⊎ IsSemverMergeCause c.args.rule c.args.graph.now c.args.world x) (sym same)
    (refused c.args.rule c.args.graph.now c.args.world c.in_ok-entries.entries.imports c.in_ok-entries.entries.targets c.requires.valid c.semver_merges_stay_valid.ensures c.in_ok-entries.ensures.ok
    c.in_ok-merged.merged c.in_ok-merged.ensures c.in_err-check_and_elaborate.field-0.0 c.in_err-check_and_elaborate.ensures.cause))

pub returns-clause-ok : goal.returns-clause-ok
returns-clause-ok c =
    c.in_ok-check_and_elaborate.ensures.ok
    ∙ elaborated_is c.args.rule c.args.graph.now c.args.world c.in_ok-entries.entries.imports c.in_ok-entries.entries.targets c.requires.valid c.semver_merges_stay_valid.ensures c.in_ok-entries.ensures.ok
    c.in_ok-merged.merged c.in_ok-merged.ensures

pub returns-clause-valid : goal.returns-clause-valid
returns-clause-valid c =
    elaborated_valid c.args.rule c.args.graph.now c.args.world c.in_ok-entries.entries.imports c.in_ok-entries.entries.targets c.requires.valid c.semver_merges_stay_valid.ensures c.in_ok-entries.ensures.ok
    c.in_ok-merged.merged c.in_ok-merged.ensures _ c.in_ok-check_and_elaborate.ensures.ok c.in_ok-check_and_elaborate.ensures.refuses

pub returns-clause-refuses : goal.returns-clause-refuses
returns-clause-refuses c =
    accepted c.args.rule c.args.graph.now c.args.world c.in_ok-entries.entries.imports c.in_ok-entries.entries.targets c.requires.valid c.semver_merges_stay_valid.ensures c.in_ok-entries.ensures.ok
    c.in_ok-merged.merged c.in_ok-merged.ensures c.in_ok-check_and_elaborate.ensures.refuses
