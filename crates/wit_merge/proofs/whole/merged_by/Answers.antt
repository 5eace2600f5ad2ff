use Rattle.std.proofs.Common.{◌≡◌, ◌⊎◌, subst, sym}
use Rattle.wit_graph_data.specs.facts.ResultFacts.{residual_error}
use Rattle.wit_elaboration.specs.Valid.{IsValid}
use Rattle.wit_graph_data.specs.declared.error_kind.ResolveErrorKind.{ResolveErrorKind}
use Rattle.wit_graph_data.specs.declared.error_kind.ResolveErrorKind.TheVariants.{OutOfMemory}
use Rattle.wit_merge_match.specs.Differing.{merge_of_graphs_by}
use Rattle.wit_merge_spec.specs.Cause.{IsMergeCause, MergeIsAccepted}
use Rattle.wit_merge.proofs.Outcome.{is_merged, nothing_speaks, settle_told, settles}
use Rattle.wit_merge.proofs.whole.merged_by.Goals as goal

pub returns-in_err-joined-clause-cause : goal.returns-in_err-joined-clause-cause
returns-in_err-joined-clause-cause c =
    let m = merge_of_graphs_by c.args.graph.now c.args.other.now c.args.offset in
    residual_error c.from_residual-in_err-joined.result c.from_residual-in_err-joined.ensures.1
    (λ e is.
    let same : e ≡ c.in_err-joined.field-0.0 = is in
    subst (λ (x : ResolveErrorKind). (x ≡ OutOfMemory) ⊎ IsMergeCause m x) (sym same) c.in_err-joined.ensures.cause)

pub check_and_elaborate-requires : goal.check_and_elaborate-requires
check_and_elaborate-requires c =
    settles (merge_of_graphs_by c.args.graph.now c.args.other.now c.args.offset) c.requires.valid c.requires.other c.requires.agree.one c.in_ok-joined.joined c.in_ok-joined.ensures.joined

pub returns-in_err-check_and_elaborate-clause-cause : goal.returns-in_err-check_and_elaborate-clause-cause
returns-in_err-check_and_elaborate-clause-cause c =
    let m = merge_of_graphs_by c.args.graph.now c.args.other.now c.args.offset in
    residual_error c.from_residual-in_err-check_and_elaborate.result c.from_residual-in_err-check_and_elaborate.ensures.1
    (λ e is.
    let same : e ≡ c.in_err-check_and_elaborate.field-0.0 = is in
    subst (λ (x : ResolveErrorKind). (x ≡ OutOfMemory) ⊎ IsMergeCause m x) (sym same)
    (settle_told m c.requires.valid c.requires.other c.requires.agree.one c.in_ok-joined.joined c.in_ok-joined.ensures.joined c.in_err-check_and_elaborate.field-0.0 c.in_err-check_and_elaborate.ensures.cause))

pub returns-clause-valid : goal.returns-clause-valid
returns-clause-valid c =
    let m = merge_of_graphs_by c.args.graph.now c.args.other.now c.args.offset in
    let agree = c.requires.agree in
    let can : MergeIsAccepted m = nothing_speaks m c.requires.valid c.requires.other agree.one c.in_ok-joined.joined c.in_ok-joined.ensures.joined agree c.in_ok-joined.ensures.none c.in_ok-check_and_elaborate.ensures.refuses in
    subst IsValid (sym (is_merged m c.in_ok-joined.joined c.check_and_elaborate.new.graph c.in_ok-joined.ensures.joined c.in_ok-check_and_elaborate.ensures.ok))
    (c.merges_stay_valid.ensures m c.requires.valid c.requires.other can)

pub returns-clause-refuses : goal.returns-clause-refuses
returns-clause-refuses c =
    let m = merge_of_graphs_by c.args.graph.now c.args.other.now c.args.offset in
    let agree = c.requires.agree in
    nothing_speaks m c.requires.valid c.requires.other agree.one c.in_ok-joined.joined c.in_ok-joined.ensures.joined agree c.in_ok-joined.ensures.none c.in_ok-check_and_elaborate.ensures.refuses

pub returns-clause-graph : goal.returns-clause-graph
returns-clause-graph c = is_merged (merge_of_graphs_by c.args.graph.now c.args.other.now c.args.offset) c.in_ok-joined.joined c.check_and_elaborate.new.graph c.in_ok-joined.ensures.joined c.in_ok-check_and_elaborate.ensures.ok
