use Rattle.std.proofs.Common.{◌≡◌, ◌∙◌, ◌⊎◌, ◌<◌, ◌^◌, ap, subst, sym}
use Rattle.wit_graph_data.specs.facts.ResultFacts.{residual_error}
use Rattle.wit_graph_data.specs.declared.graph.Graph.{Graph}
use Rattle.wit_graph_data.specs.declared.error_kind.ResolveErrorKind.{ResolveErrorKind}
use Rattle.wit_graph_data.specs.declared.error_kind.ResolveErrorKind.TheVariants.{OutOfMemory}
use Rattle.wit_link_resources.specs.facts.MetTypes.{right-begun}
use Rattle.wit_merge_match.specs.Differing.{merge_of_graphs_by}
use Rattle.wit_merge_spec.specs.Cause.{IsMergeCause}
use Rattle.wit_merge.proofs.Outcome.{all_fit, borrow_told}
use Rattle.wit_merge.proofs.whole.as_listed.Goals as goal

pub joined_graph-requires-clause-ready : goal.joined_graph-requires-clause-ready
joined_graph-requires-clause-ready c =
    let agree = c.requires.agree in
    let small : c.args.offset < 2 ^ 32 = c.ranges.offset.fits in
    record {
      valid = c.requires.valid;
      valid_other = c.requires.other;
      one = agree.one;
      matches = c.requires.matches;
      merge_ids = c.requires.merge_ids;
      values = (c.in_ok-value_ids.ensures.values c.args.offset).0;
      fits = all_fit (merge_of_graphs_by c.args.graph.now c.args.other.now c.args.offset) small agree.spans;
    }

pub check_results-requires-clause-ready : goal.check_results-requires-clause-ready
check_results-requires-clause-ready c =
    let agree = c.requires.agree in
    let small : c.args.offset < 2 ^ 32 = c.ranges.offset.fits in
    record {
      valid = c.requires.valid;
      valid_other = c.requires.other;
      one = agree.one;
      matches = c.requires.matches;
      merge_ids = c.requires.merge_ids;
      values = (c.in_ok-value_ids.ensures.values c.args.offset).0;
      fits = all_fit (merge_of_graphs_by c.args.graph.now c.args.other.now c.args.offset) small agree.spans;
    }

pub returns-in_err-check_results-clause-cause : goal.returns-in_err-check_results-clause-cause
returns-in_err-check_results-clause-cause c =
    let m = merge_of_graphs_by c.args.graph.now c.args.other.now c.args.offset in
    residual_error c.from_residual-in_err-check_results.result c.from_residual-in_err-check_results.ensures.1
    (λ e is.
    let same : e ≡ c.in_err-check_results.field-0.0 = is in
    subst (λ (x : ResolveErrorKind). (x ≡ OutOfMemory) ⊎ IsMergeCause m x) (sym same)
    (borrow_told m c.requires.agree.one c.in_err-check_results.field-0.0 c.in_err-check_results.ensures.cause))

pub check_results-requires-clause-types : goal.check_results-requires-clause-types
check_results-requires-clause-types c = c.as_slice.ensures ∙ ap (λ (g : Graph). g.types) c.in_ok-joined.ensures

pub values-requires-clause-merge_ids : goal.values-requires-clause-merge_ids
values-requires-clause-merge_ids c = c.requires.merge_ids

pub joined_graph-requires-clause-owns : goal.joined_graph-requires-clause-owns
joined_graph-requires-clause-owns c = (c.in_ok-value_ids.ensures.values c.args.offset).1

pub values-requires-clause-met : goal.values-requires-clause-met
values-requires-clause-met c = right-begun c.args.graph.now.types c.new-met.result c.new-met.ensures
