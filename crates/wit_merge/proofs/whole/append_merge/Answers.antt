use Rattle.std.proofs.Common.{◌≡◌, ◌∙◌, ◌⊎◌, inl, inr, ap, subst, sym}
use Rattle.wit_elaboration.specs.Elaboration.{graph_uses}
use Rattle.wit_elaboration.specs.Valid.{IsValid}
use Rattle.wit_graph_data.specs.declared.graph.Graph.{Graph}
use Rattle.wit_graph_data.specs.declared.error_kind.ResolveErrorKind.{ResolveErrorKind}
use Rattle.wit_graph_data.specs.declared.error_kind.ResolveErrorKind.TheVariants.{OutOfMemory}
use Rattle.wit_graph_data.specs.facts.ResultFacts.{residual_error}
use Rattle.wit_link_resources.specs.facts.MetTypes.{right_stays}
use Rattle.wit_link_resources.specs.steps.Leading.{AreRight}
use Rattle.wit_merge_match.specs.Differing.{merge_of_graphs_by}
use Rattle.wit_merge_spec.specs.Cause.{IsMergeCause}
use Rattle.wit_remap.specs.facts.GrownFacts.{Begins-same, Grown-same}
use Rattle.wit_merge.proofs.GrownMerges.{can_append, is_accepted, is_told, is_merged_behind}
use Rattle.wit_merge.proofs.whole.append_merge.Goals as goal

pub append-requires-clause-can : goal.append-requires-clause-can
append-requires-clause-can c =
    let m = merge_of_graphs_by c.args.graph.now c.args.other.now c.args.offset in
    can_append m c.requires.valid c.requires.other c.requires.agree.one c.requires.leaves c.in_ok-coming.coming c.in_ok-coming.ensures.comes c.joined_is_grown.ensures c.functions_come.ensures c.uses_grow.ensures c.nothing_new_is_cyclic.ensures c.new_worlds_are_sound.ensures

pub returns-clause-graph : goal.returns-clause-graph
returns-clause-graph c =
    let m = merge_of_graphs_by c.args.graph.now c.args.other.now c.args.offset in
    c.in_ok-append.ensures.ok
    ∙ is_merged_behind m c.requires.valid c.requires.other c.requires.agree.one c.requires.leaves c.in_ok-coming.coming c.in_ok-coming.ensures.comes c.joined_is_grown.ensures c.functions_come.ensures c.merges_grow.ensures

pub returns-clause-refuses : goal.returns-clause-refuses
returns-clause-refuses c =
    let m = merge_of_graphs_by c.args.graph.now c.args.other.now c.args.offset in
    is_accepted m c.requires.valid c.requires.other c.requires.agree.one c.requires.leaves c.in_ok-coming.coming c.in_ok-coming.ensures.comes c.joined_is_grown.ensures c.functions_come.ensures c.accepted_growth.ensures c.requires.agree c.in_ok-append.ensures.fine

pub returns-clause-valid : goal.returns-clause-valid
returns-clause-valid c =
    let m = merge_of_graphs_by c.args.graph.now c.args.other.now c.args.offset in
    let accepted =
    is_accepted m c.requires.valid c.requires.other c.requires.agree.one c.requires.leaves c.in_ok-coming.coming c.in_ok-coming.ensures.comes c.joined_is_grown.ensures c.functions_come.ensures c.accepted_growth.ensures c.requires.agree c.in_ok-append.ensures.fine in
    let is =
    c.in_ok-append.ensures.ok
    ∙ is_merged_behind m c.requires.valid c.requires.other c.requires.agree.one c.requires.leaves c.in_ok-coming.coming c.in_ok-coming.ensures.comes c.joined_is_grown.ensures c.functions_come.ensures c.merges_grow.ensures in
    subst IsValid (sym is) (c.merges_stay_valid.ensures m c.requires.valid c.requires.other accepted)

pub returns-clause-uses : goal.returns-clause-uses
returns-clause-uses c = c.in_ok-append.ensures.uses ∙ ap graph_uses (sym c.in_ok-append.ensures.ok)

pub returns-clause-met : goal.returns-clause-met
returns-clause-met c =
    let m = merge_of_graphs_by c.args.graph.now c.args.other.now c.args.offset in
    let accepted =
    is_accepted m c.requires.valid c.requires.other c.requires.agree.one c.requires.leaves c.in_ok-coming.coming c.in_ok-coming.ensures.comes c.joined_is_grown.ensures c.functions_come.ensures c.accepted_growth.ensures c.requires.agree c.in_ok-append.ensures.fine in
    let is =
    c.in_ok-append.ensures.ok
    ∙ is_merged_behind m c.requires.valid c.requires.other c.requires.agree.one c.requires.leaves c.in_ok-coming.coming c.in_ok-coming.ensures.comes c.joined_is_grown.ensures c.functions_come.ensures c.merges_grow.ensures in
    let valid = subst IsValid (sym is) (c.merges_stay_valid.ensures m c.requires.valid c.requires.other accepted) in
    right_stays c.args.graph.now.types c.append.new.graph.types c.what_comes.new.met c.requires.valid.no_cycles.types valid.no_cycles.types c.append.ensures.grown.types c.in_ok-coming.ensures.met

pub returns-in_err-append-clause-cause : goal.returns-in_err-append-clause-cause
returns-in_err-append-clause-cause c =
    let m = merge_of_graphs_by c.args.graph.now c.args.other.now c.args.offset in
    residual_error c.from_residual-in_err-append.result c.from_residual-in_err-append.ensures.1
    (λ e is.
    let same : e ≡ c.in_err-append.field-0.0 = is in
    subst (λ (x : ResolveErrorKind). (x ≡ OutOfMemory) ⊎ IsMergeCause m x) (sym same)
    (elim c.in_err-append.ensures.cause [
      | inl memory ↦ inl memory
      | inr cause ↦
          inr (is_told m c.requires.valid c.requires.other c.requires.agree.one c.requires.leaves c.in_ok-coming.coming c.in_ok-coming.ensures.comes c.joined_is_grown.ensures c.functions_come.ensures c.merges_grow.ensures c.in_err-append.field-0.0 cause)
    ]))

pub returns-in_err-append-clause-valid : goal.returns-in_err-append-clause-valid
returns-in_err-append-clause-valid c = subst IsValid (sym c.in_err-append.ensures.unchanged) c.requires.valid

pub returns-in_err-append-clause-uses : goal.returns-in_err-append-clause-uses
returns-in_err-append-clause-uses c = c.in_err-append.ensures.rows_err ∙ (c.requires.uses ∙ ap graph_uses (sym c.in_err-append.ensures.unchanged))

pub returns-in_err-append-clause-met : goal.returns-in_err-append-clause-met
returns-in_err-append-clause-met c = subst (λ (g : Graph). AreRight g.types c.what_comes.new.met) (sym c.in_err-append.ensures.unchanged) c.in_ok-coming.ensures.met

pub returns-in_err-coming-clause-grown : goal.returns-in_err-coming-clause-grown
returns-in_err-coming-clause-grown c = Grown-same c.args.graph.now

pub returns-in_err-coming-clause-rows : goal.returns-in_err-coming-clause-rows
returns-in_err-coming-clause-rows c = Begins-same c.args.elaborator.now

pub returns-in_err-merge_ids-clause-grown : goal.returns-in_err-merge_ids-clause-grown
returns-in_err-merge_ids-clause-grown c = Grown-same c.args.graph.now

pub returns-in_err-merge_ids-clause-rows : goal.returns-in_err-merge_ids-clause-rows
returns-in_err-merge_ids-clause-rows c = Begins-same c.args.elaborator.now

pub returns-in_err-merge_ids-clause-met_before : goal.returns-in_err-merge_ids-clause-met_before
returns-in_err-merge_ids-clause-met_before c = Begins-same c.args.met.now
