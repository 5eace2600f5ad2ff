use Rattle.std.proofs.Common.{◌∙◌, ap}
use Rattle.std.proofs.lemmas.Result.{IfOk-weaker}
use Rattle.wit_link_spec.specs.declared.addition.Values.{Values}
use Rattle.wit_merge_spec.specs.Matches.{GraphMerge}
use Rattle.wit_merge_spec.specs.Merged.{value_remap}
use Rattle.wit_merge_match.specs.Differing.{merge_of_graphs_by}
use Rattle.wit_merge_match.specs.declared.merge_ids.MergeIds.{MergeIds}
use Rattle.wit_merge_match.specs.steps.Matched.{merge_of_graphs}
use Rattle.wit_link_resources.specs.steps.Active.{seen}
use Rattle.wit_remap.specs.facts.GrownFacts.{Begins-same}
use Rattle.wit_merge.proofs.MergeComes.{comes, is_remap, positions_remapped}
use Rattle.wit_merge.proofs.owning.values.Goals as goal

pub remapped_values-requires-clause-can : goal.remapped_values-requires-clause-can
remapped_values-requires-clause-can c =
    comes (merge_of_graphs c.args.graph.now c.args.other.now) c.requires.valid c.requires.valid_other c.args.merge_ids.now.new_ids.types (ap (λ (g : MergeIds). g.new_ids.types) c.requires.merge_ids)
    (seen c.as_slice.result.now) (ap seen c.as_slice.ensures.value ∙ c.in_ok-functions.ensures)

pub remapped_values-requires-clause-there : goal.remapped_values-requires-clause-there
remapped_values-requires-clause-there c =
    positions_remapped (merge_of_graphs c.args.graph.now c.args.other.now) c.requires.valid c.requires.valid_other c.args.merge_ids.now.new_ids.types (ap (λ (g : MergeIds). g.new_ids.types) c.requires.merge_ids)
    (seen c.as_slice.result.now) (ap seen c.as_slice.ensures.value ∙ c.in_ok-functions.ensures)

pub returns-clause-values : goal.returns-clause-values
returns-clause-values c =
    IfOk-weaker c.remapped_values.result _ _
    (λ values is offset.
    let m : GraphMerge = merge_of_graphs_by c.args.graph.now c.args.other.now offset in
    let same = is (value_remap m)
    (is_remap m c.requires.valid c.requires.valid_other c.args.merge_ids.now.new_ids.types (ap (λ (g : MergeIds). g.new_ids.types) c.requires.merge_ids)
    (seen c.as_slice.result.now) (ap seen c.as_slice.ensures.value ∙ c.in_ok-functions.ensures)) in
    (ap (λ (v : Values). v.new_ids) same, ap (λ (v : Values). v.owns) same)) c.remapped_values.ensures.values

pub returns-in_err-functions-clause-met_before : goal.returns-in_err-functions-clause-met_before
returns-in_err-functions-clause-met_before c = Begins-same c.args.met.now
