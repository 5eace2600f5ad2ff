use Rattle.std.proofs.Common.{◌∙◌, ap}
use Rattle.std.proofs.lemmas.Result.{IfOk-weaker}
use Rattle.wit_link_spec.specs.Addition.{remap_of_addition}
use Rattle.wit_link_spec.specs.declared.addition.NewIds.{NewIds}
use Rattle.wit_link_spec.specs.steps.AdditionRefs.{addition_of}
use Rattle.wit_link_resources.specs.steps.Active.{seen}
use Rattle.wit_link_resources.proofs.AdditionComes.{comes, is_remap, positions_remapped}
use Rattle.wit_link_resources.proofs.adding.values.Goals as goal

pub remapped_values-requires-clause-can : goal.remapped_values-requires-clause-can
remapped_values-requires-clause-can c =
    comes (addition_of c.args.addition.now) c.requires.valid c.requires.shaped c.requires.image c.args.new_ids.now.types (ap (λ (p : NewIds). p.types) c.requires.new_ids) (seen c.as_slice.result.now)
    (ap seen c.as_slice.ensures.value ∙ c.in_ok-functions.ensures)

pub remapped_values-requires-clause-there : goal.remapped_values-requires-clause-there
remapped_values-requires-clause-there c =
    positions_remapped (addition_of c.args.addition.now) c.requires.valid c.requires.shaped c.requires.image c.args.new_ids.now.types (ap (λ (p : NewIds). p.types) c.requires.new_ids) (seen c.as_slice.result.now)
    (ap seen c.as_slice.ensures.value ∙ c.in_ok-functions.ensures)

pub returns-clause-values : goal.returns-clause-values
returns-clause-values c =
    IfOk-weaker c.remapped_values.result _ _
    (λ values is. is (remap_of_addition (addition_of c.args.addition.now))
    (is_remap (addition_of c.args.addition.now) c.requires.valid c.requires.shaped c.requires.image c.args.new_ids.now.types (ap (λ (p : NewIds). p.types) c.requires.new_ids) (seen c.as_slice.result.now)
    (ap seen c.as_slice.ensures.value ∙ c.in_ok-functions.ensures))) c.remapped_values.ensures.values
