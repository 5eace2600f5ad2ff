use Rattle.std.proofs.Common.{◌∙◌, sym, rules}
use Rattle.wit_labels.proofs.GroupSteps.{rest_of-none, rest_of-some}
use Rattle.wit_labels.proofs.groups.rest_of.Goals as goal

pub loop-after-preserved : goal.loop-after-preserved
loop-after-preserved c = (
  sym (rest_of-some c.loop-after.rest.now c.in-Some.field-0-0.now c.in-Some.after.now c.in-Some.ensures.groups c.in-Some.ensures.whole) ∙ c.loop-after.invariant.0,
  search rules,
)

pub returns : goal.returns
returns c = sym (rest_of-none c.loop-after.rest.now c.in_default.ensures.none) ∙ c.loop-after.invariant.0
