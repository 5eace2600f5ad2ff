use Rattle.std.proofs.Common.{◌∙◌, List, subst}
use Rattle.wit_ways.specs.Conflicts.{AreSameLabels}
use Rattle.wit_ways.specs.declared.arrow.Arrow.{Arrow}
use Rattle.wit_ways.proofs.Outcomes.{if_ok}
use Rattle.wit_ways.proofs.conflict.exports_of.Goals as goal

pub returns : goal.returns
returns c =
    let labels = c.in_ok-labels.labels in
    let same = subst (λ (arrows : List Arrow). AreSameLabels arrows c.args.own.now labels) (c.as_slice.ensures ∙ c.in_ok-included.ensures) c.in_ok-labels.ensures in
    if_ok c.exported_by.result c.exported_by.ensures (λ names are. (labels, same, are))
