use Rattle.std.proofs.Common.{rules}
use Rattle.wit_labels.proofs.NewLabels.{renamed_label_by-new}
use Rattle.wit_labels.proofs.renaming.rename.Goals as goal

pub returns : goal.returns
returns c =
    renamed_label_by-new c.args.name.now c.args.label.now c.in-Some.groups.now c.in-Some.word.now c.in-Some.after.now _
    c.in-Some.ensures.plain c.in-Some.ensures.groups c.in-Some.ensures.word c.in-Some.ensures.after (search rules) (search rules)
