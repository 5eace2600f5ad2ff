use Rattle.std.proofs.Common.{rules}
use Rattle.wit_labels.proofs.NewLabels.{renamed_label-first, renamed_label-none, renamed_label-unclosed}
use Rattle.wit_labels.proofs.renaming.Renamings.rename.Goals as goal

pub returns-in_default : goal.returns-in_default
returns-in_default c =
    let same = renamed_label-unclosed c.args.self.now c.args.label.now c.in_default.ensures.none in
    rw same at c.try_from_str.ensures

pub returns-in_ok-joined-in-Some-first_of : goal.returns-in_ok-joined-in-Some-first_of
returns-in_ok-joined-in-Some-first_of c =
    renamed_label-first c.args.self.now c.args.label.now c.in-Some.word.now c.in-Some.ensures.plain c.in-Some.ensures.word
    c.in-Some.groups.now c.in-Some.after.now _ c.in-Some-first_of.name.now c.in-Some.ensures.groups c.in-Some.ensures.after (search rules) (search rules)

pub returns-in-None : goal.returns-in-None
returns-in-None c =
    let same = renamed_label-none c.args.self.now c.args.label.now c.in-Some.word.now c.in-Some.ensures.plain c.in-Some.ensures.word (search rules) in
    rw same at c.try_from_str-in-None.ensures
