use Rattle.std.proofs.Common.{rules}
use Rattle.wit_labels.proofs.SetterSteps.{getter-of, getter-same}
use Rattle.wit_labels.proofs.setters.getter_label.Goals as goal

pub returns-in_ok-push_str-in-Some-2 : goal.returns-in_ok-push_str-in-Some-2
returns-in_ok-push_str-in-Some-2 c =
    let cases = c.in-Some.ensures.cases in
    getter-of c.args.label.now c.in-Some.before.now c.in-Some.after.now _ cases.0 cases.1 cases.2 cases.3 cases.4 (search rules)

pub returns-in-None : goal.returns-in-None
returns-in-None c =
    let same = getter-same c.args.label.now c.in-None.ensures.cases in
    rw same at c.try_from_str.ensures
