use Rattle.std.proofs.Common.{◌≡◌, ◌≤◌, length, take}
use Rattle.wit_script_package.specs.Making.{forms_made}
use Rattle.wit_script_package.proofs.draft.Draft.make_forms.Given as goal

-- the forms that are left around what was made
abbrev pub invariant-loop-at : goal.invariant-loop-at
invariant-loop-at l = record {
  within : l.at ≤ length l.forms;
  same : forms_made l.initial.self l.forms l.initial.kind l.here ≡ forms_made l.self (take l.at l.forms) l.kind l.here;
}

abbrev pub decreases-loop-at : goal.decreases-loop-at
decreases-loop-at l = l.at
