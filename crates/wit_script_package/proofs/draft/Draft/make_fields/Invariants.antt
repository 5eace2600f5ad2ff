use Rattle.std.proofs.Common.{◌≡◌}
use Rattle.std.specs.Vec.Iter.{into_iter_items}
use Rattle.wit_script_package.specs.Making.{each_made, field_made}
use Rattle.wit_script_package.proofs.Steps.{made-behind}
use Rattle.wit_script_package.proofs.draft.Draft.make_fields.Given as goal

-- those so far, and behind them the others
abbrev pub invariant-loop-field : goal.invariant-loop-field
invariant-loop-field l = each_made (field_made l.here) l.fn.fields l.fn.self ≡ made-behind (field_made l.here) l.made (into_iter_items l.field-iterator) l.self
