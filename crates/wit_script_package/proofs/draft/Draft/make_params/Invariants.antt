use Rattle.std.proofs.Common.{◌≡◌}
use Rattle.std.specs.Vec.Iter.{into_iter_items}
use Rattle.wit_script_package.specs.Making.{each_made, param_made}
use Rattle.wit_script_package.proofs.Steps.{made-behind}
use Rattle.wit_script_package.proofs.draft.Draft.make_params.Given as goal

-- those so far, and behind them the others
abbrev pub invariant-loop-param : goal.invariant-loop-param
invariant-loop-param l = each_made (param_made l.here) l.fn.params l.fn.self ≡ made-behind (param_made l.here) l.made (into_iter_items l.param-iterator) l.self
