use Rattle.std.proofs.Common.{ℕ, List}
use Rattle.std.proofs.lemmas.Map.Iter.{rest_more, rest_all}
use Rattle.wit_values.specs.Names.{deref_named}
use Rattle.wit_data.specs.declared.function.Function.{Function}
use Rattle.wit_link_resources.specs.steps.Active.{active_one, seen}
use Rattle.wit_link_resources.proofs.Ranges.{left-next, left-none}
use Rattle.wit_link_resources.proofs.functions.push_named.Goals as goal

pub loop-function-preserved : goal.loop-function-preserved
loop-function-preserved c =
    left-next (λ (e : List ℕ × Function). active_one c.args.features.now e.1) (seen c.loop-function.functions.items) (seen c.push_active.new.functions.items) _ _ _ _
    (rest_more deref_named _ _ _ _ c.in-Some.is c.next.ensures.steps) c.loop-function.invariant c.in_ok-push_active.ensures

pub returns : goal.returns
returns c =
    left-none (λ (e : List ℕ × Function). active_one c.args.features.now e.1) (seen c.loop-function.functions.items) _ _
    (rest_all deref_named _ _ _ c.in-None.is c.next.ensures.steps) c.loop-function.invariant
