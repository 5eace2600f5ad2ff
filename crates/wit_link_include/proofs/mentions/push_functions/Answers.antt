use Rattle.std.proofs.Common.{◌∙◌, ◌++◌, ℕ, List, ap, refl}
use Rattle.std.specs.List.{flat_map}
use Rattle.std.proofs.lemmas.Map.Iter.{rest_more, rest_all}
use Rattle.wit_values.specs.Names.{deref_named}
use Rattle.wit_data.specs.Kind.{function_references}
use Rattle.wit_data.specs.declared.function.Function.{Function}
use Rattle.wit_link_include.proofs.Steps.{flat_more, nothing_left}
use Rattle.wit_link_include.proofs.mentions.push_functions.Goals as goal

pub loop-function-preserved : goal.loop-function-preserved
loop-function-preserved c =
    flat_more (λ (e : List ℕ × Function). function_references e.1) c.loop-function.ids c.append.new.self _ _ _ _
    (rest_more deref_named _ _ _ _ c.in-Some.is c.next.ensures.steps) c.loop-function.invariant (c.in_ok-append.ensures.ok ∙ ap (λ (w : List ℕ). c.loop-function.ids ++ w) c.in_ok-function_references.ensures)

pub returns : goal.returns
returns c =
    nothing_left (flat_map (λ (e : List ℕ × Function). function_references e.1)) c.loop-function.ids _ _ (rest_all deref_named _ _ _ c.in-None.is c.next.ensures.steps) refl c.loop-function.invariant
