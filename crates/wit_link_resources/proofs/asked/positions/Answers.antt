use Rattle.std.proofs.Common.{◌∙◌, ◌++◌, ℕ, List, ap}
use Rattle.std.specs.Borrow.{Bor}
use Rattle.std.specs.List.{flat_map}
use Rattle.std.proofs.lemmas.List.{take_all}
use Rattle.wit_data.specs.declared.function.Function.{Function}
use Rattle.wit_data.specs.declared.types.TypeDef.{TypeDef}
use Rattle.wit_remap_spec.specs.Selected.{selected}
use Rattle.wit_link_resources.specs.steps.Active.{seen}
use Rattle.wit_link_resources.specs.steps.IncomingTypes.{new_of}
use Rattle.wit_link_resources.proofs.Ranges.{seen-next}
use Rattle.wit_link_resources.proofs.asked.positions.Goals as goal
use Rattle.wit_data.specs.Kind.{signature_types}
use Rattle.wit_remap_spec.specs.steps.Parts.{value_positions}

pub loop-function-preserved : goal.loop-function-preserved
loop-function-preserved c =
    seen-next signature_types c.args.functions.now c.loop-function.function-index c.function-item.result
    (flat_map (λ (def : TypeDef). value_positions def.kind) (selected (new_of c.args.incoming.now) c.args.incoming.now.types.now)) c.loop-function.ids c.push_signature.new.ids c.loop-function-test.true c.function-item.is c.loop-function.invariant c.in_ok-push_signature.ensures

pub returns : goal.returns
returns c =
    let first : List ℕ = flat_map (λ (def : TypeDef). value_positions def.kind) (selected (new_of c.args.incoming.now) c.args.incoming.now.types.now) in
    c.loop-function.invariant
    ∙ ap (λ (fs : List (Bor Function)). first ++ flat_map signature_types (seen fs)) (take_all c.loop-function.function-index c.args.functions.now c.loop-function-test.false)
