use Rattle.std.proofs.Common.{ℕ, List}
use Rattle.wit_data.specs.Ownership.{UsesOwn}
use Rattle.wit_data.specs.declared.function.Function.{Function}
use Rattle.wit_data.specs.declared.interface.Interface.{Interface}
use Rattle.wit_data.specs.declared.types.TypeOwner.TheVariants as owner
use Rattle.wit_shape.specs.declared.place.ShapePlace.TheVariants as place
use Rattle.wit_shape.specs.facts.FirstFacts.{within_none}
use Rattle.wit_shape.proofs.own.all_functions_use_own.Goals as goal

pub returns : goal.returns
returns c =
    within_none place.Function (λ f (interface : Interface) (e : List ℕ × Function). UsesOwn c.args.types.now (owner.Interface f) e.1)
    (λ (interface : Interface). interface.functions) c.args.interfaces.now
    c.in_ok-functions.field-0 c.is_none.result c.is_none.ensures c.in_ok-functions.ensures
