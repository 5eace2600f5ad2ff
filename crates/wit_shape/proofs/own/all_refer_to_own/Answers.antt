use Rattle.wit_data.specs.Ownership.{RefersToOwn}
use Rattle.wit_shape.specs.declared.place.ShapePlace.TheVariants as place
use Rattle.wit_shape.specs.facts.FirstFacts.{first_none}
use Rattle.wit_shape.proofs.own.all_refer_to_own.Goals as goal

pub returns : goal.returns
returns c =
    first_none place.Type_ (λ _. RefersToOwn c.args.types.now) c.args.types.now
    c.in_ok-types.field-0 c.is_none.result c.is_none.ensures c.in_ok-types.ensures
