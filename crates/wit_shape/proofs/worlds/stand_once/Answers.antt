use Rattle.wit_shape.specs.facts.IdFacts.{again_none}
use Rattle.wit_shape.proofs.worlds.stand_once.Goals as goal

pub returns : goal.returns
returns c =
    again_none c.args.interfaces.now c.args.worlds.now c.in_ok-once.field-0 c.is_none.result c.is_none.ensures c.in_ok-once.ensures
