use Rattle.wit_merge_laws.specs.facts.OrderFree.{either_order_elaborates}
use Rattle.wit_merge_laws.proofs.laws.either_order_elaborates.Goals as goal

pub returns : goal.returns
returns c = either_order_elaborates
