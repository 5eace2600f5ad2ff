use Rattle.wit_merge_laws.specs.facts.OrderFree.{merging_is_order_free}
use Rattle.wit_merge_laws.proofs.laws.merging_is_order_free.Goals as goal

pub returns : goal.returns
returns c = merging_is_order_free c.laws_of_elaboration.ensures
