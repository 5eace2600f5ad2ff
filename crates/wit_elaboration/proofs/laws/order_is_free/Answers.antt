use Rattle.wit_elaboration.proofs.WorldLaws.{order_is_free}
use Rattle.wit_elaboration.proofs.laws.order_is_free.Goals as goal

pub returns : goal.returns
returns c = order_is_free
