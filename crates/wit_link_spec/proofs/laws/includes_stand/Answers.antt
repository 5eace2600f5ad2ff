use Rattle.wit_link_spec.specs.facts.IncludedOnce.{included_stands}
use Rattle.wit_link_spec.proofs.laws.includes_stand.Goals as goal

pub returns : goal.returns
returns c = λ g i new stands free are. included_stands g stands i new are free
