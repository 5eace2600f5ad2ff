use Rattle.wit_digraph.proofs.PostOrderLaws.{firsts_are_once}
use Rattle.wit_digraph.proofs.laws.firsts_are_once.Goals as goal

pub returns : goal.returns
returns c = firsts_are_once
