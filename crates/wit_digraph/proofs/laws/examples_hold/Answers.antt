use Rattle.wit_digraph.proofs.Examples.{paths, cycles, post_orders}
use Rattle.wit_digraph.proofs.laws.examples_hold.Goals as goal

pub returns-clause-paths : goal.returns-clause-paths
returns-clause-paths c = paths

pub returns-clause-cycles : goal.returns-clause-cycles
returns-clause-cycles c = cycles

pub returns-clause-post_orders : goal.returns-clause-post_orders
returns-clause-post_orders c = post_orders
