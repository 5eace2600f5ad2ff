use Rattle.std.proofs.Common.{refl}
use Rattle.wit_data.specs.facts.EachFacts.{all_of, more}
use Rattle.wit_shape.specs.facts.Found.{first_at, read}
use Rattle.wit_elaboration.specs.Valid.{IsWorldInTable}
use Rattle.wit_graph_faults.specs.declared.place.GraphPlace.TheVariants as place
use Rattle.wit_graph_faults.proofs.tables.worlds_listed.Goals as goal

pub returns-then-not-is_world_in_table : goal.returns-then-not-is_world_in_table
returns-then-not-is_world_in_table c =
    first_at place.World (IsWorldInTable c.args.packages.now) c.args.worlds.now c.loop-index.index _ c.index-worlds-index.result _ c.loop-index.invariant
    (read c.args.worlds.now _ refl c.loop-index.index c.index-worlds-index.result c.loop-index-test.true c.index-worlds-index.is)
    c.is_world_in_table.ensures c.if-not-is_world_in_table.true c.from_index.ensures

pub loop-index-preserved : goal.loop-index-preserved
loop-index-preserved c =
    more c.loop-index.invariant c.index-worlds-index.result
    (read c.args.worlds.now _ refl c.loop-index.index c.index-worlds-index.result c.loop-index-test.true c.index-worlds-index.is)
    c.is_world_in_table.ensures c.if-not-is_world_in_table.false

pub returns : goal.returns
returns c = all_of c.loop-index.invariant c.loop-index-test.false
