use Rattle.std.proofs.Common.{refl}
use Rattle.wit_data.specs.facts.EachFacts.{all_of, more}
use Rattle.wit_shape.specs.facts.Found.{first_at, read}
use Rattle.std.specs.Prelude.{Contains}
use Rattle.wit_graph_data.specs.declared.graph.Package.{Package}
use Rattle.wit_graph_faults.specs.declared.place.GraphPlace.TheVariants as place
use Rattle.wit_graph_faults.proofs.tables.listed.Goals as goal

pub returns-then-not-names_package : goal.returns-then-not-names_package
returns-then-not-names_package c =
    first_at place.Package (λ p (home : Package). Contains c.args.names.now (home.name, p)) c.args.packages.now c.loop-index.index _ c.index-packages-index.result _ c.loop-index.invariant
    (read c.args.packages.now _ refl c.loop-index.index c.index-packages-index.result c.loop-index-test.true c.index-packages-index.is)
    c.names_package.ensures c.if-not-names_package.true c.from_index.ensures

pub loop-index-preserved : goal.loop-index-preserved
loop-index-preserved c =
    more c.loop-index.invariant c.index-packages-index.result
    (read c.args.packages.now _ refl c.loop-index.index c.index-packages-index.result c.loop-index-test.true c.index-packages-index.is)
    c.names_package.ensures c.if-not-names_package.false

pub returns : goal.returns
returns c = all_of c.loop-index.invariant c.loop-index-test.false
