use Rattle.std.proofs.Common.{refl, arith}
use Rattle.std.proofs.lemmas.Option.{slice_get_read}
use Rattle.wit_data.specs.facts.EachFacts.{more, all, fails}
use Rattle.wit_validity.proofs.tables.have_interfaces.Goals as goal

pub returns-then-not-has_interfaces : goal.returns-then-not-has_interfaces
returns-then-not-has_interfaces c = fails c.loop-index.invariant _ (slice_get_read c.args.packages.now _ c.loop-index.index c.index-packages-index.result refl c.loop-index-test.true c.index-packages-index.is) c.has_interfaces.ensures c.if-not-has_interfaces.true

pub loop-index-preserved : goal.loop-index-preserved
loop-index-preserved c = more c.loop-index.invariant _ (slice_get_read c.args.packages.now _ c.loop-index.index c.index-packages-index.result refl c.loop-index-test.true c.index-packages-index.is) c.has_interfaces.ensures c.if-not-has_interfaces.false

pub returns : goal.returns
returns c = all c.loop-index.invariant (omega arith)
