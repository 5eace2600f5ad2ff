use Rattle.std.proofs.Common.{refl, arith}
use Rattle.std.proofs.lemmas.Option.{slice_get_read}
use Rattle.wit_data.specs.facts.EachFacts.{more, all, fails}
use Rattle.wit_validity.proofs.tables.have_worlds.Goals as goal

pub returns-then-not-has_worlds : goal.returns-then-not-has_worlds
returns-then-not-has_worlds c = fails c.loop-index.invariant _ (slice_get_read c.args.packages.now _ c.loop-index.index c.index-packages-index.result refl c.loop-index-test.true c.index-packages-index.is) c.has_worlds.ensures c.if-not-has_worlds.true

pub loop-index-preserved : goal.loop-index-preserved
loop-index-preserved c = more c.loop-index.invariant _ (slice_get_read c.args.packages.now _ c.loop-index.index c.index-packages-index.result refl c.loop-index-test.true c.index-packages-index.is) c.has_worlds.ensures c.if-not-has_worlds.false

pub returns : goal.returns
returns c = all c.loop-index.invariant (omega arith)
