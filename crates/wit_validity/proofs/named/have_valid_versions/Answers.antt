use Rattle.std.proofs.Common.{refl, arith}
use Rattle.std.proofs.lemmas.Option.{slice_get_read}
use Rattle.wit_data.specs.facts.EachFacts.{more, all, fails}
use Rattle.wit_validity.proofs.named.have_valid_versions.Goals as goal

pub returns-then-not-branch : goal.returns-then-not-branch
returns-then-not-branch c = fails c.loop-home.invariant _ (slice_get_read c.args.packages.now _ c.loop-home.home-index c.home-item.result refl c.loop-home-test.true c.home-item.is) c.in_ok-has_valid_version.ensures c.if-not-branch.true

pub loop-home-preserved : goal.loop-home-preserved
loop-home-preserved c = more c.loop-home.invariant _ (slice_get_read c.args.packages.now _ c.loop-home.home-index c.home-item.result refl c.loop-home-test.true c.home-item.is) c.in_ok-has_valid_version.ensures c.if-not-branch.false

pub returns : goal.returns
returns c = all c.loop-home.invariant (omega arith)
