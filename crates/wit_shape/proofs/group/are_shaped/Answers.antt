use Rattle.std.proofs.Common.{refl, arith}
use Rattle.std.proofs.lemmas.Option.{slice_get_read}
use Rattle.wit_data.specs.facts.EachFacts.{more, all, fails}
use Rattle.wit_shape.proofs.group.are_shaped.Goals as goal

pub returns-then-not-branch : goal.returns-then-not-branch
returns-then-not-branch c = fails c.loop-package.invariant _ (slice_get_read c.args.packages.now _ c.loop-package.package-index c.package-item.result refl c.loop-package-test.true c.package-item.is) c.in_ok-is_shaped.ensures c.if-not-branch.true

pub loop-package-preserved : goal.loop-package-preserved
loop-package-preserved c = more c.loop-package.invariant _ (slice_get_read c.args.packages.now _ c.loop-package.package-index c.package-item.result refl c.loop-package-test.true c.package-item.is) c.in_ok-is_shaped.ensures c.if-not-branch.false

pub returns : goal.returns
returns c = all c.loop-package.invariant (omega arith)
