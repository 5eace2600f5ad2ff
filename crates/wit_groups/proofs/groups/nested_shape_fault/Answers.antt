use Rattle.std.proofs.Common.{refl}
use Rattle.std.proofs.lemmas.Option.{slice_get_read}
use Rattle.wit_data.specs.facts.EachFacts.{all_of}
use Rattle.wit_groups.proofs.Shaped.{one_package}
use Rattle.wit_groups.proofs.groups.nested_shape_fault.Goals as goal

pub loop-package-preserved : goal.loop-package-preserved
loop-package-preserved c =
    let packages = c.args.nested.now in
    one_package packages c.loop-package.package-index c.package-item.result c.loop-package.invariant
    (slice_get_read packages _ c.loop-package.package-index c.package-item.result refl c.loop-package-test.true c.package-item.is) c.in_ok-fault.ensures.none c.in_default.is

pub returns : goal.returns
returns c = λ _. all_of c.loop-package.invariant c.loop-package-test.false
