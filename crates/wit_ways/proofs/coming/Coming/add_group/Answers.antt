use Rattle.std.proofs.Common.{map, refl}
use Rattle.std.proofs.lemmas.Option.{slice_get_read}
use Rattle.wit_data.specs.declared.unresolved.UnresolvedPackage.{UnresolvedPackage}
use Rattle.wit_ways.specs.Coming.{coming_packages, joined}
use Rattle.wit_ways.specs.declared.coming.Coming.{Coming}
use Rattle.wit_ways.proofs.Groups.{next_package}
use Rattle.wit_ways.proofs.coming.Coming.add_group.Goals as goal

pub loop-package-preserved : goal.loop-package-preserved
loop-package-preserved c =
    let features = c.args.features.now in
    let packages = c.as_slice-package-items.result.now in
    let i = c.loop-package.package-index in
    let there = slice_get_read packages _ i c.package-item.result refl c.loop-package-test.true c.package-item.is in
    let all : Coming = joined c.args.self.now (coming_packages features (map (λ (q : UnresolvedPackage). (c.args.offset, q)) c.args.group.now.nested)) in
    next_package features c.args.offset c.loop-package.self c.add_package.new.self packages i c.package-item.result all there c.in_ok-add_package.ensures c.loop-package.invariant
