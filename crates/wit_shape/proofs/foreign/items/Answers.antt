use Rattle.std.proofs.Common.{List, arith}
use Rattle.wit_data.specs.Foreign.{ForeignItem, IsForeign}
use Rattle.wit_data.specs.facts.EachFacts.{all_of}
use Rattle.wit_names.specs.declared.package_name.PackageName.{PackageName}
use Rattle.wit_shape.specs.facts.Found.{within_more}
use Rattle.wit_shape.proofs.foreign.items.Goals as goal

pub loop-package-preserved : goal.loop-package-preserved
loop-package-preserved c =
    let p = c.args.unresolved.now in
    within_more (λ _ (e : PackageName × List ForeignItem). IsForeign p.interfaces p.worlds) (λ (e : PackageName × List ForeignItem). e.1) p.foreign_deps c.loop-package.package _ _ c.loop-package.invariant
    c.entry_at.ensures (rw (c.as_slice-interfaces.ensures, c.as_slice-worlds.ensures) at c.item_that_is_not_bare.ensures) c.in_default.is

pub returns : goal.returns
returns c = all_of c.loop-package.invariant (omega (arith, c.len-package-end.ensures.len))
