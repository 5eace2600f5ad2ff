use Rattle.std.proofs.Common.{List}
use Rattle.wit_data.specs.facts.EachFacts.{EachBelow}
use Rattle.wit_data.specs.Each.{Each}
use Rattle.wit_data.specs.Foreign.{IsForeign}
use Rattle.wit_data.specs.Foreign.{ForeignItem}
use Rattle.wit_names.specs.declared.package_name.PackageName.{PackageName}
use Rattle.wit_shape.proofs.foreign.items.Given as goal

-- it holds of the first ones
abbrev pub invariant-loop-package : goal.invariant-loop-package
invariant-loop-package l = EachBelow l.package (λ _ (e : PackageName × List ForeignItem). Each (IsForeign l.unresolved.interfaces l.unresolved.worlds) e.1) l.unresolved.foreign_deps
