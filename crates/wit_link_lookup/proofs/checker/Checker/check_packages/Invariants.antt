use Rattle.std.proofs.Common.{List, length}
use Rattle.wit_data.specs.facts.EachFacts.{EachBelow}
use Rattle.wit_data.specs.Each.{Each}
use Rattle.wit_data.specs.Foreign.{ForeignItem}
use Rattle.wit_names.specs.declared.package_name.PackageName.{PackageName}
use Rattle.wit_link_lookup.specs.steps.FeatureSteps.{MeetsForeign}
use Rattle.wit_link_lookup.proofs.checker.Checker.check_packages.Given as goal

-- those of the first packages are met
abbrev pub invariant-loop-items : goal.invariant-loop-items
invariant-loop-items l = EachBelow (length l.yielded) (λ _ (e : PackageName × List ForeignItem). Each (MeetsForeign l.self) e.1) l.self.addition.unresolved.now.foreign_deps
