use Rattle.std.proofs.Common.{◌≡◌}
use Rattle.wit_link_spec.specs.steps.AdditionRefs.{addition_of}
use Rattle.wit_link_lookup.specs.steps.ForeignItems.{ArePackagesThere, AreThere, found_among, named_before}
use Rattle.wit_link_lookup.proofs.foreign.find_foreign.Given as goal

-- what the packages so far tell
abbrev pub invariant-loop-index : goal.invariant-loop-index
invariant-loop-index l = record {
  found : l.found ≡ found_among (addition_of l.addition) (named_before l.addition.unresolved.now.foreign_deps l.index);
  there : AreThere (addition_of l.addition) (named_before l.addition.unresolved.now.foreign_deps l.index);
  packages : ArePackagesThere (addition_of l.addition) l.index;
}
