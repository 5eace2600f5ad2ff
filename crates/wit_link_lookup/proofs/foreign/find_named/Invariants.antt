use Rattle.std.proofs.Common.{◌≡◌, length}
use Rattle.wit_link_spec.specs.steps.AdditionRefs.{addition_of}
use Rattle.wit_link_lookup.specs.steps.ForeignItems.{AreThere, found_among}
use Rattle.wit_link_lookup.proofs.NamedItems.{named_until}
use Rattle.wit_link_lookup.proofs.foreign.find_named.Given as goal

-- what the items so far tell
abbrev pub invariant-loop-requested : goal.invariant-loop-requested
invariant-loop-requested l = record {
  found : l.found ≡ found_among (addition_of l.addition) (named_until l.addition.unresolved.now.foreign_deps l.index l.home.name.now l.home.items.now (length l.yielded));
  there : AreThere (addition_of l.addition) (named_until l.addition.unresolved.now.foreign_deps l.index l.home.name.now l.home.items.now (length l.yielded));
}
