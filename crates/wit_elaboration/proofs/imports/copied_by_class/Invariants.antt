use Rattle.std.proofs.Common.{◌≡◌, []}
use Rattle.wit_elaboration.specs.Entries.{fresh_entries}
use Rattle.wit_elaboration.proofs.FirstClasses.{first_classes}
use Rattle.wit_elaboration.proofs.imports.copied_by_class.Given as goal

-- the classes so far
abbrev pub invariant-loop-class : goal.invariant-loop-class
invariant-loop-class l = l.sorted ≡ fresh_entries [] (first_classes l.types l.class l.entries)
