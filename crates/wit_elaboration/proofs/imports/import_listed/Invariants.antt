use Rattle.std.proofs.Common.{◌≡◌, []}
use Rattle.std.specs.List.{flat_map}
use Rattle.wit_elaboration.specs.Elaborated.{import_with_needs}
use Rattle.wit_elaboration.specs.steps.Elaborating.{IsImporting}
use Rattle.wit_elaboration.specs.Entries.{fresh_entries}
use Rattle.wit_elaboration.proofs.FirstClasses.{first_classes}
use Rattle.wit_elaboration.proofs.imports.import_listed.Given as goal

abbrev pub invariant-loop-class : goal.invariant-loop-class
invariant-loop-class l = record {
  imports_are : l.imports ≡ fresh_entries [] (flat_map (import_with_needs l.types l.uses) (first_classes l.types l.class l.listed));
  nodes : l.walked.nodes ≡ l.fn.walked.nodes;
  state : IsImporting l.uses l.walked l.imports;
}
