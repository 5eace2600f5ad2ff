use Rattle.std.proofs.Common.{◌≡◌, ◌++◌}
use Rattle.std.specs.List.{flat_map}
use Rattle.std.specs.Map.{keys_of}
use Rattle.wit_elaboration.specs.Elaborated.{import_with_needs}
use Rattle.wit_elaboration.specs.steps.Elaborating.{IsImporting}
use Rattle.wit_elaboration.specs.Entries.{fresh_entries}
use Rattle.wit_elaboration.proofs.imports.import_class.Given as goal
use Rattle.wit_elaboration.specs.steps.Parts.{of_class}

-- what is imported, and what those will import that are left
abbrev pub invariant-loop-key : goal.invariant-loop-key
invariant-loop-key l = record {
  imports_are : l.imports ++ fresh_entries (keys_of l.imports) (flat_map (import_with_needs l.types l.uses) (of_class l.types l.class l.key-iterator))
      ≡ l.fn.imports
      ++ fresh_entries (keys_of l.fn.imports)
      (flat_map (import_with_needs l.types l.uses) (of_class l.types l.class l.listed));
  nodes : l.walked.nodes ≡ l.fn.walked.nodes;
  state : IsImporting l.uses l.walked l.imports;
}
