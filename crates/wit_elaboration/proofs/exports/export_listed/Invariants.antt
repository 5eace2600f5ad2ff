use Rattle.std.proofs.Common.{◌≡◌, ◌++◌, filter, not}
use Rattle.std.specs.List.{flat_map}
use Rattle.std.specs.Map.{keys_of}
use Rattle.wit_elaboration.specs.steps.Elaborating.{IsExporting, is_listed}
use Rattle.wit_elaboration.specs.Entries.{fresh_entries}
use Rattle.wit_elaboration.proofs.exports.export_listed.Given as goal
use Rattle.wit_elaboration.specs.steps.Parts.{export_with_needs, is_interface}
use Rattle.wit_elaboration.specs.Elaborated.{export_needs}

-- what is there, and what those will add that are left
abbrev pub invariant-loop-key : goal.invariant-loop-key
invariant-loop-key l = record {
  exports_are : l.lists.exports
      ++ fresh_entries (keys_of l.lists.exports) (flat_map
      (export_with_needs l.uses (is_listed l.exported)) (filter is_interface l.key-iterator))
      ≡ l.fn.lists.exports
      ++ fresh_entries (keys_of l.fn.lists.exports) (flat_map
      (export_with_needs l.uses (is_listed l.exported)) (filter is_interface l.listed));
  imports_are : l.lists.imports ++ fresh_entries (keys_of l.lists.imports) (flat_map (export_needs l.uses (λ i. not (is_listed l.exported i))) l.key-iterator)
      ≡ l.fn.lists.imports
      ++ fresh_entries (keys_of l.fn.lists.imports)
      (flat_map (export_needs l.uses (λ i. not (is_listed l.exported i))) l.listed);
  state : IsExporting l.uses (is_listed l.exported) l.walked l.lists.imports l.lists.exports;
  nodes : l.walked.nodes ≡ l.fn.walked.nodes;
}
