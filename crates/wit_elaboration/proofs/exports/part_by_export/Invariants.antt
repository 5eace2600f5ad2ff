use Rattle.std.proofs.Common.{◌≡◌, not, filter, take}
use Rattle.wit_elaboration.specs.steps.Elaborating.{is_listed}
use Rattle.wit_elaboration.proofs.exports.part_by_export.Given as goal

abbrev pub invariant-loop-interface : goal.invariant-loop-interface
invariant-loop-interface l = record {
  exported_are : l.parted.exported
      ≡ filter (is_listed l.exported) (take l.interface-index l.interfaces);
  others_are : l.parted.others
      ≡ filter (λ i. not (is_listed l.exported i)) (take l.interface-index l.interfaces);
}
