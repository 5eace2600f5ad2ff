use Rattle.std.proofs.Common.{◌∙◌, arith}
use Rattle.wit_elaboration.specs.Elaborated.{import_with_needs}
use Rattle.wit_elaboration.proofs.FirstClasses.{classes_walked}
use Rattle.wit_elaboration.proofs.imports.import_listed.Goals as goal

pub loop-class-preserved : goal.loop-class-preserved
loop-class-preserved c = record {
  imports_are =
      classes_walked c.args.types.now (import_with_needs c.args.types.now c.args.uses.now) c.loop-class.class c.args.listed.now c.loop-class.imports c.import_class.new.imports (omega arith) c.loop-class.invariant.imports_are c.in_ok-import_class.ensures.imports;
  nodes = c.in_ok-import_class.ensures.nodes ∙ c.loop-class.invariant.nodes;
  state = c.in_ok-import_class.ensures.state;
}
