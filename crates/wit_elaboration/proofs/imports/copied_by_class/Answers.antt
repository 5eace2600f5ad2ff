use Rattle.std.proofs.Common.{List, [], ap, ◌∙◌, arith}
use Rattle.wit_elaboration.specs.Entries.{Entry, fresh_entries}
use Rattle.wit_elaboration.proofs.FirstClasses.{classes_copied, first_classes-all, sorted_all}
use Rattle.wit_elaboration.proofs.imports.copied_by_class.Goals as goal

pub loop-class-preserved : goal.loop-class-preserved
loop-class-preserved c =
    classes_copied c.args.types.now c.loop-class.class c.args.entries.now c.loop-class.sorted c.add_class.new.sorted (omega arith) c.loop-class.invariant c.in_ok-add_class.ensures

pub returns : goal.returns
returns c =
    c.loop-class.invariant
    ∙ ap (λ (es : List Entry). fresh_entries [] es) (first_classes-all c.args.types.now c.loop-class.class c.args.entries.now (omega arith))
    ∙ sorted_all c.args.types.now c.args.entries.now c.keys_differ.ensures.test
