use Rattle.std.proofs.Common.{string_bytes, sym}
use Rattle.std.proofs.lemmas.List.{append-nil}
use Rattle.wit_print.specs.Packages.{other_wit}
use Rattle.wit_print.proofs.Others.{next_other}
use Rattle.wit_print.proofs.printer.Printer.write_others.Goals as goal

pub loop-index-init : goal.loop-index-init
loop-index-init c = sym (append-nil (string_bytes c.args.text.now))

pub loop-index-preserved : goal.loop-index-preserved
loop-index-preserved c =
    next_other (other_wit c.args.self.now.graph.now c.args.id) c.loop-index.index _ _ (string_bytes c.args.text.now) c.loop-index.invariant c.in_ok-write_other.ensures
