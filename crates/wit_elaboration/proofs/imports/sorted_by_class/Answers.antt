use Rattle.std.proofs.Common.{sym}
use Rattle.wit_elaboration.proofs.imports.sorted_by_class.Goals as goal

pub returns-then-are_sorted : goal.returns-then-are_sorted
returns-then-are_sorted c = sym (c.are_sorted.ensures c.if-are_sorted.true)
