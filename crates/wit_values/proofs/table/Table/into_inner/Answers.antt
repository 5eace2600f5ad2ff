use Rattle.std.specs.List.{IsDistinct}
use Rattle.wit_values.proofs.table.Table.into_inner.Goals as goal

pub invariant_of-table : goal.invariant_of-table
unfolding IsDistinct
invariant_of-table g c = rw (c.replace.ensures.after, c.new.ensures.items) tt
