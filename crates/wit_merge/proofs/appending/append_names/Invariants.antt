use Rattle.std.proofs.Common.{◌≡◌, ◌++◌}
use Rattle.std.specs.Vec.Iter.{into_iter_items}
use Rattle.wit_remap.specs.Grown.{Begins}
use Rattle.wit_merge.proofs.appending.append_names.Given as goal

-- those so far, and those to come
abbrev pub invariant-loop-name : goal.invariant-loop-name
invariant-loop-name l = record {
  all : l.names ++ into_iter_items l.name-iterator ≡ l.fn.names ++ l.fn.coming;
  begins : Begins l.fn.names l.names;
}
