use Rattle.std.proofs.Common.{◌≡◌, drop, filter_map, fold, Some, None, if◌then◌else◌}
use Rattle.wit_ways.specs.Ways.{is_among}
use Rattle.wit_ways.specs.declared.arrow.Arrow.{Arrow}
use Rattle.wit_ways.specs.Conflicts.{exported_by, with_name}
use Rattle.wit_ways.proofs.conflict.exported_by.Given as goal

-- the names so far, and those that are left, are all
abbrev pub invariant-loop-arrow : goal.invariant-loop-arrow
invariant-loop-arrow l = fold with_name l.names (filter_map (λ (a : Arrow). if is_among l.labels a.from then Some a.to else None) (drop l.arrow-index l.arrows)) ≡ exported_by l.labels l.arrows
