use Rattle.std.proofs.Common.{◌≡◌, ◌++◌, drop, map}
use Rattle.wit_data.specs.Kind.{referred}
use Rattle.wit_ways.specs.TypeArrows.{reference_to}
use Rattle.wit_ways.proofs.type_arrow.add_references.Given as goal

-- what is noted, and what those are that are left
abbrev pub invariant-loop-other : goal.invariant-loop-other
invariant-loop-other l =
    l.arrows ++ map (reference_to l.graph l.id l.def) (drop l.other-index l.other-items)
    ≡ l.initial.arrows ++ map (reference_to l.graph l.id l.def) (referred l.def.kind)
