use Rattle.std.proofs.Common.{length, take}
use Rattle.wit_link_lookup.specs.steps.FeatureSteps.{IsMarked}
use Rattle.wit_link_lookup.proofs.active_parts.mark_packages.Given as goal
use Rattle.wit_link_spec.specs.steps.Parts.{foreign_items}

-- those of the first packages are added
abbrev pub invariant-loop-items : goal.invariant-loop-items
invariant-loop-items l = IsMarked l.features (foreign_items (take (length l.yielded) l.deps)) l.fn.activity l.activity
