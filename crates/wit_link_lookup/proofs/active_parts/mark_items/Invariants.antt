use Rattle.std.proofs.Common.{length, take}
use Rattle.wit_link_lookup.specs.steps.FeatureSteps.{IsMarked}
use Rattle.wit_link_lookup.proofs.active_parts.mark_items.Given as goal

-- the first ones are added
abbrev pub invariant-loop-item : goal.invariant-loop-item
invariant-loop-item l = IsMarked l.features (take (length l.yielded) l.items) l.fn.activity l.activity
