use Rattle.std.proofs.Common.{ℕ}
use Rattle.wit_data.specs.facts.EachFacts.{EachBelow}
use Rattle.wit_link.specs.steps.Checked.{RequiredFits}
use Rattle.wit_link_spec.specs.Gates.{OptionalSpan}
use Rattle.wit_link.proofs.fits.required_fit.Given as goal

-- the first ones fit
abbrev pub invariant-loop-item : goal.invariant-loop-item
invariant-loop-item l = EachBelow l.item-index (λ _ (r : ℕ × OptionalSpan). RequiredFits l.offset r) l.required
