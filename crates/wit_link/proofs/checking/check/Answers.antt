use Rattle.wit_remap.specs.facts.GrownFacts.{Begins-same, Begins-then}
use Rattle.wit_link.proofs.checking.check.Goals as goal

pub returns-in_err-activity-clause-met_before : goal.returns-in_err-activity-clause-met_before
returns-in_err-activity-clause-met_before c = Begins-same c.args.met.now

pub returns-in_err-values-clause-met_before : goal.returns-in_err-values-clause-met_before
returns-in_err-values-clause-met_before c = Begins-then c.args.met.now c.checked_ids.new.met c.values.new.met c.checked_ids.ensures.met_before c.values.ensures.begins

pub returns-clause-met_before : goal.returns-clause-met_before
returns-clause-met_before c = Begins-then c.args.met.now c.checked_ids.new.met c.values.new.met c.checked_ids.ensures.met_before c.values.ensures.begins
