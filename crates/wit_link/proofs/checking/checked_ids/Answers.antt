use Rattle.std.proofs.Common.{rules}
use Rattle.wit_remap.specs.facts.GrownFacts.{Begins-same}
use Rattle.wit_link.proofs.checking.checked_ids.Goals as goal

pub returns-clause-resources : goal.returns-clause-resources
returns-clause-resources c = search rules

pub returns-in_err-new_ids-clause-met_before : goal.returns-in_err-new_ids-clause-met_before
returns-in_err-new_ids-clause-met_before c = Begins-same c.args.met.now
