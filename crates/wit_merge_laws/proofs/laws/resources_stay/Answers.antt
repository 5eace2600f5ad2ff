use Rattle.wit_merge_laws.specs.facts.LeadsStay.{leads_stay}
use Rattle.wit_merge_laws.proofs.laws.resources_stay.Goals as goal

pub returns : goal.returns
returns c = leads_stay
