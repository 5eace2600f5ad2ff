use Rattle.wit_merge_laws.specs.facts.AgreementBack.{agreement_is_symmetric}
use Rattle.wit_merge_laws.proofs.laws.agreement_is_symmetric.Goals as goal

pub returns : goal.returns
returns c = agreement_is_symmetric
