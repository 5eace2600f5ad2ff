use Rattle.std.proofs.Common.{◌∙◌}
use Rattle.wit_link_resources.proofs.leading.leads.Goals as goal

pub returns-clause-leads : goal.returns-clause-leads
returns-clause-leads c = λ functions r is told. c.end_of_way-end.ensures.same functions r is ∙ c.in_ok-leads.ensures.leads functions r is told

pub returns-clause-told : goal.returns-clause-told
returns-clause-told c = λ functions r is told. c.note_way.ensures.told functions r is told (c.end_of_way-end.ensures.same functions r is ∙ c.in_ok-leads.ensures.leads functions r is told)
