use Rattle.std.proofs.Common.{◌≡◌, ◌∙◌, ◌<◌, ℕ, Some, ap, sym, subst}
use Rattle.std.proofs.lemmas.Result.{IfOk-weaker}
use Rattle.wit_link_resources.specs.declared.incoming.Incoming.{Incoming}
use Rattle.wit_link_resources.specs.facts.IncomingLeads.{remapped_there}
use Rattle.wit_link_resources.proofs.leading.leads_at_end.Goals as goal

pub at-requires : goal.at-requires
at-requires c =
    let s : Incoming = c.args.incoming.now in
    subst (λ (n : ℕ). c.args.index < n) (sym c.requires.long) (remapped_there s.graph_types.now s.types.now s.ids.now c.requires.can c.args.index c.requires.remapped)

pub leads_unknown-requires-clause-end : goal.leads_unknown-requires-clause-end
leads_unknown-requires-clause-end c = c.requires.end (c.at.ensures ∙ ap Some c.in-None.is)

pub returns-in-Some-clause-leads : goal.returns-in-Some-clause-leads
returns-in-Some-clause-leads c = λ functions r is told. told c.args.index c.in-Some.leads (c.at.ensures ∙ ap Some c.in-Some.is)

pub returns-in-None-clause-leads : goal.returns-in-None-clause-leads
returns-in-None-clause-leads c = IfOk-weaker c.leads_unknown.result _ _ (λ leads right functions r is told. right functions r is) c.leads_unknown.ensures.leads
