use Rattle.std.proofs.Common.{◌∙◌, sym}
use Rattle.wit_labels.proofs.PlacingSteps.{later_getter-none, later_getter-some}
use Rattle.wit_labels.proofs.placing.later_getter.Goals as goal

pub returns-in-Some : goal.returns-in-Some
returns-in-Some c = λ e there.
    c.after.ensures
    ∙ later_getter-some c.args.entries.now c.args.place c.entry_at.result.0.now c.entry_at.result.1.now c.in-Some.label c.get_index_of.result c.entry_at.ensures (sym c.in_ok-label.ensures ∙ c.in-Some.is)
    c.get_index_of.ensures.index e there

pub returns-in-None : goal.returns-in-None
returns-in-None c = λ e there.
    later_getter-none c.args.entries.now c.args.place c.entry_at.result.0.now c.entry_at.result.1.now c.entry_at.ensures (sym c.in_ok-label.ensures ∙ c.in-None.is) e there
