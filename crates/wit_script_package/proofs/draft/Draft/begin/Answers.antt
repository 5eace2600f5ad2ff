use Rattle.std.proofs.Common.{Some, ap, fold, option_map, sym, ◌∙◌}
use Rattle.wit_script_package.specs.Draft.{new_draft_at}
use Rattle.wit_script_package.specs.Mention.{known_mentions}
use Rattle.wit_script_package.specs.steps.Mentioning.{with_mention}
use Rattle.wit_script_package.specs.declared.draft.Draft.{Draft}
use Rattle.wit_script_package.proofs.Mentions.{all-mentions}
use Rattle.wit_script_package.proofs.draft.Draft.begin.Goals as goal

pub returns : goal.returns
returns c =
    let a = c.args in
    let span = c.in_ok-span.span in
    ap (option_map (new_draft_at a.name a.line.now (known_mentions a.mentions))) c.in_ok-span.ensures
    ∙ ap Some (sym (all-mentions a.mentions a.name a.line.now span) ∙ ap (λ (d : Draft). fold with_mention d a.mentions) (sym c.in_ok-draft.ensures) ∙ sym c.in_ok-add_mentions.ensures)
