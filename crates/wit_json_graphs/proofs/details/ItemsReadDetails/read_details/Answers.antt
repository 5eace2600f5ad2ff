use Rattle.std.proofs.Common.{◌∙◌, length, ap, subst, sym}
use Rattle.json.proofs.Trees.{view-Array}
use Rattle.json.specs.Value.{value_view}
use Rattle.wit_json_graphs.specs.Details.{list_with}
use Rattle.wit_json_graphs.specs.steps.Completes.{Completes}
use Rattle.wit_json_graphs.specs.steps.Parts.{with_item, with_parts}
use Rattle.wit_json_graphs.proofs.Rows.{list_completed}
use Rattle.wit_json_graphs.proofs.details.ItemsReadDetails.read_details.Goals as goal

pub returns-in-Array : goal.returns-in-Array
returns-in-Array g c =
    let f = g.T.ReadDetails.detailed in
    let xs = c.args.self.now in
    subst (λ reading. Completes c.read_parts.result reading c.read_parts.new.row)
    (ap (λ vs. with_parts (with_item f) (length xs) 0 xs vs) c.deref.ensures.value ∙ list_completed f xs c.in-Array.values.items ∙ ap (list_with f xs) (sym (view-Array c.in-Array.values))
    ∙ ap (λ v. list_with f xs (value_view v)) (sym c.in-Array.is))
    c.read_parts.ensures
