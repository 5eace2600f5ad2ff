use Rattle.std.proofs.Common.{◌∙◌, length, ap, subst, sym}
use Rattle.json.proofs.Trees.{view-Object}
use Rattle.json.specs.Value.{value_view}
use Rattle.wit_json.specs.Worlds.{entry_name}
use Rattle.wit_json_graphs.specs.Details.{item_with, table_with}
use Rattle.wit_json_graphs.specs.steps.Completes.{Completes}
use Rattle.wit_json_graphs.specs.steps.Parts.{with_member, with_parts}
use Rattle.wit_json_graphs.proofs.Rows.{table_completed}
use Rattle.wit_json_graphs.proofs.details.TableWorldKeyWorldItemReadDetails.read_details.Goals as goal

pub returns-in-Object : goal.returns-in-Object
returns-in-Object c =
    let f = item_with in
    let es = c.args.self.now in
    subst (λ reading. Completes c.read_parts.result reading c.read_parts.new.row)
    (ap (λ ms. with_parts (with_member entry_name f) (length es) 0 es ms) c.deref.ensures.value ∙ table_completed entry_name f es c.in-Object.members.items ∙ ap (table_with entry_name item_with es) (sym (view-Object c.in-Object.members))
    ∙ ap (λ v. table_with entry_name item_with es (value_view v)) (sym c.in-Object.is))
    c.read_parts.ensures
