use Rattle.std.proofs.Common.{◌∙◌, ℕ, List, length, ap, subst, sym}
use Rattle.wit_json_graphs.specs.Details.{table_with}
use Rattle.json.proofs.Trees.{view-Object}
use Rattle.json.specs.Value.{value_view}
use Rattle.wit_json_graphs.specs.steps.Completes.{Completes}
use Rattle.wit_json_graphs.specs.steps.Parts.{with_member, with_parts}
use Rattle.wit_json_graphs.proofs.Rows.{table_completed}
use Rattle.wit_json_graphs.proofs.details.NamesReadDetails.read_details.Goals as goal

abbrev same_name : List ℕ → List ℕ
same_name name = name

pub returns-in-Object : goal.returns-in-Object
returns-in-Object g c =
    let f = g.T.ReadDetails.detailed in
    let es = c.args.self.now in
    subst (λ reading. Completes c.read_parts.result reading c.read_parts.new.row)
    (ap (λ ms. with_parts (with_member same_name f) (length es) 0 es ms) c.deref.ensures.value ∙ table_completed same_name f es c.in-Object.members.items ∙ ap (table_with (λ (name : List ℕ). name) f es) (sym (view-Object c.in-Object.members))
    ∙ ap (λ v. table_with (λ (name : List ℕ). name) f es (value_view v)) (sym c.in-Object.is))
    c.read_parts.ensures
