use Rattle.std.proofs.Common.{◌≡◌, ◌∙◌, rules, [], Err, ap, subst, sym}
use Rattle.json.proofs.Trees.{view-Object}
use Rattle.json.specs.Json as json
use Rattle.json.specs.Value.{members_view, value_view}
use Rattle.wit_json_reading.specs.Reading.{Reads}
use Rattle.wit_json_reading.specs.Worlds.{entries_from, read_entries, names_differ}
use Rattle.wit_json_reading.proofs.Members.{reads_same}
use Rattle.wit_json_reading.proofs.Steps.{stops}
use Rattle.wit_json_reading.proofs.worlds.TableWorldKeyWorldItemReadJson.read_json.Goals as goal

-- a name that stands twice stops the reading
pub returns-in_err-names_differ : goal.returns-in_err-names_differ
returns-in_err-names_differ c =
    let members = members_view c.in-Object.members.items in
    let answered : c.from_residual.result ≡ Err c.in_err-names_differ.field-0.0 = search rules in
    let whole : value_view c.args.value.now ≡ json.object members = ap value_view c.in-Object.is ∙ view-Object c.in-Object.members in
    let fails : Reads (Err c.in_err-names_differ.field-0.0) (names_differ [] members) = search rules in
    subst (λ r. Reads r (read_entries (value_view c.args.value.now))) (sym answered)
    (reads_same (Err c.in_err-names_differ.field-0.0) (ap read_entries whole)
    (stops c.in_err-names_differ.field-0.0 (names_differ [] members) (λ _. entries_from [] members) fails))
