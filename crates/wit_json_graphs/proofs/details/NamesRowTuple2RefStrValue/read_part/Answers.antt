use Rattle.std.proofs.Common.{rules, ◌≡◌, ℕ, List, bytes_eq, true}
use Rattle.wit_json_graphs.proofs.Rows.{as_many, entry_put, lent_at}
use Rattle.wit_json_graphs.proofs.details.NamesRowTuple2RefStrValue.read_part.Goals as goal

abbrev same_name : List ℕ → List ℕ
same_name name = name

pub returns-clause-many : goal.returns-clause-many
returns-clause-many g c = as_many c.args.self.now c.args.index c.member_details.new.thing

pub returns-clause-part : goal.returns-clause-part
returns-clause-part g c =
    let same : bytes_eq c.args.member.now.0.now c.entry_at.result.0.now ≡ true = search rules in
    let held = lent_at c.args.self.now c.args.index c.entry_at.result.0.now c.entry_at.result.1.now c.value_at_mut.result.now c.value_at_mut.ensures.value c.entry_at.ensures in
    entry_put same_name g.T.ReadDetails.detailed c.args.self.now c.args.index c.args.member.now c.entry_at.result.0.now c.value_at_mut.result.now c.member_details.new.thing c.member_details.result held same
    c.member_details.ensures
