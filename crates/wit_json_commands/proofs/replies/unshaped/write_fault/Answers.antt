use Rattle.std.proofs.Common.{◌++◌, ℕ, List, OnOk, codes, subst}
use Rattle.wit_json.specs.Values.{json_of_text, member}
use Rattle.wit_json.specs.facts.MemberFacts.{then_more}
use Rattle.wit_json.specs.steps.Members.{Adds}
use Rattle.wit_shape.specs.FaultText.{clause_name, place_text}
use Rattle.wit_json_commands.proofs.PackagePaths.{added_last}
use Rattle.wit_json_commands.proofs.replies.unshaped.write_fault.Goals as goal

pub returns : goal.returns
returns c =
    let place = member (codes "place") (json_of_text (place_text c.args.fault.place)) in
    subst (λ (text : List ℕ). OnOk c.write_text-2.result (Adds c.args.out.now c.write_text-2.new.out (member (codes "clause") (json_of_text (clause_name c.args.fault.clause)) ++ (place ++ member (codes "text") (json_of_text text))))) c.text.ensures
    (subst (λ (name : List ℕ). OnOk c.write_text-2.result (Adds c.args.out.now c.write_text-2.new.out (member (codes "clause") (json_of_text name) ++ (place ++ member (codes "text") (json_of_text c.text.result.now))))) c.name.ensures
    (added_last c.write_text-2.result c.write_text-2.new.out (member (codes "text") (json_of_text c.text.result.now)) (then_more c.in_ok-write_text.ensures c.in_ok-write_place.ensures) c.write_text-2.ensures))
