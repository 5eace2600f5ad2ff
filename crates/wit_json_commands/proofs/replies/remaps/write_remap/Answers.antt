use Rattle.std.proofs.Common.{ℕ, List, Option, codes, subst}
use Rattle.wit_json.specs.Values.{json_of_number, list_of, member, null_or}
use Rattle.wit_json.specs.facts.MemberFacts.{object_closed, then_more}
use Rattle.wit_json.specs.steps.Members.{Adds}
use Rattle.wit_json_commands.proofs.replies.remaps.write_remap.Goals as goal

pub returns : goal.returns
returns c =
    let types = subst (λ (ids : List (Option ℕ)). Adds c.begin_object.new.self c.write_list.new.out (member (codes "types") (list_of (null_or json_of_number) ids))) c.types.ensures c.in_ok-write_list.ensures in
    let interfaces =
    subst (λ (ids : List (Option ℕ)). Adds c.write_list.new.out c.write_list-2.new.out (member (codes "interfaces") (list_of (null_or json_of_number) ids))) c.interfaces.ensures c.in_ok-write_list-2.ensures in
    let worlds = subst (λ (ids : List (Option ℕ)). Adds c.write_list-2.new.out c.write_list-3.new.out (member (codes "worlds") (list_of (null_or json_of_number) ids))) c.worlds.ensures c.in_ok-write_list-3.ensures in
    let packages = subst (λ (ids : List ℕ). Adds c.write_list-3.new.out c.write_list-4.new.out (member (codes "packages") (list_of json_of_number ids))) c.packages.ensures c.in_ok-write_list-4.ensures in
    object_closed c.end_object.result c.args.out.now c.end_object.new.self c.in_ok-begin_object.ensures (then_more (then_more (then_more types interfaces) worlds) packages) c.end_object.ensures
