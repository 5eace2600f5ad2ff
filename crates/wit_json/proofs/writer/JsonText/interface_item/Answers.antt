use Rattle.std.proofs.Common.{◌++◌, codes}
use Rattle.wit_json.specs.Gates.{stability_member}
use Rattle.wit_json.specs.Values.{json_of_number, member, object}
use Rattle.wit_json.specs.facts.MemberFacts.{tag_closed}
use Rattle.wit_json.proofs.writer.JsonText.interface_item.Goals as goal

pub returns : goal.returns
returns c =
    tag_closed c.end_object.result c.args.self.now c.end_object.new.self (codes "interface") (object (member (codes "id") (json_of_number c.args.id) ++ stability_member c.args.stability.now))
    c.in_ok-begin_tagged.ensures c.in_ok-interface_entry.ensures c.end_object.ensures
