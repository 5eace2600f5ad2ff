use Rattle.std.proofs.Common.{codes}
use Rattle.wit_json.specs.Unresolved.{whole_interface_entry}
use Rattle.wit_json.specs.facts.MemberFacts.{tag_closed}
use Rattle.wit_json.proofs.unresolved.WorldItemWriteWhole.write_whole.Goals as goal

pub returns-in_ok-whole_interface_entry-in-Interface : goal.returns-in_ok-whole_interface_entry-in-Interface
returns-in_ok-whole_interface_entry-in-Interface c =
    rw c.in-Interface.is (tag_closed c.end_object.result c.args.out.now c.end_object.new.self (codes "interface")
    (whole_interface_entry c.in-Interface.id c.in-Interface.stability c.in-Interface.docs c.in-Interface.span c.in-Interface.external_id)
    c.in_ok-begin_tagged-in-Interface.ensures c.in_ok-whole_interface_entry-in-Interface.ensures c.end_object.ensures)
