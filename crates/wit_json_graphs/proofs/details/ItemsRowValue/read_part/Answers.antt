use Rattle.wit_json_reading.specs.declared.fault.Step.TheVariants.{Item}
use Rattle.wit_json_graphs.proofs.Completed.{completed}
use Rattle.wit_json_graphs.proofs.Rows.{item_put}
use Rattle.wit_json_graphs.proofs.details.ItemsRowValue.read_part.Goals as goal

pub returns-clause-part : goal.returns-clause-part
returns-clause-part g c =
    item_put g.T.ReadDetails.detailed c.args.self.now c.args.index c.args.details.now c.at_mut.result.now c.read_details.new.self c.in_item.result c.at_mut.ensures.value
    (completed (Item c.args.index) c.read_details.result c.in_item.result _ c.read_details.new.self c.in_item.ensures c.read_details.ensures)
