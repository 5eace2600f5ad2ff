use Rattle.std.proofs.Common.{codes}
use Rattle.wit_json.specs.Details.{graph_details}
use Rattle.wit_json.specs.News.{graph_behind}
use Rattle.wit_json.specs.facts.MemberFacts.{value_added}
use Rattle.wit_json.proofs.writer.JsonText.details_member_behind.Goals as goal

pub returns : goal.returns
returns c =
    value_added c.graph_details_behind.result c.args.self.now c.graph_details_behind.new.self (codes "details") (graph_details (graph_behind c.args.told c.args.graph.now)) c.in_ok-key.ensures
    c.graph_details_behind.ensures
