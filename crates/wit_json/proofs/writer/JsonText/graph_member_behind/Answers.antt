use Rattle.std.proofs.Common.{codes}
use Rattle.wit_json.specs.Graph.{json_of_graph}
use Rattle.wit_json.specs.News.{graph_behind}
use Rattle.wit_json.specs.facts.MemberFacts.{value_added}
use Rattle.wit_json.proofs.writer.JsonText.graph_member_behind.Goals as goal

pub returns : goal.returns
returns c =
    value_added c.graph_behind.result c.args.self.now c.graph_behind.new.self (codes "graph") (json_of_graph (graph_behind c.args.told c.args.graph.now)) c.in_ok-key.ensures c.graph_behind.ensures
