use Rattle.std.proofs.Common.{rules}
use Rattle.wit_graph_data.proofs.rendering.render_text.Goals as goal

pub returns-in-Some : goal.returns-in-Some
returns-in-Some c = search rules
