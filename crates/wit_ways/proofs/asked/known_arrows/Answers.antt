use Rattle.std.proofs.Common.{◌≡◌, ◌∙◌, ap, append-nil, sym}
use Rattle.wit_graph_data.specs.declared.graph.Graph.{Graph}
use Rattle.wit_ways.specs.Arrows.{graph_arrows}
use Rattle.wit_ways.specs.Asked.{asked_graph, asked_side}
use Rattle.wit_ways.proofs.asked.known_arrows.Goals as goal

pub loop-arrow-init : goal.loop-arrow-init
loop-arrow-init c =
    let state = c.args.resolve.now in
    let asked = c.args.asked.now in
    let graph_is : c.made_or_known-graph.result.now ≡ asked_graph state asked = c.made_or_known-graph.ensures ∙ sym c.in_ok-made.ensures in
    c.in_ok-arrows.ensures ∙ ap (λ (g : Graph). graph_arrows 0 g c.side.result) graph_is ∙ ap (graph_arrows 0 (asked_graph state asked)) c.side.ensures
    ∙ sym (append-nil (graph_arrows 0 (asked_graph state asked) (asked_side asked)))
