use Rattle.std.proofs.Common.{◌≡◌, Some, rules}
use Rattle.std.specs.Prelude.{slice_get}
use Rattle.wit_graph_data.specs.Named.{package_named}
use Rattle.wit_json_commands.proofs.FirstKnown.{of_interfaces, of_worlds}
use Rattle.wit_json_commands.proofs.replies.places.package_span.Goals as goal

pub returns-then-is_known : goal.returns-then-is_known
returns-then-is_known c =
    let there : package_named c.args.graph.now c.args.name.now ≡ Some c.in-Some.id.now = search rules in
    let home : slice_get c.args.graph.now.packages c.in-Some.id.now ≡ Some c.in-Some-get.package.now = search rules in
    of_interfaces c.args.graph.now c.args.name.now c.in-Some.id.now c.in-Some-get.package.now there home c.span_of_interfaces-span.result
    c.span_of_interfaces-span.ensures (c.is_known.ensures.0 c.if-is_known.true)

pub returns : goal.returns
returns c =
    let there : package_named c.args.graph.now c.args.name.now ≡ Some c.in-Some.id.now = search rules in
    let home : slice_get c.args.graph.now.packages c.in-Some.id.now ≡ Some c.in-Some-get.package.now = search rules in
    of_worlds c.args.graph.now c.args.name.now c.in-Some.id.now c.in-Some-get.package.now there home c.span_of_interfaces-span.result c.span_of_worlds.result c.is_known.result
    c.span_of_interfaces-span.ensures c.if-is_known.false c.is_known.ensures.1 c.span_of_worlds.ensures
