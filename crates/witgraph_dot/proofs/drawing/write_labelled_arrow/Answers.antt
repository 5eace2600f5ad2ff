use Rattle.std.proofs.Common.{◌≡◌, ◌++◌, OnOk, filter_map, rules, string_bytes}
use Rattle.witgraph_dot.proofs.Appended.{three-ok}
use Rattle.witgraph_dot.proofs.Written.{labelled-as}
use Rattle.witgraph_dot.specs.Lines.{box_name, label_for, label_lines, look, label_box}
use Rattle.witgraph_dot.proofs.drawing.write_labelled_arrow.Goals as goal
use Rattle.witgraph_dot.specs.steps.Parts.{arrow_to_box, arrow_from_box}

pub returns : goal.returns
returns c =
    let name = box_name c.args.kind c.args.from c.index-to.result in
    let labels = string_bytes c.in_ok-labels.labels in
    let attributes = c.attributes-attributes.result.now in
    let start = string_bytes c.args.text.now in
    let boxed : string_bytes c.write.new.self ≡ start ++ label_box name labels = c.in_ok-write.ensures.bytes in
    let led : string_bytes c.write-2.new.self ≡ string_bytes c.write.new.self ++ arrow_to_box name c.args.from attributes = c.in_ok-write-2.ensures.bytes in
    let ended : OnOk c.write-3.result (string_bytes c.write-3.new.self ≡ string_bytes c.write-2.new.self ++ arrow_from_box name c.index-to.result attributes) = c.write-3.ensures.bytes in
    labelled-as c.write-3.result start (string_bytes c.write-3.new.self) c.args.kind c.args.from c.args.id c.index-to.result
    (label_lines (filter_map (label_for c.args.id) c.args.entries.now)) labels (look c.args.kind) attributes
    (search rules) c.in_ok-labels.ensures c.attributes-attributes.ensures
    (three-ok c.write-3.result start (string_bytes c.write.new.self) (string_bytes c.write-2.new.self) (string_bytes c.write-3.new.self)
    (label_box name labels) (arrow_to_box name c.args.from attributes) (arrow_from_box name c.index-to.result attributes) boxed led ended)
