use native.Mathlib.Omega.{arith}
use Rattle.std.proofs.Common.{◌≡◌, ◌++◌, ◌-◌, List, OnOk, Some, length, refl, rules, slice_get, string_bytes, subst}
use Rattle.std.proofs.lemmas.Grind.{common_steps}
use Rattle.std.proofs.lemmas.Option.{slice_get_read}
use Rattle.wit_graph_data.specs.declared.graph.Package.{Package}
use Rattle.witgraph_dot.proofs.Written.{frame-ended}
use Rattle.witgraph_dot.specs.Lines.{frame_end}
use Rattle.witgraph_dot.proofs.drawing.write_frame_end.Goals as goal
use Rattle.witgraph_dot.specs.steps.Parts.{inner_suffix, view_of}

pub returns : goal.returns
returns c =
    let view = view_of c.args.scene.now in
    let owner = c.in-Some.package.now in
    let interfaces = c.in-Some-get.frame.now in
    let last = c.in-Some-last.last.now in
    let found = slice_get_read c.packages.result.now _ c.index-index.result owner refl c.in-Some.ensures.lookup.3.0 c.in-Some.ensures.lookup.1 in
    let there = subst (λ (packages : List Package). slice_get packages c.index-index.result ≡ Some owner) c.packages.ensures found in
    let framed : slice_get view.frames c.index-index.result ≡ Some interfaces = first_of (search rules, grind (arith, common_steps)) in
    let at : slice_get interfaces (length interfaces - 1) ≡ Some last = first_of (search rules, grind (arith, common_steps)) in
    let suffix : c.inner_suffix-suffix.result.now ≡ inner_suffix view.worlds owner (length interfaces) = first_of (search rules, grind (arith, common_steps)) in
    let written : OnOk c.write.result (string_bytes c.write.new.self ≡ string_bytes c.args.text.now
    ++ frame_end c.index-index.result c.inner_suffix-suffix.result.now c.args.attributes.now c.index-to.result) = c.write.ensures.bytes in
    frame-ended c.write.result (string_bytes c.args.text.now) (string_bytes c.write.new.self) view c.args.id c.index-index.result c.args.attributes.now c.inner_suffix-suffix.result.now
    owner interfaces last c.index-to.result (search rules) (search rules) suffix there framed at written
