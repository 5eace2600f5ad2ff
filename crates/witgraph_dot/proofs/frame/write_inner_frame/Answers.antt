use Rattle.std.proofs.Common.{◌≡◌, ◌++◌, string_bytes}
use Rattle.witgraph_dot.proofs.Appended.{three-ok, when-ok}
use Rattle.witgraph_dot.proofs.frame.write_inner_frame.Goals as goal
use Rattle.witgraph_dot.specs.steps.Parts.{inner_head}

pub returns : goal.returns
returns c =
    let head : string_bytes c.write.new.self ≡ string_bytes c.args.text.now ++ inner_head c.args.index = c.in_ok-write.ensures.bytes in
    three-ok c.push_str.result (string_bytes c.args.text.now) _ _ (string_bytes c.push_str.new.self) (inner_head c.args.index) _ _
    head c.in_ok-write_interfaces.ensures (when-ok c.push_str.result _ _ _ c.push_str.ensures.bytes)
