use Rattle.std.proofs.Common.{◌≡◌, ◌++◌, ℕ, List, string_bytes, subst}
use Rattle.witgraph_dot.proofs.Appended.{appended-ok, when-ok}
use Rattle.witgraph_dot.proofs.frame.write_world.Goals as goal
use Rattle.witgraph_dot.specs.steps.Parts.{world_head}

pub returns : goal.returns
returns c =
    let head : string_bytes c.write_world_head.new.text ≡ string_bytes c.args.text.now ++ world_head c.args.index c.args.world.now.name =
    subst (λ (name : List ℕ). string_bytes c.write_world_head.new.text ≡ string_bytes c.args.text.now ++ world_head c.args.index name) c.as_str.ensures
    c.in_ok-write_world_head.ensures in
    appended-ok c.push_str.result (string_bytes c.args.text.now) _ _ _ (string_bytes c.push_str.new.self) _ _ _ _
    head c.in_ok-write_labels.ensures c.in_ok-write_labels-2.ensures (when-ok c.push_str.result _ _ _ c.push_str.ensures.bytes)
