use Rattle.std.proofs.Common.{[], string_bytes}
use Rattle.std.specs.List.{flat_map}
use Rattle.witgraph_dot.proofs.Appended.{piece-behind}
use Rattle.witgraph_dot.specs.Lines.{uses_lines, world_lines}
use Rattle.witgraph_dot.proofs.drawing.write_arrows.Goals as goal
use Rattle.witgraph_dot.specs.steps.Parts.{view_of}

pub loop-user-preserved : goal.loop-user-preserved
loop-user-preserved c =
    piece-behind (uses_lines (view_of c.args.scene.now)) c.deref-user-items.result.now c.loop-user.user-index c.user-item.result (string_bytes c.args.text.now) []
    (string_bytes c.loop-user.text) (string_bytes c.write_uses.new.text) c.loop-user-test.true c.user-item.is c.loop-user.invariant c.in_ok-write_uses.ensures

pub loop-world-preserved : goal.loop-world-preserved
loop-world-preserved c =
    let view = view_of c.args.scene.now in
    piece-behind (world_lines view) c.deref-world-items.result.now c.loop-world.world-index c.world-item.result (string_bytes c.args.text.now)
    (flat_map (uses_lines view) c.args.scene.now.interfaces.items) (string_bytes c.loop-world.text) (string_bytes c.write_entries.new.text)
    c.loop-world-test.true c.world-item.is c.loop-world.invariant c.in_ok-write_entries.ensures
