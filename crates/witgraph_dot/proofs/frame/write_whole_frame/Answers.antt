use Rattle.std.proofs.Common.{string_bytes}
use Rattle.witgraph_dot.proofs.Appended.{appended-ok, when-ok}
use Rattle.witgraph_dot.proofs.frame.write_whole_frame.Goals as goal

pub returns : goal.returns
returns c =
    appended-ok c.push_str.result (string_bytes c.args.text.now) _ _ _ (string_bytes c.push_str.new.self) _ _ _ _
    c.in_ok-write_frame_head.ensures c.in_ok-write_shown.ensures c.in_ok-write_worlds.ensures (when-ok c.push_str.result _ _ _ c.push_str.ensures.bytes)
