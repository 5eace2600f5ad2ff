use native.Mathlib.Omega.{arith}
use Rattle.std.proofs.Common.{◌≡◌, ◌&&◌, ◌==◌, ℕ, Some, false, length, not, rules, slice_get, string_bytes, subst}
use Rattle.std.proofs.lemmas.Grind.{common_steps}
use Rattle.witgraph_dot.proofs.Written.{frame-written}
use Rattle.witgraph_dot.specs.Frames.{shows_world}
use Rattle.witgraph_dot.proofs.frame.write_frame.Goals as goal
use Rattle.witgraph_dot.proofs.frame.write_frame.Goals.{else-is_empty-via-then-is_empty+else-not-shows_world, else-is_empty-via-else-is_empty}
use Rattle.witgraph_dot.specs.steps.Parts.{view_of}

pub returns : goal.returns
returns c =
    let view = view_of c.args.scene.now in
    let interfaces = c.in-Some.interfaces.now in
    let found : slice_get view.frames c.index.result ≡ Some interfaces = first_of (search rules, grind (arith, common_steps)) in
    let framed = subst (λ (p : ℕ). slice_get view.frames p ≡ Some interfaces) c.index.ensures found in
    let some : ((length interfaces == 0) && not (shows_world view.worlds c.args.package.now)) ≡ false =
    elim c.else-is_empty.branch [
      | else-is_empty-via-then-is_empty+else-not-shows_world w ↦ first_of (search rules, grind (arith, common_steps))
      | else-is_empty-via-else-is_empty w ↦ first_of (search rules, grind (arith, common_steps))
    ] in
    frame-written c.write_whole_frame.result (string_bytes c.args.text.now) (string_bytes c.write_whole_frame.new.text) view c.args.id c.index-2.result c.args.package.now interfaces c.as_slice.result.now
    (search rules) (search rules) framed some c.write_whole_frame.ensures
