use Rattle.std.proofs.Common.{◌∙◌}
use Rattle.witgraph_dot.proofs.Imported.{imports-added}
use Rattle.witgraph_dot.proofs.scene.Scene.add_imports.Goals as goal
use Rattle.witgraph_dot.specs.steps.Parts.{view_of}

pub returns : goal.returns
returns c =
    let frames = c.as_slice-frames.ensures ∙ c.in_ok-frames.ensures in
    let left = rw c.deref.ensures.value at c.in_ok-left.ensures in
    let brought = rw c.deref-2.ensures.value at c.in_ok-brought.ensures in
    let bundled = rw c.deref-3.ensures.value at c.in_ok-bundled.ensures in
    let single = rw c.deref-5.ensures.value at (rw c.deref-4.ensures.value at c.in_ok-single.ensures) in
    let listed = rw c.deref-7.ensures.value at (rw c.deref-6.ensures.value at c.in_ok-listed.ensures) in
    let unlisted = rw c.deref-9.ensures.value at (rw c.deref-8.ensures.value at c.in_ok-unlisted.ensures) in
    imports-added (view_of c.args.self.now) c.args.world c.as_slice-frames.result.now c.in_ok-included.included.items c.in_ok-left.left.items c.in_ok-brought.brought.items
    c.in_ok-bundled.bundled.items c.in_ok-single.single.items c.in_ok-lines.lines.items c.in_ok-listed.listed.items c.in_ok-unlisted.unlisted.items
    frames c.in_ok-included.ensures left brought bundled single c.in_ok-lines.ensures listed unlisted
    c.add_bundle-2.result c.args.arrows.now.items c.add_worlds.new.arrows.items c.add_frames.new.arrows.items c.add_bundle.new.arrows.items c.add_bundle-2.new.arrows.items
    (rw c.deref-10.ensures.value at c.in_ok-add_worlds.ensures) (rw c.deref-11.ensures.value at c.in_ok-add_frames.ensures) (rw c.deref-12.ensures.value at c.in_ok-add_bundle.ensures)
    (rw c.deref-13.ensures.value at c.add_bundle-2.ensures)
