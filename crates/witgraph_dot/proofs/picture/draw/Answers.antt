use Rattle.std.proofs.Common.{◌≡◌, string_bytes, subst}
use Rattle.witgraph_dot.proofs.Appended.{joined}
use Rattle.witgraph_dot.proofs.Viewed.{view-is}
use Rattle.witgraph_dot.specs.Frames.{frame_texts}
use Rattle.witgraph_dot.specs.Lines.{arrow_lines}
use Rattle.witgraph_dot.specs.Picture.{note_line, picture_text}
use Rattle.witgraph_dot.specs.Scene.{View}
use Rattle.witgraph_dot.specs.declared.picture.TheConstants.{END, HEAD, LEGEND}
use Rattle.witgraph_dot.proofs.picture.draw.Goals as goal
use Rattle.witgraph_dot.specs.steps.Parts.{view_of}

pub returns : goal.returns
returns c =
    let view = view_of c.in_ok-scene.scene in
    let scene = c.in_ok-scene.ensures in
    let note = c.args.note.now in
    subst (λ (v : View). string_bytes c.push_str-2.new.self ≡ picture_text v note)
    (view-is c.in_ok-scene.scene c.args.choice.now c.args.resolve.now c.args.listing.now scene.graph scene.listing scene.interfaces scene.worlds scene.frames scene.only_added)
    (joined (string_bytes c.in_ok-text.text) (string_bytes c.write_frames.new.text) (string_bytes c.write_arrows.new.text) (string_bytes c.push_str.new.self) (string_bytes c.write_note.new.text)
    (string_bytes c.push_str-2.new.self) HEAD.now (frame_texts view 0 view.graph.packages) (arrow_lines view) LEGEND.now (note_line note) END.now
    c.in_ok-text.ensures.ok c.in_ok-write_frames.ensures c.in_ok-write_arrows.ensures c.in_ok-push_str.ensures.bytes c.in_ok-write_note.ensures c.in_ok-push_str-2.ensures.bytes)
