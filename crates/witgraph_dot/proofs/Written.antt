-- Frames and arrows as they are written.
use Rattle.std.proofs.Common.{◌≡◌, ◌∙◌, ◌&&◌, ◌++◌, ◌-◌, ◌==◌, [], ℕ, Bool, false, List, Result, Ok, Err, Some, OnOk, ap, if◌then◌else◌, length, not, slice_get, subst, sym}
use Rattle.std.specs.Option.{option_map_or}
use Rattle.wit_graph_data.specs.declared.graph.Package.{Package}
use Rattle.witgraph_dot.specs.Frames.{frame_text, shows_world}
use Rattle.witgraph_dot.specs.Lines.{box_name, end_at_frame, frame_end, arrow_through_box}
use Rattle.witgraph_dot.specs.Scene.{View}
use Rattle.witgraph_dot.specs.declared.arrow.ArrowKind.{ArrowKind}
use Rattle.witgraph_dot.specs.steps.Parts.{whole_frame, inner_suffix, end_in_frame}

-- the frame of a package with these interfaces, where there is something in it
abbrev frame_unless_empty : View → ℕ → Package → List ℕ → List ℕ
frame_unless_empty v p owner interfaces = if (length interfaces == 0) && not (shows_world v.worlds owner) then [] else whole_frame v p owner interfaces

-- a frame that isn't empty is what is written of this index and these interfaces
pub frame-written : {X E : Type 0} (told : Result X E) (before after : List ℕ) (v : View) (p q : ℕ) (owner : Package) (interfaces slice : List ℕ) → q ≡ p → slice ≡ interfaces
    → slice_get v.frames p ≡ Some interfaces → ((length interfaces == 0) && not (shows_world v.worlds owner)) ≡ false → OnOk told (after ≡ before ++ whole_frame v q owner slice)
    → OnOk told (after ≡ before ++ frame_text v p owner)
frame-written (Ok x) before after v p q owner interfaces slice of_p of_slice framed some written =
    written ∙ ap (λ (l : List ℕ). before ++ l) (ap (λ n. whole_frame v n owner slice) of_p ∙ (ap (whole_frame v p owner) of_slice
    ∙ (sym (ap (λ (b : Bool). if b then [] else whole_frame v p owner interfaces) some) ∙ sym (ap (λ o. option_map_or (frame_unless_empty v p owner) o []) framed))))
frame-written (Err e) before after v p q owner interfaces slice of_p of_slice framed some written = tt

-- the end of an arrow at a frame that is there
end-there : (v : View) (p : ℕ) (attributes : List ℕ) (owner : Package) (interfaces : List ℕ) (i : ℕ) → slice_get v.graph.packages p ≡ Some owner → slice_get v.frames p ≡ Some interfaces
    → slice_get interfaces (length interfaces - 1) ≡ Some i → end_at_frame v p attributes ≡ frame_end p (inner_suffix v.worlds owner (length interfaces)) attributes i
end-there v p attributes owner interfaces i there framed last =
    ap (λ o. option_map_or (λ (home : Package). option_map_or (end_in_frame v p attributes home) (slice_get v.frames p) []) o []) there
    ∙ (ap (λ o. option_map_or (end_in_frame v p attributes owner) o []) framed
    ∙ ap (λ o. option_map_or (frame_end p (inner_suffix v.worlds owner (length interfaces)) attributes) o []) last)

-- it is what is written of these numbers and this rest of a name
pub frame-ended : {X E : Type 0} (told : Result X E) (before after : List ℕ) (v : View) (p q : ℕ) (attributes suffix : List ℕ) (owner : Package) (interfaces : List ℕ) (i j : ℕ)
    → q ≡ p → j ≡ i → suffix ≡ inner_suffix v.worlds owner (length interfaces) → slice_get v.graph.packages q ≡ Some owner → slice_get v.frames q ≡ Some interfaces
    → slice_get interfaces (length interfaces - 1) ≡ Some i → OnOk told (after ≡ before ++ frame_end q suffix attributes j) → OnOk told (after ≡ before ++ end_at_frame v p attributes)
frame-ended (Ok x) before after v p q attributes suffix owner interfaces i j of_p of_i of_suffix there framed last written =
    written ∙ ap (λ (l : List ℕ). before ++ l) (ap (λ n. frame_end n suffix attributes j) of_p ∙ (ap (λ n. frame_end p suffix attributes n) of_i
    ∙ (ap (λ s. frame_end p s attributes i) of_suffix ∙ sym (end-there v p attributes owner interfaces i
    (subst (λ (n : ℕ). slice_get v.graph.packages n ≡ Some owner) of_p there) (subst (λ (n : ℕ). slice_get v.frames n ≡ Some interfaces) of_p framed) last))))
frame-ended (Err e) before after v p q attributes suffix owner interfaces i j of_p of_i of_suffix there framed last written = tt

-- an arrow with labels is what is written of this number, these labels and this look
pub labelled-as : {X E : Type 0} (told : Result X E) (before after : List ℕ) (sort : ArrowKind) (w i j : ℕ) (labels some attributes look : List ℕ) → j ≡ i → some ≡ labels → look ≡ attributes
    → OnOk told (after ≡ before ++ arrow_through_box (box_name sort w j) w j some look) → OnOk told (after ≡ before ++ arrow_through_box (box_name sort w i) w i labels attributes)
labelled-as told before after sort w i j labels some attributes look of_i of_labels of_look written =
    subst (λ (n : ℕ). OnOk told (after ≡ before ++ arrow_through_box (box_name sort w n) w n labels attributes)) of_i
    (subst (λ (l : List ℕ). OnOk told (after ≡ before ++ arrow_through_box (box_name sort w j) w j l attributes)) of_labels
    (subst (λ (a : List ℕ). OnOk told (after ≡ before ++ arrow_through_box (box_name sort w j) w j some a)) of_look written))
