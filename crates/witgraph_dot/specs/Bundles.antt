-- Arrows that lead to the same frame as one.
use Rattle.std.specs.Prelude.{◌&&◌, ℕ, Bool, List, [], ◌++◌, filter, flat_map, if◌then◌else◌, length, map, nat_lt}
use Rattle.wit_graph_data.specs.declared.graph.Package.{Package}
use Rattle.witgraph_dot.specs.Sets.{are_among, is_one_of, without}
use Rattle.witgraph_dot.specs.Shown.{indices_from}
use Rattle.witgraph_dot.specs.declared.arrow.Arrow.{Arrow}
use Rattle.witgraph_dot.specs.declared.arrow.ArrowKind.{ArrowKind}
use Rattle.witgraph_dot.specs.declared.arrow.Target.TheVariants as target

-- the frame of each package: its interfaces that are shown, in the order of its table
abbrev pub frames_of : List ℕ → List Package → List (List ℕ)
frames_of shown packages =
    map (λ (p : Package). filter (is_one_of shown) (map (λ (e : List ℕ × ℕ). e.1) p.interfaces))
    packages

-- frames without some interfaces
abbrev pub frames_but : List ℕ → List (List ℕ) → List (List ℕ)
frames_but others frames = map (λ frame. without frame others) frames

-- a frame is whole where it has several interfaces, and all of them are among these
abbrev pub is_whole : List ℕ → List ℕ → Bool
is_whole targets frame = nat_lt 1 (length frame) && are_among frame targets

-- the interfaces of the frames that are whole
abbrev pub whole_frames : List (List ℕ) → List ℕ → List ℕ
whole_frames frames targets =
    flat_map (λ frame. if is_whole targets frame then frame else []) frames

-- an arrow of a kind to each frame that is whole
abbrev pub frame_arrows : List (List ℕ) → ArrowKind → List ℕ → List Arrow
frame_arrows frames kind targets =
    map (λ p. record { kind = kind; target = target.Frame p })
    (indices_from (λ p. is_whole targets) 0 frames)

-- the arrows of a kind to some interfaces: one to each frame that is whole, and one to each other interface
abbrev pub bundle : List (List ℕ) → ArrowKind → List ℕ → List Arrow
bundle frames kind targets =
    frame_arrows frames kind targets
    ++ map (λ i. record { kind = kind; target = target.Interface i })
    (without targets (whole_frames frames targets))
