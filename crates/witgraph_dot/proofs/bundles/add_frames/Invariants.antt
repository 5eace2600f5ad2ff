use Rattle.std.proofs.Common.{◌≡◌, ◌++◌, drop, map}
use Rattle.witgraph_dot.specs.Bundles.{frame_arrows, is_whole}
use Rattle.witgraph_dot.specs.Shown.{indices_from}
use Rattle.witgraph_dot.specs.declared.arrow.Target.TheVariants as target
use Rattle.witgraph_dot.proofs.bundles.add_frames.Given as goal

-- with the arrows to the frames that are left it has all
abbrev pub invariant-loop-index : goal.invariant-loop-index
invariant-loop-index l =
    l.arrows.items ++ map (λ p. record { kind = l.kind; target = target.Frame p }) (indices_from (λ p. is_whole l.targets) l.index (drop l.index l.frames))
    ≡ l.fn.arrows.items ++ frame_arrows l.frames l.kind l.targets
