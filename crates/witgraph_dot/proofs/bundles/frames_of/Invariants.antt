use Rattle.std.proofs.Common.{◌≡◌, take}
use Rattle.witgraph_dot.specs.Bundles.{frames_of}
use Rattle.witgraph_dot.proofs.bundles.frames_of.Given as goal

-- those of the packages so far
abbrev pub invariant-loop-package : goal.invariant-loop-package
invariant-loop-package l = l.frames ≡ frames_of l.shown (take l.package-index l.packages)
