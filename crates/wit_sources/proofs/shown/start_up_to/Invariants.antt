use Rattle.std.proofs.Common.{◌≡◌, ◌≤◌}
use Rattle.wit_sources.specs.Shown.{start_up_to}
use Rattle.wit_sources.proofs.shown.start_up_to.Given as goal

-- the last start up to here is the one that is searched
abbrev pub invariant-loop-start : goal.invariant-loop-start
invariant-loop-start l = record {
  within : l.start ≤ l.position;
  same : start_up_to l.start l.bytes ≡ start_up_to l.position l.bytes;
}

abbrev pub decreases-loop-start : goal.decreases-loop-start
decreases-loop-start l = l.start
