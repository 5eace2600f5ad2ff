use Rattle.std.proofs.Common.{◌≡◌, drop}
use Rattle.witgraph_dot.specs.Effects.{with_versions}
use Rattle.witgraph_dot.proofs.effect.add_versions.Given as goal

-- with those that are left it has all
abbrev pub invariant-loop-id : goal.invariant-loop-id
invariant-loop-id l = record {
  listed :
      with_versions l.resolve.track_rule l.resolve.graph l.listing.imports l.world (drop l.id-index l.interfaces)
      ≡ with_versions l.resolve.track_rule l.resolve.graph l.fn.listing.imports l.world l.interfaces;
  included : l.listing.includes ≡ l.fn.listing.includes;
}
