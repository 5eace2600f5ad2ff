use Rattle.std.proofs.Common.{◌≡◌, None, map}
use Rattle.std.specs.List.{range_with_len}
use Rattle.wit_link_lookup.proofs.foreign.nothing.Given as goal

-- so many so far
abbrev pub invariant-loop-index : goal.invariant-loop-index
invariant-loop-index g l = l.items ≡ map (λ _. None) (range_with_len 0 l._index)
