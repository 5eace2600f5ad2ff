use Rattle.std.proofs.Common.{ℕ, ◌≡◌, ◌++◌, None, Some, filter_map}
use Rattle.wit_ways.specs.Arrows.{arrow_between, home_text, package_arrows}
use Rattle.wit_ways.proofs.graph_arrow.add_dependencies.Given as goal

-- what is noted, and what those are that are left
abbrev pub invariant-loop-used : goal.invariant-loop-used
invariant-loop-used l =
    l.arrows ++ filter_map (λ (q : ℕ). arrow_between l.from None (home_text l.graph.packages (Some q))) l.used-iterator
    ≡ l.initial.arrows ++ package_arrows l.graph l.fn.«package»
