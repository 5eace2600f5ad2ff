use Rattle.wit_link_include.proofs.Several.{IsBeginning}
use Rattle.wit_link_include.proofs.adding.include_each.Given as goal

-- the includes so far are made
abbrev pub invariant-loop-included : goal.invariant-loop-included
invariant-loop-included l = IsBeginning l.home l.initial.graph l.initial.world l.includes l.included-index l.graph l.world
