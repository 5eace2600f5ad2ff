use Rattle.std.proofs.Common.{◌≡◌, ◌+◌, drop, option_map}
use Rattle.std.specs.Option.{option_or}
use Rattle.wit_data.specs.declared.unresolved.AstItem.{AstItem}
use Rattle.wit_ways.specs.steps.ForeignHomes.{home_place, place_in}
use Rattle.wit_ways.proofs.foreign_home.ForeignHomes.of.Given as goal

-- the place that is noted, or else that of the first of the packages that are left
abbrev pub invariant-loop-place : goal.invariant-loop-place
invariant-loop-place l = (it : AstItem) → option_or (home_place l.homes it) (option_map (λ j. l.place + j) (place_in it (drop l.place l.«package».foreign_deps))) ≡ place_in it l.«package».foreign_deps
