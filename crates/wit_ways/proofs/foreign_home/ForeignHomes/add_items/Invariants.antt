use Rattle.std.proofs.Common.{◌≡◌}
use Rattle.wit_data.specs.declared.unresolved.AstItem.{AstItem}
use Rattle.wit_ways.specs.Packages.{names_item}
use Rattle.wit_ways.specs.steps.ForeignHomes.{home_place, or_place}
use Rattle.wit_ways.proofs.foreign_home.ForeignHomes.add_items.Given as goal

-- with those that are left it is all
abbrev pub invariant-loop-named : goal.invariant-loop-named
invariant-loop-named l = (it : AstItem) → or_place (home_place l.self it) (names_item it l.named-iterator) l.place ≡ or_place (home_place l.initial.self it) (names_item it l.items) l.place
