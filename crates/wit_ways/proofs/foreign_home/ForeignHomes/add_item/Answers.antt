use Rattle.std.proofs.Common.{◌≡◌, ◌∙◌, false, ap, is_some, nat_eq, refl, rules, sym}
use Rattle.std.specs.Map.{lookup}
use Rattle.wit_data.specs.declared.unresolved.AstItem.{AstItem}
use Rattle.wit_ways.specs.Packages.{is_item}
use Rattle.wit_ways.specs.steps.ForeignHomes.{home_place, or_place}
use Rattle.wit_ways.specs.declared.foreign_home.ForeignHomes.{ForeignHomes}
use Rattle.wit_ways.proofs.ForeignHomes.{interface_put, world_put}
use Rattle.wit_ways.proofs.foreign_home.ForeignHomes.add_item.Goals as goal

pub returns-in_ok-insert-in-Interface : goal.returns-in_ok-insert-in-Interface
returns-in_ok-insert-in-Interface c = λ it.
    let old = c.args.self.now in
    let new : ForeignHomes = record { interfaces = c.insert.new.self; worlds = old.worlds } in
    let absent : is_some (lookup (nat_eq c.in-Interface.id) old.interfaces.entries) ≡ false = search rules in
    interface_put old new c.in-Interface.id c.args.place absent c.in_ok-insert-in-Interface.ensures.updates.0 refl it
    ∙ ap (λ (item : AstItem). or_place (home_place old it) (is_item it item) c.args.place) (sym c.in-Interface.is)

pub returns-in_ok-insert-in-World : goal.returns-in_ok-insert-in-World
returns-in_ok-insert-in-World c = λ it.
    let old = c.args.self.now in
    let new : ForeignHomes = record { interfaces = old.interfaces; worlds = c.insert-then-not-contains_key-2.new.self } in
    let absent : is_some (lookup (nat_eq c.in-World.id) old.worlds.entries) ≡ false = search rules in
    world_put old new c.in-World.id c.args.place absent c.in_ok-insert-in-World.ensures.updates.0 refl it
    ∙ ap (λ (item : AstItem). or_place (home_place old it) (is_item it item) c.args.place) (sym c.in-World.is)
