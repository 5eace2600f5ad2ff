use Rattle.std.proofs.Common.{◌≡◌, ◌∙◌, ℕ, List, Option, None, ap, sym, subst}
use Rattle.std.specs.Option.{option_copied}
use Rattle.wit_ways.specs.Asked.{chosen_keys, coming_includes}
use Rattle.wit_ways.specs.Conflicts.{AreExported, AreExports}
use Rattle.wit_ways.specs.declared.include.Include.{Include}
use Rattle.wit_ways.specs.declared.world_name.WorldName.{WorldName}
use Rattle.wit_ways.proofs.Outcomes.{if_ok}
use Rattle.wit_ways.proofs.conflict.exported.Goals as goal

pub returns-in_ok-own-in-Some-world : goal.returns-in_ok-own-in-Some-world
returns-in_ok-own-in-Some-world c =
    let asked = c.args.asked.now in
    let arrows = c.args.arrows.now in
    let none : chosen_keys asked ≡ None = sym c.keys.ensures ∙ ap option_copied c.in_default.is in
    if_ok c.exports_of.result c.exports_of.ensures
    (λ names are.
    subst (λ (keys : Option (List (List ℕ))). AreExported asked arrows c.args.world.now keys names) (sym none)
    (subst (λ (w : Option WorldName). AreExported asked arrows w None names) (sym c.in-Some-world.is)
    (subst (λ (text : List ℕ). AreExports (coming_includes asked) arrows text names) c.in_ok-own-in-Some-world.ensures
    (subst (λ (includes : List Include). AreExports includes arrows c.in_ok-own-in-Some-world.own names) c.includes.ensures are))))
