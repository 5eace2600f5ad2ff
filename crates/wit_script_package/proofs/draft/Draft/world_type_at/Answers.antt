use Rattle.std.proofs.Common.{◌≡◌, ◌∙◌, Some, slice_get, rules, sym}
use Rattle.std.specs.Map.{lookup}
use Rattle.wit_data.specs.contracts.world.WorldKeyPartialEq.TheImpl.{eq-value}
use Rattle.wit_data.specs.declared.world.WorldKey.TheVariants as key
use Rattle.wit_script_package.proofs.Keys.{world-type-is}
use Rattle.wit_script_package.proofs.draft.Draft.world_type_at.Goals as goal

pub returns-in-Some-get : goal.returns-in-Some-get
returns-in-Some-get c =
    let there : slice_get c.args.self.now.worlds c.args.at ≡ Some c.in-Some.world.now = search rules in
    let under : lookup (eq-value.it (key.Name c.args.name.now)) c.in-Some.world.now.imports ≡ Some c.in-Some-get.item.now = rw (sym c.in_ok-try_from_str.ensures) (search rules) in
    c.item_type.ensures ∙ sym (world-type-is c.args.self.now c.args.name.now c.args.at c.in-Some.world.now c.in-Some-get.item.now there under)
