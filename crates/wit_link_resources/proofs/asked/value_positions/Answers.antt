use Rattle.std.proofs.Common.{◌≡◌, false, refl, rules}
use Rattle.wit_data.specs.facts.ReferenceFacts.{all_referred, none_referred}
use Rattle.wit_data.specs.declared.kind.PartRole.{PartRole}
use Rattle.wit_data.specs.declared.kind.PartRole.TheVariants.{Value}
use Rattle.wit_remap_spec.specs.Resources.{is_value}
use Rattle.wit_link_resources.proofs.asked.value_positions.Goals as goal

left_out : (role : PartRole) → (role ≡ Value → ⊥) → is_value role ≡ false
left_out Value other = absurd (other refl)
left_out role other = refl

pub returns-in-Value : goal.returns-in-Value
returns-in-Value c = rw (all_referred is_value c.args.kind.now Value c.in-Value.ensures refl) (search rules)

pub returns-in_default : goal.returns-in_default
returns-in_default c = rw (none_referred is_value c.args.kind.now c.part_role.result c.part_role.ensures (left_out c.part_role.result c.in_default.not-Value)) (search rules)
