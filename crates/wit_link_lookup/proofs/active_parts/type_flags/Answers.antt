use Rattle.std.proofs.Common.{◌∙◌, ap, sym, Option, false, refl}
use Rattle.std.specs.Option.{option_map_or}
use Rattle.wit_data.specs.declared.types.TypeDef.{TypeDef}
use Rattle.wit_link_spec.specs.Gates.{is_active, type_is_active}
use Rattle.wit_link_spec.specs.facts.RangeFacts.{range-pushed}
use Rattle.wit_link_lookup.proofs.Elements.{element_at}
use Rattle.wit_link_lookup.proofs.active_parts.type_flags.Goals as goal

pub loop-def-preserved : goal.loop-def-preserved
loop-def-preserved c =
    let features = c.args.features.now in
    let here = ap (λ (o : Option TypeDef). option_map_or (λ (def : TypeDef). is_active features def.stability) o false) (element_at c.args.unresolved.now.types c.as_slice-def-items.result.now _ c.loop-def.def-index c.def-item.result c.as_slice-def-items.ensures refl c.loop-def-test.true c.def-item.is) in
    range-pushed (type_is_active features c.args.unresolved.now.types) c.loop-def.def-index c.loop-def.flags c.push.new.self c.is_active.result c.loop-def.invariant c.in_ok-push.ensures.ok
    (c.is_active.ensures ∙ sym here)
