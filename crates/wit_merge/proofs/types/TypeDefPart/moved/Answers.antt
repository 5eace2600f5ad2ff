use Rattle.std.proofs.Common.{◌∙◌, ap}
use Rattle.wit_data.specs.declared.types.TypeDef.{TypeDef}
use Rattle.wit_remap_spec.specs.Image.{type_image}
use Rattle.wit_remap.specs.steps.Movers.{maps_of}
use Rattle.wit_merge.proofs.Agrees.{type_is}
use Rattle.wit_merge.proofs.types.TypeDefPart.moved.Goals as goal

pub returns : goal.returns
returns c = λ index.
    let mover = c.mover.result in
    c.update.ensures ∙ ap (λ (def : TypeDef). let r : TypeDef = record (type_image (maps_of mover) def) { name = def.name } in r) c.in_ok-moved.ensures
    ∙ type_is c.args.plan.now c.requires.ready mover c.mover.ensures.new_ids c.mover.ensures.values c.mover.ensures.offset c.args.self.now c.requires.can
