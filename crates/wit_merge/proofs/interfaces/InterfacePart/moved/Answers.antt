use Rattle.std.proofs.Common.{◌∙◌, ap}
use Rattle.wit_remap_spec.specs.Image.{interface_image}
use Rattle.wit_remap.specs.steps.Movers.{maps_of}
use Rattle.wit_merge.proofs.Agrees.{interface_is}
use Rattle.wit_merge.proofs.interfaces.InterfacePart.moved.Goals as goal

pub returns : goal.returns
returns c = λ index.
    let mover = c.mover.result in
    let can = c.requires.can in
    c.update.ensures ∙ ap (interface_image (maps_of mover)) c.in_ok-moved.ensures
    ∙ interface_is c.args.plan.now c.requires.ready mover c.mover.ensures.new_ids c.mover.ensures.values c.mover.ensures.offset c.args.self.now can (c.mover.ensures.home can.home can.home_is can.there)
