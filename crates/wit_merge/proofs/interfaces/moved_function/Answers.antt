use Rattle.std.proofs.Common.{◌∙◌, ap}
use Rattle.wit_remap_spec.specs.Image.{function_image}
use Rattle.wit_remap.specs.steps.Movers.{maps_of}
use Rattle.wit_merge.proofs.Agrees.{function_is}
use Rattle.wit_merge.proofs.interfaces.moved_function.Goals as goal

pub returns : goal.returns
returns c =
    let mover = c.mover.result in
    c.update.ensures ∙ ap (function_image (maps_of mover)) c.in_ok-moved.ensures ∙ function_is c.args.plan.now c.requires.ready mover c.mover.ensures.new_ids c.mover.ensures.values c.mover.ensures.offset c.args.function.now c.requires.moves
