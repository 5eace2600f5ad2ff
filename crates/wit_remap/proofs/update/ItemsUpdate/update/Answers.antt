use Rattle.std.proofs.Common.{◌≡◌, ◌∙◌, length, ap, arith}
use Rattle.wit_remap.proofs.Firsts.{map_first, length-map_first, map_first-at, map_first-next, map_first-all}
use Rattle.wit_remap.proofs.update.ItemsUpdate.update.Goals as goal

pub at_mut-requires : goal.at_mut-requires
at_mut-requires g c =
    let f = g.T.Update.image (g.M.Moves.maps c.args.mover.now) in
    rw (c.loop-index.invariant, length-map_first f c.loop-index.index c.args.self.now) (omega arith)

pub update-requires : goal.update-requires
update-requires g c =
    let f = g.T.Update.image (g.M.Moves.maps c.args.mover.now) in
    c.requires c.loop-index.index _ (map_first-at f c.loop-index.index c.args.self.now c.loop-index.self c.at_mut.result.now c.loop-index.invariant c.at_mut.ensures.value)

pub loop-index-preserved : goal.loop-index-preserved
loop-index-preserved g c =
    let f = g.T.Update.image (g.M.Moves.maps c.args.mover.now) in
    rw (c.update.ensures, c.loop-index.invariant)
    (map_first-next f c.loop-index.index c.args.self.now c.at_mut.result.now
    (map_first-at f c.loop-index.index c.args.self.now c.loop-index.self c.at_mut.result.now c.loop-index.invariant c.at_mut.ensures.value))

pub returns : goal.returns
returns g c =
    let f = g.T.Update.image (g.M.Moves.maps c.args.mover.now) in
    let end : c.loop-index.index ≡ length c.args.self.now = omega arith in
    c.loop-index.invariant ∙ ap (λ n. map_first f n c.args.self.now) end ∙ map_first-all f c.args.self.now
