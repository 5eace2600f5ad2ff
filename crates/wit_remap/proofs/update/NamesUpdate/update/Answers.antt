use Rattle.std.proofs.Common.{◌≡◌, ◌∙◌, ℕ, List, length, ap, arith}
use Rattle.wit_remap.proofs.Firsts.{at_value, map_first, length-map_first, value_there, set_value-next, map_first-all}
use Rattle.wit_remap.proofs.update.NamesUpdate.update.Goals as goal

pub value_at_mut-requires : goal.value_at_mut-requires
value_at_mut-requires g c =
    let f = at_value {K = List ℕ} (g.V.Update.image (g.M.Moves.maps c.args.mover.now)) in
    rw (c.loop-index.invariant, length-map_first f c.loop-index.index c.args.self.now) (omega arith)

pub update-requires : goal.update-requires
update-requires g c =
    let f = g.V.Update.image (g.M.Moves.maps c.args.mover.now) in
    let there = value_there f c.loop-index.index c.args.self.now c.loop-index.self c.value_at_mut.result.now c.loop-index.invariant c.value_at_mut.ensures.value in
    c.requires c.loop-index.index (there.0, c.value_at_mut.result.now) there.1

pub loop-index-preserved : goal.loop-index-preserved
loop-index-preserved g c =
    let f = g.V.Update.image (g.M.Moves.maps c.args.mover.now) in
    rw c.update.ensures (set_value-next f c.loop-index.index c.args.self.now c.loop-index.self c.value_at_mut.result.now c.loop-index.invariant c.value_at_mut.ensures.value)

pub returns : goal.returns
returns g c =
    let f = at_value {K = List ℕ} (g.V.Update.image (g.M.Moves.maps c.args.mover.now)) in
    let end : c.loop-index.index ≡ length c.args.self.now = omega arith in
    c.loop-index.invariant ∙ ap (λ n. map_first f n c.args.self.now) end ∙ map_first-all f c.args.self.now
