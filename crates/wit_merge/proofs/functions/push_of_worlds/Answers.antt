use Rattle.std.proofs.Common.{◌≡◌, ◌∙◌, ◌∷◌, ◌+◌, ℕ, suc, List, Some, drop, refl, slice_get, ap, arith, subst}
use Rattle.std.proofs.lemmas.Option.{slice_get_read}
use Rattle.std.specs.List.{flat_map}
use Rattle.wit_data.specs.declared.function.Function.{Function}
use Rattle.wit_data.specs.declared.world.World.{World}
use Rattle.wit_remap_spec.specs.ValueRemap.{world_functions}
use Rattle.wit_link_resources.specs.steps.Active.{seen}
use Rattle.wit_link_spec.specs.facts.DropFacts.{drop_at}
use Rattle.wit_merge.proofs.Left.{left-more}
use Rattle.wit_merge.proofs.functions.push_of_worlds.Goals as goal

pub loop-world-preserved : goal.loop-world-preserved
loop-world-preserved c =
    let worlds : List World = c.args.worlds.now in
    let place : ℕ = c.loop-world.world-index in
    let x : World = c.world-item.result in
    let read = slice_get_read c.as_slice-world-items.result.now _ place x refl c.loop-world-test.true c.world-item.is in
    let at : slice_get worlds place ≡ Some x = subst (λ (xs : List World). slice_get xs place ≡ Some x) c.as_slice-world-items.ensures read in
    let its : World → List Function = world_functions in
    let next : suc place ≡ place + 1 = omega arith in
    let first = drop_at worlds place x at ∙ ap (λ (i : ℕ). x ∷ drop i worlds) next in
    left-more (flat_map its) its (λ e es. refl) (seen c.loop-world.functions.items) (seen c.push_world.new.functions.items) _ (drop place worlds) x (drop (place + 1) worlds) first c.loop-world.invariant c.in_ok-push_world.ensures
