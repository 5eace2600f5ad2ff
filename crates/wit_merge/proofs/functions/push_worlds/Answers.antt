use Rattle.std.proofs.Common.{◌≡◌, ◌∙◌, ◌++◌, ◌+◌, [], ℕ, Bool, true, false, List, Some, ap, drop, filter, refl, slice_get, sym, if◌then◌else◌, subst}
use Rattle.std.proofs.lemmas.Option.{slice_get_read}
use Rattle.std.specs.List.{enumerate_from, flat_map}
use Rattle.std.proofs.lemmas.List.{append-nil}
use Rattle.wit_data.specs.declared.function.Function.{Function}
use Rattle.wit_data.specs.declared.world.World.{World}
use Rattle.wit_link_resources.specs.steps.Active.{seen}
use Rattle.wit_merge_match.specs.steps.Matched.{moves}
use Rattle.wit_merge.proofs.Left.{kept-first, left-more, of_kept}
use Rattle.wit_merge.proofs.Numbered.{first_behind}
use Rattle.wit_merge.proofs.functions.push_worlds.Goals.{then-moves+in_ok-push_world, else-moves}
use Rattle.wit_merge.proofs.functions.push_worlds.Goals as goal
use Rattle.wit_remap_spec.specs.ValueRemap.{world_functions}

pub loop-index-preserved : goal.loop-index-preserved
loop-index-preserved c =
    let found = c.args.matches.now.worlds in
    let worlds : List World = c.args.other.now.worlds in
    let place : ℕ = c.loop-index.index in
    let before : List Function = seen c.loop-index.functions.items in
    let kept : ℕ × World → Bool = λ e. moves found e.0 in
    let its : ℕ × World → List Function = λ e. world_functions e.1 in
    let next : (x : World) → slice_get worlds place ≡ Some x → seen c.if-moves.functions.items ≡ before ++ of_kept kept its (place, x)
    → seen c.if-moves.functions.items ++ flat_map its (filter kept (enumerate_from (place + 1) (drop (place + 1) worlds))) ≡ seen c.args.functions.now.items ++ flat_map its (filter kept (enumerate_from 0 worlds)) =
    λ x at added.
    left-more (λ (es : List (ℕ × World)). flat_map its (filter kept es)) (of_kept kept its) (kept-first kept its) before (seen c.if-moves.functions.items) _ (enumerate_from place (drop place worlds)) (place, x) _
    (first_behind worlds place (place + 1) x refl at) c.loop-index.invariant added in
    let given : (x : World) (b : Bool) → moves found place ≡ b → of_kept kept its (place, x) ≡ (if b then world_functions x else []) = λ x b is. ap (λ (b : Bool). if b then world_functions x else []) is in
    let x : World = c.world-item.result in
    let read = slice_get_read c.as_slice-world-items.result.now _ place x refl c.loop-index-test.true c.world-item.is in
    let at : slice_get worlds place ≡ Some x = subst (λ (xs : List World). slice_get xs place ≡ Some x) c.as_slice-world-items.ensures read in
    elim c.if-moves.branch [
      | then-moves+in_ok-push_world w ↦
          next x at (ap (λ fs. seen fs.items) w.functions-is ∙ (w.in_ok-push_world.ensures ∙ ap (λ (fs : List Function). before ++ fs) (sym (given x true (sym c.moves.ensures ∙ w.if-moves.true)))))
      | else-moves w ↦
          next x at (ap (λ fs. seen fs.items) w.functions-is ∙ (sym (append-nil before) ∙ ap (λ (fs : List Function). before ++ fs) (sym (given x false (sym c.moves.ensures ∙ w.if-moves.false)))))
    ]
