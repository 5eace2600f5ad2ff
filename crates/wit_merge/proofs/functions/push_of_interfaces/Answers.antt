use Rattle.std.proofs.Common.{◌≡◌, ◌∙◌, ◌∷◌, ◌+◌, ℕ, suc, List, Some, drop, map, refl, slice_get, ap, arith, subst}
use Rattle.std.proofs.lemmas.Option.{slice_get_read}
use Rattle.std.specs.List.{flat_map}
use Rattle.wit_data.specs.declared.function.Function.{Function}
use Rattle.wit_data.specs.declared.interface.Interface.{Interface}
use Rattle.wit_link_resources.specs.steps.Active.{seen}
use Rattle.wit_link_spec.specs.facts.DropFacts.{drop_at}
use Rattle.wit_merge.proofs.Left.{left-more}
use Rattle.wit_merge.proofs.functions.push_of_interfaces.Goals as goal

pub loop-interface-preserved : goal.loop-interface-preserved
loop-interface-preserved c =
    let interfaces : List Interface = c.args.interfaces.now in
    let place : ℕ = c.loop-interface.interface-index in
    let x : Interface = c.interface-item.result in
    let read = slice_get_read c.as_slice-interface-items.result.now _ place x refl c.loop-interface-test.true c.interface-item.is in
    let at : slice_get interfaces place ≡ Some x = subst (λ (xs : List Interface). slice_get xs place ≡ Some x) c.as_slice-interface-items.ensures read in
    let its : Interface → List Function = (λ (interface : Interface). map (λ (e : List ℕ × Function). e.1) interface.functions) in
    let next : suc place ≡ place + 1 = omega arith in
    let first = drop_at interfaces place x at ∙ ap (λ (i : ℕ). x ∷ drop i interfaces) next in
    left-more (flat_map its) its (λ e es. refl) (seen c.loop-interface.functions.items) (seen c.push_all.new.functions.items) _ (drop place interfaces) x (drop (place + 1) interfaces) first c.loop-interface.invariant c.in_ok-push_all.ensures
