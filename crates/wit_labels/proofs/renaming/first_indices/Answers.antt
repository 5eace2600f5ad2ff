use Rattle.std.proofs.Common.{◌≡◌, ◌∙◌, ◌+◌, ◌++◌, ◌∷◌, [], ℕ, List, Some, true, ap, refl, slice_get, sym, subst, is_some, string_bytes, rules}
use Rattle.std.proofs.lemmas.Option.{slice_get_read}
use Rattle.std.specs.Map.{lookup}
use Rattle.std.specs.Str.{bytes_eq}
use Rattle.wit_data.specs.declared.world.IncludeName.{IncludeName}
use Rattle.wit_labels.proofs.FirstSteps.{TellsSoFar, tells-new, tells-old}
use Rattle.wit_labels.proofs.renaming.first_indices.Goals as goal
use Rattle.wit_labels.proofs.renaming.first_indices.Goals.{then-not-contains_key+in_ok-from_str+in_ok-push, else-not-contains_key}

pub loop-index-preserved : goal.loop-index-preserved
loop-index-preserved c =
    let name = c.name-item.result in
    let i = c.loop-index.index in
    let at : slice_get c.args.names.now i ≡ Some name =
    subst (λ (names : List IncludeName). slice_get names i ≡ Some name) c.as_slice-name-items.ensures (slice_get_read c.as_slice-name-items.result.now _ i name refl c.loop-index-test.true c.name-item.is) in
    elim c.if-not-contains_key.branch [
      | then-not-contains_key+in_ok-from_str+in_ok-push w ↦
          let key : string_bytes w.in_ok-from_str.field-0 ≡ name.name = search rules in
          let table : c.if-not-contains_key.firsts ≡ c.loop-index.firsts ++ (name.name, i) ∷ [] =
          w.firsts-is ∙ w.in_ok-push.ensures.ok ∙ ap (λ (k : List ℕ). c.loop-index.firsts ++ (k, i) ∷ []) key in
          subst (TellsSoFar c.args.names.now (i + 1)) (sym table) (tells-new c.args.names.now i name at c.loop-index.firsts c.loop-index.invariant)
      | else-not-contains_key w ↦
          let there : is_some (lookup (bytes_eq name.name) c.loop-index.firsts) ≡ true = search rules in
          subst (TellsSoFar c.args.names.now (i + 1)) (sym w.firsts-is) (tells-old c.args.names.now i name at c.loop-index.firsts there c.loop-index.invariant)
    ]
