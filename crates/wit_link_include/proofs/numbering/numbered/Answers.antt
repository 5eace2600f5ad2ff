use Rattle.std.proofs.Common.{◌≡◌, ◌∙◌, ◌++◌, ◌∷◌, ◌+◌, [], ℕ, List, Some, Contains, length, take, nat_eq, refl, slice_get, sym, ap, subst}
use Rattle.std.proofs.lemmas.Option.{slice_get_read}
use Rattle.std.specs.Map.{lookup}
use Rattle.wit_values.specs.facts.Lists.{take-next_at}
use Rattle.wit_link_include.specs.steps.Included.{numbered}
use Rattle.wit_link_include.proofs.RisingIds.{length_first, new_there, numbered-none, numbered-push}
use Rattle.wit_link_include.proofs.numbering.numbered.Goals as goal

pub push-requires : goal.push-requires
push-requires g c =
    let ids : List ℕ = c.args.ids.now in
    let i : ℕ = c.loop-place.place in
    let x : ℕ = c.index-ids-place.result in
    let key : ℕ = c.in_ok-try_clone.field-0 in
    let at : slice_get ids i ≡ Some x = slice_get_read ids _ i x refl c.loop-place-test.true c.index-ids-place.is in
    ap (lookup (nat_eq key)) c.loop-place.invariant
    ∙ numbered-none c.args.first (take i ids) key (λ has. new_there ids i x c.requires.rising at (subst (λ (k : ℕ). Contains (take i ids) k) c.in_ok-try_clone.ensures has))

pub loop-place-preserved : goal.loop-place-preserved
loop-place-preserved g c =
    let ids : List ℕ = c.args.ids.now in
    let i : ℕ = c.loop-place.place in
    let x : ℕ = c.index-ids-place.result in
    let at : slice_get ids i ≡ Some x = slice_get_read ids _ i x refl c.loop-place-test.true c.index-ids-place.is in
    let long : length (take i ids) ≡ i = length_first ids i x at in
    let old : List (ℕ × ℕ) = numbered c.args.first (take i ids) in
    c.in_ok-push.ensures.ok
    ∙ (ap (λ (t : List (ℕ × ℕ)). t ++ (c.in_ok-try_clone.field-0, c.from_index.result) ∷ []) c.loop-place.invariant
    ∙ (ap (λ (k : ℕ). old ++ (k, c.from_index.result) ∷ []) c.in_ok-try_clone.ensures
    ∙ (ap (λ (k : ℕ). old ++ (x, k) ∷ []) (c.from_index.ensures ∙ ap (λ (k : ℕ). c.args.first + k) (sym long))
    ∙ sym (ap (numbered c.args.first) (take-next_at ids i x at) ∙ numbered-push c.args.first (take i ids) x))))
