use Rattle.std.proofs.Common.{◌≡◌, ◌∙◌, ◌++◌, ◌∷◌, [], ℕ, List, Some, slice_get, take, refl, sym, ap, subst, if◌then◌else◌}
use Rattle.std.specs.List.{list_any}
use Rattle.std.specs.Str.{bytes_eq}
use Rattle.std.proofs.lemmas.Option.{slice_get_read}
use Rattle.wit_values.specs.facts.Lists.{take-next_at}
use Rattle.wit_resolve_graph.proofs.ListedKeys.{one_more}
use Rattle.wit_resolve_graph.proofs.transformations.set_of.Goals as goal

pub loop-text-preserved : goal.loop-text-preserved
loop-text-preserved c other =
    let items = c.as_slice-text-items.result.now in
    let i = c.loop-text.text-index in
    let text = c.text-item.result in
    let set : List (List ℕ) = c.loop-text.set in
    let at : slice_get items i ≡ Some text = slice_get_read items _ i text refl c.loop-text-test.true c.text-item.is in
    let is = c.in_ok-insert.ensures.ok ∙ ap (λ (t : List ℕ). if list_any (bytes_eq t) set then set else set ++ t ∷ []) c.as_str.ensures in
    subst (λ (xs : List (List ℕ)). list_any (bytes_eq other) c.insert.new.self ≡ list_any (bytes_eq other) xs) (sym (take-next_at items i text at))
    (one_more (take i items) text set c.insert.new.self c.loop-text.invariant is other)
