use Rattle.std.proofs.Common.{◌≡◌, ◌∙◌, ◌++◌, ℕ, List, append_assoc, ap, sym, filter, refl}
use Rattle.std.proofs.lemmas.List.Elements.{filter-append}
use Rattle.std.specs.Map.Iter.{deref_pair}
use Rattle.std.proofs.lemmas.Map.Iter.{rest_more, rest_all}
use Rattle.wit_data.specs.Entries.{Entry, interfaces_of_entries, is_unnamed, item_interface}
use Rattle.wit_link_include.proofs.Steps.{nothing_left}
use Rattle.wit_link_include.proofs.belonging.push_unnamed.Goals as goal

pub loop-item-preserved : goal.loop-item-preserved
loop-item-preserved c =
    let p = is_unnamed c.args.graph.now.interfaces in
    let new : List ℕ = item_interface c.in-Some.item.now in
    let others : List ℕ = interfaces_of_entries c.next.new.self in
    let left : interfaces_of_entries c.loop-item.item-iterator ≡ new ++ others = ap (λ (es : List Entry). interfaces_of_entries es) (rest_more deref_pair _ _ _ _ c.in-Some.is c.next.ensures.steps) in
    ap (λ (w : List ℕ). w ++ filter p others) c.in_ok-push_if_unnamed.ensures
    ∙ (append_assoc c.loop-item.ids (filter p new) (filter p others)
    ∙ (ap (λ (w : List ℕ). c.loop-item.ids ++ w) (sym (ap (filter p) left ∙ filter-append p new others)) ∙ c.loop-item.invariant))

pub returns : goal.returns
returns c =
    nothing_left (λ (es : List Entry). filter (is_unnamed c.args.graph.now.interfaces) (interfaces_of_entries es)) c.loop-item.ids _ _
    (rest_all deref_pair _ _ _ c.in-None.is c.next.ensures.steps) refl c.loop-item.invariant
