use Rattle.std.proofs.Common.{◌∙◌, ◌++◌, ◌∷◌, [], ap, sym, append_assoc}
use Rattle.std.proofs.lemmas.List.{append-nil}
use Rattle.std.proofs.lemmas.Map.Iter.{rest_more, rest_all}
use Rattle.std.specs.Map.{values_of}
use Rattle.std.specs.Map.Iter.{deref_pair}
use Rattle.wit_link.proofs.name_order.values_of.Goals as goal

pub loop-place-preserved : goal.loop-place-preserved
loop-place-preserved c =
    let more = rest_more deref_pair _ _ _ _ c.in-Some.is c.next.ensures.steps in
    rw c.in_ok-push.ensures.ok
    (append_assoc c.loop-place.values (c.in-Some.place.now ∷ []) (values_of c.next.new.self) ∙ ap (λ l. c.loop-place.values ++ values_of l) (sym more) ∙ c.loop-place.invariant)

pub returns : goal.returns
returns c =
    let none = rest_all deref_pair _ _ _ c.in-None.is c.next.ensures.steps in
    sym (append-nil c.loop-place.values) ∙ ap (λ l. c.loop-place.values ++ values_of l) (sym none) ∙ c.loop-place.invariant
