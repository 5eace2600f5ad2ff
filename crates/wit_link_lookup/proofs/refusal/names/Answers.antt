use Rattle.std.proofs.Common.{◌++◌, ◌∷◌, [], ap, sym, ◌∙◌, append_assoc}
use Rattle.std.proofs.lemmas.List.{append-nil}
use Rattle.std.proofs.lemmas.Map.Iter.{rest_more, rest_all}
use Rattle.std.specs.Map.{keys_of}
use Rattle.std.specs.Map.Iter.{deref_pair}
use Rattle.wit_link_lookup.proofs.refusal.names.Goals as goal

pub loop-name-preserved : goal.loop-name-preserved
loop-name-preserved c =
    let more = rest_more deref_pair _ _ _ _ c.in-Some.is c.next.ensures.steps in
    rw (c.in_ok-push.ensures.ok, c.in_ok-try_clone.ensures)
    (append_assoc c.loop-name.names (c.in-Some.name.now ∷ []) (keys_of c.next.new.self) ∙ ap (λ l. c.loop-name.names ++ keys_of l) (sym more) ∙ c.loop-name.invariant)

pub returns : goal.returns
returns c =
    let none = rest_all deref_pair _ _ _ c.in-None.is c.next.ensures.steps in
    sym (append-nil c.loop-name.names) ∙ ap (λ l. c.loop-name.names ++ keys_of l) (sym none) ∙ c.loop-name.invariant
