use Rattle.std.proofs.Common.{◌∙◌, ◌++◌, ◌∷◌, [], None, ap, sym}
use Rattle.wit_link_spec.specs.facts.RangeFacts.{range-next}
use Rattle.wit_link_lookup.proofs.foreign.nothing.Goals as goal

pub loop-index-preserved : goal.loop-index-preserved
loop-index-preserved g c = c.in_ok-push.ensures.ok ∙ ap (λ l. l ++ None ∷ []) c.loop-index.invariant ∙ sym (range-next (λ _. None) c.loop-index._index)
