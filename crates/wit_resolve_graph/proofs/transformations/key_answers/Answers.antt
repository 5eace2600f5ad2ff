use Rattle.std.proofs.Common.{◌∙◌, sym}
use Rattle.std.proofs.lemmas.List.{length_push}
use Rattle.std.proofs.lemmas.Map.Iter.{iter_turn}
use Rattle.std.specs.Map.Iter.{deref_pair}
use Rattle.wit_values.specs.facts.Lists.{map-next}
use Rattle.wit_elaboration.specs.Entries.{Entry}
use Rattle.wit_resolve_graph.proofs.transformations.key_answers.Goals as goal
use Rattle.wit_resolve_graph.specs.steps.Parts.{is_listed_key}

pub loop-key-preserved : goal.loop-key-preserved
loop-key-preserved c =
    let turn = iter_turn deref_pair c.args.imports.now c.loop-key.yielded _ _ _ _ (c.into_iter-key-iterator.ensures.into_iter_gives ∙ c.iter-key-items.ensures.rest) c.loop-key.yielded_by _ c.in-Some.is c.next.ensures.steps in
    rw (length_push, c.in_ok-push.ensures.ok, c.loop-key.invariant, c.in_ok-is_listed.ensures.ok) (sym (map-next (λ (e : Entry). is_listed_key c.args.graph.now c.args.keys.now e.0) _ _ _ turn.1))
