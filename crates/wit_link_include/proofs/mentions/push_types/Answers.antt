use Rattle.std.proofs.Common.{ℕ, List, map, refl}
use Rattle.std.proofs.lemmas.Map.Iter.{rest_more, rest_all}
use Rattle.wit_values.specs.Names.{deref_named}
use Rattle.wit_link_include.proofs.Steps.{map_more, nothing_left}
use Rattle.wit_link_include.proofs.mentions.push_types.Goals as goal

pub loop-id-preserved : goal.loop-id-preserved
loop-id-preserved c =
    map_more (λ (e : List ℕ × ℕ). e.1) c.loop-id.ids c.push.new.self _ _ _ _ (rest_more deref_named _ _ _ _ c.in-Some.is c.next.ensures.steps) c.loop-id.invariant c.in_ok-push.ensures.ok

pub returns : goal.returns
returns c =
    nothing_left (map (λ (e : List ℕ × ℕ). e.1)) c.loop-id.ids _ _ (rest_all deref_named _ _ _ c.in-None.is c.next.ensures.steps) refl c.loop-id.invariant
