-- What an include makes where its world is there and where it isn't; the worlds of a graph stay. For the proofs of this
-- crate and of those above.
use Rattle.std.proofs.Common.{◌≡◌, ◌∙◌, ℕ, List, [], ◌∷◌, fold, length, Option, None, Some, slice_get, refl, ap}
use Rattle.std.specs.Option.{option_map_or}
use Rattle.wit_data.specs.declared.world.World.{World}
use Rattle.wit_data.specs.declared.world.WorldInclude.{WorldInclude}
use Rattle.wit_link_spec.specs.Include.{PartiallyLinked, with_world_included}
use Rattle.wit_link_spec.specs.steps.Parts.{with_one}

pub some_is : (home : ℕ) (b : PartiallyLinked) (include : WorldInclude) (old : World) → slice_get b.graph.worlds include.id ≡ Some old → with_one home b include ≡ with_world_included home (length b.graph.worlds) include.names include.id old b
some_is home b include old at = ap (λ (o : Option World). option_map_or (λ (w : World). with_world_included home (length b.graph.worlds) include.names include.id w b) o b) at

pub none_is : (home : ℕ) (b : PartiallyLinked) (include : WorldInclude) → slice_get b.graph.worlds include.id ≡ None → with_one home b include ≡ b
none_is home b include at = ap (λ (o : Option World). option_map_or (λ (w : World). with_world_included home (length b.graph.worlds) include.names include.id w b) o b) at

pub one_worlds : (home : ℕ) (b : PartiallyLinked) (include : WorldInclude) → (with_one home b include).graph.worlds ≡ b.graph.worlds
one_worlds home b include = by (slice_get b.graph.worlds include.id) refl
  where
    by : (o : Option World) → slice_get b.graph.worlds include.id ≡ o → (with_one home b include).graph.worlds ≡ b.graph.worlds
    by None at = ap (λ (x : PartiallyLinked). x.graph.worlds) (none_is home b include at)
    by (Some old) at = ap (λ (x : PartiallyLinked). x.graph.worlds) (some_is home b include old at)

pub several_worlds : (home : ℕ) (includes : List WorldInclude) (b : PartiallyLinked) → (fold (with_one home) b includes).graph.worlds ≡ b.graph.worlds
several_worlds home [] b = refl
several_worlds home (include ∷ includes) b = several_worlds home includes (with_one home b include) ∙ one_worlds home b include
