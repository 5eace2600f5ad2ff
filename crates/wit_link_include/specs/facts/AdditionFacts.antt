-- Worlds of a package, one after another, as causes of the addition have them. For the proofs of the crates above.
use Rattle.std.proofs.Common.{◌≡◌, ◌∙◌, ℕ, ◌+◌, List, [], ◌∷◌, filter, fold, map, take, Some, slice_get, refl, sym, ap, subst}
use Rattle.std.proofs.lemmas.List.Sums.{fold-append}
use Rattle.wit_values.specs.facts.Lists.{take-next_at}
use Rattle.wit_data.specs.declared.world.World.{World}
use Rattle.wit_data.specs.declared.world.WorldInclude.{WorldInclude}
use Rattle.wit_graph_data.specs.Error.{NoCause}
use Rattle.wit_graph_data.specs.declared.error_kind.ResolveErrorKind.{ResolveErrorKind}
use Rattle.wit_graph_data.specs.declared.graph.Graph.{Graph}
use Rattle.wit_graph_theory.specs.facts.ListFacts.{same_at}
use Rattle.wit_link_spec.specs.Added.{with_parts, with_world, with_worlds}
use Rattle.wit_link_spec.specs.Addition.{Addition, own_worlds, updated_includes}
use Rattle.wit_link_spec.specs.Cause.{IsAdditionCause, of_world}
use Rattle.wit_link_spec.specs.Reasons.{IsResolved}
use Rattle.wit_link_spec.specs.WorldReasons.{IsAcceptedAt, IsLabelCause, IsWorldCause, as_finished, of_image, of_labels, of_labels_alone}
use Rattle.wit_link_spec.specs.steps.Parts.{AtWorld, IncludeIsAccepted, IsReached, WorldIsAccepted, home_of, image_at, include_is_active, updated_include, with_including}

-- what is told of world k holds however it is looked at
one_world : (a : Addition) (k : ℕ) (at at' : AtWorld a k) (P : ℕ → World → Type 0) → P at.id at.world → P at'.id at'.world
one_world a k at at' P holds =
    let same : (at.id, at.world) ≡ (at'.id, at'.world) = same_at (own_worlds a) k k (at.id, at.world) (at'.id, at'.world) refl at.is at'.is in
    subst (λ (e : ℕ × World). P e.0 e.1) same holds

pub include_reached : (a : Addition) (k j : ℕ) (at : AtWorld a k) → IsAcceptedAt (home_of a) (with_worlds a k) (image_at a at.id at.world) (updated_includes a at.world) j → IncludeIsAccepted a k j
include_reached a k j at fine at' = one_world a k at at' (λ (w : ℕ) (world : World). IsAcceptedAt (home_of a) (with_worlds a k) (image_at a w world) (updated_includes a world) j) fine

-- why a world is refused as it comes next is a cause of the addition
pub world_cause : (a : Addition) (k : ℕ) (at : AtWorld a k) → IsResolved a → IsReached a k → (kind : ResolveErrorKind)
    → IsWorldCause (home_of a) (with_worlds a k) (image_at a at.id at.world) (updated_includes a at.world) kind → IsAdditionCause a kind
world_cause a k at image reached kind why = of_world k kind reached (of_image at.id at.world at.is image why)

none_listed : (j : ℕ) (include : WorldInclude) → slice_get [] j ≡ Some include → ⊥
none_listed j include found = cc

-- the labels of a world without includes are those that it is finished with
label_cause : (home : ℕ) (g : Graph) (world : World) (kind : ResolveErrorKind) → IsLabelCause world kind → IsWorldCause home g world [] kind
label_cause home g world kind why = as_finished (λ j include found. absurd (none_listed j include found)) (of_labels kind why)

-- and a world that is refused for nothing as it comes next is accepted
pub reached_accepted : (a : Addition) (k : ℕ) (at : AtWorld a k) → NoCause (IsWorldCause (home_of a) (with_worlds a k) (image_at a at.id at.world) (updated_includes a at.world)) → WorldIsAccepted a k
reached_accepted a k at fine kind (of_image w world is image why) =
    one_world a k at (record { id = w; world = world; is = is }) (λ (v : ℕ) (x : World). NoCause (IsWorldCause (home_of a) (with_worlds a k) (image_at a v x) (updated_includes a x))) fine kind why
reached_accepted a k at fine kind (of_labels_alone w world is none why) =
    let includes : updated_includes a world ≡ [] = ap (λ (l : List WorldInclude). map (updated_include a) (filter (include_is_active a.features) l)) none in
    one_world a k at (record { id = w; world = world; is = is }) (λ (v : ℕ) (x : World). NoCause (IsWorldCause (home_of a) (with_worlds a k) (image_at a v x) (updated_includes a x))) fine kind
    (subst (λ (l : List WorldInclude). IsWorldCause (home_of a) (with_worlds a k) (image_at a w world) l kind) (sym includes) (label_cause (home_of a) (with_worlds a k) (image_at a w world) kind why))

-- the next stage
pub next_stage : (a : Addition) (k : ℕ) (at : AtWorld a k) → with_worlds a (k + 1) ≡ with_including (home_of a) (with_worlds a k) (image_at a at.id at.world) (updated_includes a at.world)
next_stage a k at =
    ap (fold (with_world a) (with_parts a)) (take-next_at (own_worlds a) k (at.id, at.world) at.is) ∙ fold-append (with_world a) (with_parts a) (take k (own_worlds a)) ((at.id, at.world) ∷ [])
