-- The way of a type that comes along aliases: what is told of it, and what is noted.
use Rattle.std.proofs.Common.{◌≡◌, ◌∙◌, ◌<◌, inl, inr, ℕ, zero, suc, Bool, List, Option, None, Some, length, replicate, slice_get, slice_set, sym, ap}
use Rattle.wit_values.specs.facts.Lists.{set-cases}
use Rattle.wit_digraph.specs.PostOrder.{post_order}
use Rattle.wit_data.specs.declared.function.Function.{Function}
use Rattle.wit_data.specs.Uses.{alias_rows}
use Rattle.wit_remap_spec.specs.ValueRemap.{ValueRemap}
use Rattle.wit_link_resources.specs.declared.incoming.Incoming.{Incoming}
use Rattle.wit_link_resources.specs.steps.IncomingTypes.{AreTold, CanComeIn, IsRemap, IsRemapped, NamesNext, leads_in}
use Rattle.wit_link_resources.specs.facts.IncomingLeads.{leads_alias}
use Rattle.wit_link_resources.specs.facts.Leads.{walk_falls}
use Rattle.wit_graph_theory.specs.facts.AliasFacts.{alias_acyclic}

module _ (s : Incoming) (can : CanComeIn s) (known : List (Option Bool)) (t u : ℕ) (names : NamesNext s known t u) where
  pub next_remapped : IsRemapped s.ids.now u
  next_remapped = can.aliases t u names.2.0 names.1 names.2.1 names.2.2

  pub next_shorter : length (post_order (alias_rows s.types.now) u) < length (post_order (alias_rows s.types.now) t)
  next_shorter = walk_falls s.types.now (alias_acyclic s.types.now can.acyclic) t u names.2.0 names.2.1 names.2.2

  pub next_same : (functions : List Function) (r : ValueRemap) → IsRemap s functions r → leads_in r t ≡ leads_in r u
  next_same functions r is = leads_alias s.graph_types.now s.types.now s.ids.now can functions r is t u names.2.0 names.1 names.2.1 names.2.2

-- what is right of one type more
pub noted : (r : ValueRemap) (known new : List (Option Bool)) (t : ℕ) (answer : Bool) → new ≡ slice_set known t (Some answer) → leads_in r t ≡ answer → AreTold r known → AreTold r new
noted r known new t answer set_is right told x b at = elim (set-cases known t (Some answer) x (Some b) (ap (λ (l : List (Option Bool)). slice_get l x) (sym set_is) ∙ at)) [
  | inl here ↦ ap (leads_in r) here.0 ∙ (right ∙ one answer b here.1)
  | inr there ↦ told x b there
]
  where
    one : (a b : Bool) → Some b ≡ Some a → a ≡ b
    one a b same = cc

-- where nothing is known, nothing is wrong
none_known : (n t : ℕ) (o : Option Bool) → slice_get (replicate n None) t ≡ Some o → o ≡ None
none_known zero t o at = cc
none_known (suc n) zero o at = cc
none_known (suc n) (suc t) o at = none_known n t o at

pub nothing_told : (r : ValueRemap) (n : ℕ) (known : List (Option Bool)) → known ≡ replicate n None → AreTold r known
nothing_told r n known none t answer at = let is = none_known n t (Some answer) (ap (λ (l : List (Option Bool)). slice_get l t) (sym none) ∙ at) in cc
