-- Worked rows: what the definitions say of small relations.
use Rattle.std.specs.Prelude.{◌≡◌, ℕ, List, [], ◌∷◌}
use Rattle.wit_digraph.specs.Relation.{Reaches, IsAcyclic}
use Rattle.wit_digraph.specs.PostOrder.{post_order, first_of_each}
use Rattle.wit_digraph.specs.steps.PostOrder.{UsesFirst}
use Rattle.wit_digraph.specs.Cycles.{IsOnCycle}

-- 1 uses 0; 2 uses 0 and 1
abbrev pub stairs : List (List ℕ)
stairs = [] ∷ (0 ∷ []) ∷ (0 ∷ 1 ∷ []) ∷ []

-- the same, but 0 uses 2; and 3 uses 0
abbrev pub ring : List (List ℕ)
ring = (2 ∷ []) ∷ (0 ∷ []) ∷ (0 ∷ 1 ∷ []) ∷ (0 ∷ []) ∷ []

pub record ExamplesOfPaths : Type 0 where
  pub down : Reaches stairs 2 0
  pub itself : Reaches stairs 0 0
  pub not_up : Reaches stairs 0 2 → ⊥
  pub not_past : Reaches stairs 0 3 → ⊥

pub record ExamplesOfCycles : Type 0 where
  pub none : IsAcyclic stairs
  pub some : IsAcyclic ring → ⊥
  pub own_use : IsAcyclic ((0 ∷ []) ∷ []) → ⊥
  pub no_such_node : IsAcyclic ((1 ∷ []) ∷ []) → ⊥
  pub on_it : IsOnCycle ring 2 1
  pub leads_to_it : IsOnCycle ring 3 0 → ⊥
  pub no_use : IsOnCycle ring 0 1 → ⊥

pub record ExamplesOfPostOrders : Type 0 where
  pub with_repeats : post_order stairs 2 ≡ 0 ∷ 0 ∷ 1 ∷ 2 ∷ []
  pub once : first_of_each (post_order stairs 2) ≡ 0 ∷ 1 ∷ 2 ∷ []
  pub uses_first : UsesFirst stairs [] (0 ∷ 1 ∷ 2 ∷ [])
  pub user_first : UsesFirst stairs [] (1 ∷ 0 ∷ 2 ∷ []) → ⊥
  pub use_left_out : UsesFirst stairs [] (0 ∷ 2 ∷ []) → ⊥
