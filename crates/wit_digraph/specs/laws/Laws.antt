-- Laws of walks, over every acyclic relation.
use Rattle.std.specs.Prelude.{◌≡◌, ℕ, ◌<◌, ◌↔◌, List, [], ◌∷◌, ◌++◌, length, nat_eq, Contains, All, flat_map}
use Rattle.std.specs.List.{IsDistinct}
use Rattle.wit_digraph.specs.Relation.{direct, Reaches, IsAcyclic}
use Rattle.wit_digraph.specs.PostOrder.{post_order, first_of_each}
use Rattle.wit_digraph.specs.steps.PostOrder.{UsesFirst}

-- a post-order is the post-orders of the direct uses in order, then the node
abbrev pub PostOrdersUnfold : Type 0
PostOrdersUnfold = (uses : List (List ℕ)) (i : ℕ) → IsAcyclic uses → i < length uses →
    post_order uses i ≡ flat_map (post_order uses) (direct uses i) ++ i ∷ []

-- what the post-orders of some roots list is exactly what is reached from a root
abbrev pub PostOrdersReach : Type 0
PostOrdersReach =
    (uses : List (List ℕ)) (roots : List ℕ) (j : ℕ) → IsAcyclic uses
    → All (λ i. i < length uses) roots →
    Contains (first_of_each (flat_map (post_order uses) roots)) j
    ↔ ((i : ℕ) × Contains roots i × Reaches uses i j)

-- and each direct use of what they list stands before it
abbrev pub PostOrdersKeepOrder : Type 0
PostOrdersKeepOrder =
    (uses : List (List ℕ)) (roots : List ℕ) → IsAcyclic uses → All (λ i. i < length uses) roots →
    UsesFirst uses [] (first_of_each (flat_map (post_order uses) roots))

-- the first of each member has the same members, each once
pub record FirstsAreOnce (xs : List ℕ) : Type 0 where
  pub distinct : IsDistinct nat_eq (first_of_each xs)
  pub same_members : (x : ℕ) → Contains (first_of_each xs) x ↔ Contains xs x
