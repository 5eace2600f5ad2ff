-- Words of inner contracts and proofs, beside `PostOrder`.
use Rattle.std.specs.Prelude.{◌↔◌, ℕ, ◌<◌, ◌≤◌, ◌*◌, List, [], ◌∷◌, ◌++◌, length, Contains, All}
use Rattle.wit_digraph.specs.Relation.{direct}
use Rattle.wit_digraph.specs.steps.Rows.{HasBit}

-- each member's direct uses are among those seen, or stand before it
abbrev pub UsesFirst : List (List ℕ) → List ℕ → List ℕ → Type 0
UsesFirst uses seen [] = Unit {0}
UsesFirst uses seen (i ∷ rest) =
    All (Contains seen) (direct uses i) × UsesFirst uses (seen ++ i ∷ []) rest

-- what a listing of nodes is: how many nodes there are, and the order of those that are listed
pub record Listed : Type 0 where
  pub nodes : ℕ
  pub order : List ℕ

-- the bits of the marks tell which nodes are listed, and no other is
pub record AreMarksOf (nodes : ℕ) (marks order : List ℕ) : Type 0 where
  pub enough : nodes ≤ 64 * length marks
  pub each : (i : ℕ) → HasBit marks i ↔ Contains order i
  pub in_range : All (λ i. i < nodes) order
