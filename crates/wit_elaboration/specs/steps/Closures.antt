-- What rows of bits tell of what interfaces reach along uses. A row has 1,024 columns, in 16 words of 64 bits.
use Rattle.std.specs.Prelude.{◌≡◌, ℕ, ◌<◌, ◌≤◌, ◌*◌, ◌%◌, ◌↔◌, List, length, Contains, All, [], sum_by}
use Rattle.wit_digraph.specs.steps.Rows.{HasBit}
use Rattle.wit_digraph.specs.Relation.{direct, Reaches, IsAcyclic}
use Rattle.wit_digraph.specs.steps.PostOrder.{UsesFirst}
use Rattle.wit_elaboration.specs.declared.closure_rows.ClosureRows.{ClosureRows}

-- some bit is in both rows
abbrev pub HaveCommonBit : List ℕ → List ℕ → Type 0
HaveCommonBit one other = (i : ℕ) × HasBit one i × HasBit other i

-- ---- the closure

-- the column of an interface: those whose ids differ by a multiple of 1,024 share one
unfoldable pub column : ℕ → ℕ
column i = i % 1024

-- some node of column c is reached from i
abbrev pub ReachesColumn : List (List ℕ) → ℕ → ℕ → Type 0
ReachesColumn uses i c = (j : ℕ) × Reaches uses i j × (column j ≡ c)

-- a row has exactly the columns of what is reached from i
pub record IsRowOf (uses : List (List ℕ)) (row : List ℕ) (i : ℕ) : Type 0 where
  pub width : length row ≡ 16
  pub exact : (c : ℕ) → HasBit row c ↔ ReachesColumn uses i c

-- so has each of the rows
pub record AreRowsOfAll (uses : List (List ℕ)) (rows : List (List ℕ)) : Type 0 where
  pub long : length rows ≡ length uses
  pub each : (i : ℕ) → i < length uses → IsRowOf uses (direct rows i) i

-- an order has all nodes, each after what it uses
pub record IsOrder (uses : List (List ℕ)) (order : List ℕ) : Type 0 where
  pub all : (i : ℕ) → i < length uses → Contains order i
  pub in_range : All (λ i. i < length uses) order
  pub uses_first : UsesFirst uses [] order

-- a closure of a relation
pub record AreRowsOf (uses : List (List ℕ)) (made : ClosureRows) : Type 0 where
  pub rows : AreRowsOfAll uses made.rows
  pub order : IsOrder uses made.order
  pub marks : length uses ≤ 64 * length made.marks.items
  pub joins : made.joins ≡ sum_by length uses

-- the rows of a relation without cycles
pub record IsClosureOf (uses : List (List ℕ)) (made : ClosureRows) : Type 0 where
  pub acyclic : IsAcyclic uses
  pub rows : AreRowsOf uses made

-- ---- marks

-- from i a target is reached
abbrev pub ReachesTarget : List (List ℕ) → (ℕ → Type 0) → ℕ → Type 0
ReachesTarget uses Target i = (t : ℕ) × Reaches uses i t × Target t

-- of the members of an order, those that reach a target are marked, and no other node is
pub record IsMarkRow (uses : List (List ℕ)) (order : List ℕ) (Target : ℕ → Type 0)
    (marks : List ℕ) : Type 0 where
  pub sound : (i : ℕ) → HasBit marks i → ReachesTarget uses Target i
  pub complete : (i : ℕ) → Contains order i → ReachesTarget uses Target i → HasBit marks i

-- some direct use of i passes a test
abbrev pub HasUse : List (List ℕ) → (ℕ → Type 0) → ℕ → Type 0
HasUse uses P i = (d : ℕ) × Contains (direct uses i) d × P d

-- a row has exactly the columns of some nodes
abbrev pub HasColumnsOf : List ℕ → List ℕ → Type 0
HasColumnsOf nodes columns =
    (c : ℕ) → HasBit columns c ↔ ((j : ℕ) × Contains nodes j × (column j ≡ c))

-- i uses one that isn't exported and whose row has one of the columns
abbrev pub MayNeed : List (List ℕ) → List (List ℕ) → List ℕ → List ℕ → ℕ → Type 0
MayNeed uses rows exported columns i =
    HasUse uses (λ d. (Contains exported d → ⊥) × HaveCommonBit (direct rows d) columns) i
