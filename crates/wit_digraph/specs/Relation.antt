-- Which thing uses which, as adjacency lists: list i lists the direct uses of node i, in order, with repeats.
-- Nodes are numbered things, as interfaces, types or packages; the number of rows is the number of nodes.
use Rattle.std.specs.Prelude.{◌≡◌, ℕ, ◌<◌, List, [], ◌∷◌, length, Contains, All, slice_index_or}

-- the direct uses of node i, none where there is no such node
abbrev pub direct : List (List ℕ) → ℕ → List ℕ
direct uses i = slice_index_or uses i []

-- the members of `path` lead from i to j: each is a direct use of the one before, the first a direct
-- use of i, and the last is j (with no member, i is j)
abbrev pub IsPath : List (List ℕ) → ℕ → List ℕ → ℕ → Type 0
IsPath uses i [] j = i ≡ j
IsPath uses i (k ∷ path) j = Contains (direct uses i) k × IsPath uses k path j

-- some path leads from i to j
abbrev pub Reaches : List (List ℕ) → ℕ → ℕ → Type 0
Reaches uses i j = (path : List ℕ) × IsPath uses i path j

-- every use is of a node that is there
abbrev pub IsInRange : List (List ℕ) → Type 0
IsInRange uses = (i : ℕ) → All (λ j. j < length uses) (direct uses i)

-- every use is of a node that is there, and no path leads from a node by its uses back to it
pub record IsAcyclic (uses : List (List ℕ)) : Type 0 where
  pub in_range : IsInRange uses
  pub no_cycle : (i k : ℕ) (path : List ℕ) → IsPath uses i (k ∷ path) i → ⊥
