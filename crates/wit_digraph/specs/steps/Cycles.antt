-- Words of inner contracts and proofs, beside `Cycles`.
use Rattle.std.specs.Prelude.{◌≡◌, ℕ, List, ◌∷◌, Contains, slice_index_or}
use Rattle.wit_digraph.specs.Relation.{direct, IsPath}
use Rattle.wit_digraph.specs.declared.cycle.Mark.{Mark}
use Rattle.wit_digraph.specs.declared.cycle.Mark.TheVariants.{Unseen, Open, Done}

-- the mark of node i
abbrev pub mark_of : List Mark → ℕ → Mark
mark_of marks i = slice_index_or marks i Unseen

-- what a node that is done uses is done, and none of them is on a cycle
pub record DoneAreClear (uses : List (List ℕ)) (marks : List Mark) : Type 0 where
  pub closed : (i j : ℕ) → mark_of marks i ≡ Done → Contains (direct uses i) j
      → mark_of marks j ≡ Done
  pub no_cycle : (i k : ℕ) (path : List ℕ) → mark_of marks i ≡ Done → IsPath uses i (k ∷ path) i → ⊥

-- no search is running: each node is done or was not met
pub record IsFinished (uses : List (List ℕ)) (marks : List Mark) : Type 0 where
  pub clear : DoneAreClear uses marks
  pub none_open : (i : ℕ) → mark_of marks i ≡ Open → ⊥

-- what a search from a root that finds no cycle leaves: the root is done, and what was done before
pub record Finishes (uses : List (List ℕ)) (old new : List Mark) (root : ℕ) : Type 0 where
  pub settled : IsFinished uses new
  pub root_done : mark_of new root ≡ Done
  pub kept : (i : ℕ) → mark_of old i ≡ Done → mark_of new i ≡ Done
