-- Cycles along uses, and how far a search for one has come.
use Rattle.std.specs.Prelude.{ℕ, List, Contains}
use Rattle.wit_digraph.specs.Relation.{direct, Reaches}

-- a use on a cycle: `user` uses `used` directly, and some path leads from `used` back to `user`
pub record IsOnCycle (uses : List (List ℕ)) (user used : ℕ) : Type 0 where
  pub is_used : Contains (direct uses user) used
  pub leads_back : Reaches uses used user
