-- The post-order of a node: the post-orders of its direct uses, in order, then the node; and the first of each member.
use Rattle.std.specs.Prelude.{ℕ, zero, suc, List, [], ◌∷◌, ◌++◌, length, nat_eq, if◌then◌else◌, flat_map}
use Rattle.std.specs.List.{list_any}
use Rattle.wit_digraph.specs.Relation.{direct}

-- the post-orders of i's direct uses in order, then i, along paths of at most `members` members
unfoldable pub post_order_within : List (List ℕ) → ℕ → ℕ → List ℕ
post_order_within uses zero i = []
post_order_within uses (suc members) i =
    flat_map (post_order_within uses members) (direct uses i) ++ i ∷ []

-- the post-orders of i's direct uses in order, then i: where uses are acyclic, no path has more members
-- than there are nodes, so nothing is cut off (the law `PostOrdersUnfold` says so)
unfoldable pub post_order : List (List ℕ) → ℕ → List ℕ
post_order uses i = post_order_within uses (length uses) i

-- the members of a list that are not among those seen, each where it comes first
abbrev pub fresh : List ℕ → List ℕ → List ℕ
fresh seen [] = []
fresh seen (x ∷ xs) =
    if list_any (nat_eq x) seen then fresh seen xs else x ∷ fresh (seen ++ x ∷ []) xs

-- the first of each member
abbrev pub first_of_each : List ℕ → List ℕ
first_of_each xs = fresh [] xs
