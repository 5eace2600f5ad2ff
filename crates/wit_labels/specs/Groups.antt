-- The groups in brackets with which a label of a world may begin, as `[method]` and `[get]` of `[method][get]r.p`.
-- Source: the component names of the component model.
use Rattle.std.specs.Prelude.{ℕ, zero, suc, ◌==◌, ◌&&◌, Bool, List, [], ◌∷◌, ◌++◌, length, drop, slice_index, if◌then◌else◌}
use Rattle.std.specs.List.{list_any, concat, before_first, after_first}

-- does a text begin with an opening bracket, 91?
abbrev pub begins_group : List ℕ → Bool
begins_group text = slice_index text 0 == 91

-- the groups in brackets with which a text begins, of so many at most; 93 is the closing bracket
abbrev pub groups_within : ℕ → List ℕ → List (List ℕ)
groups_within zero text = []
groups_within (suc n) text =
    if begins_group text && list_any (λ b. b == 93) text
    then (before_first (λ b. b == 93) text ++ 93 ∷ [])
    ∷ groups_within n (after_first (λ b. b == 93) text)
    else []

-- the groups in brackets with which a label begins; there are no more of them than bytes
abbrev pub groups_of : List ℕ → List (List ℕ)
groups_of label = groups_within (length label) label

-- what follows them
abbrev pub rest_of : List ℕ → List ℕ
rest_of label = drop (length (concat (groups_of label))) label
