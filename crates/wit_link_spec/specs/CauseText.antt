-- What the messages of refused additions say.
-- Source: wit-parser 0.263.0.
use Rattle.std.specs.Prelude.{ℕ, List, ◌++◌, codes}

-- 11: a reference to what is left out; sort is `type`, `interface` or `world`
abbrev pub excluded_text : List ℕ → List ℕ
excluded_text sort =
    codes "found a reference to a "
    ++ (sort ++ codes " which is excluded due to its feature not being activated")

-- 12: a type whose owner is left out; sort is `interface` or `world`
abbrev pub excluded_owner_text : List ℕ → List ℕ
excluded_owner_text sort =
    excluded_text sort
    ++ (codes "; this type is not gated by a feature but its " ++ (sort ++ codes " is"))

-- 17: two labels that are not strongly unique; list is `import` or `export`
abbrev pub clash_text : List ℕ → List ℕ → List ℕ → List ℕ → List ℕ
clash_text list n world m =
    list
    ++ (codes " `"
    ++ (n
    ++ (codes "` in world `"
    ++ (world
    ++ (codes "` conflicts with "
    ++ (list
    ++ (codes " `" ++ (m ++ codes "` (names must be strongly unique)"))))))))

-- 18: a setter without its getter; list is `import` or `export`
abbrev pub getter_text : List ℕ → List ℕ → List ℕ → List ℕ → List ℕ
getter_text list n world getter =
    list
    ++ (codes " `"
    ++ (n
    ++ (codes "` in world `"
    ++ (world ++ (codes "` has no corresponding getter `" ++ (getter ++ codes "`"))))))
