-- Ways along arrows, from a name to one of some goals.
use Rattle.std.specs.Prelude.{◌≡◌, ◌↔◌, ℕ, ◌||◌, not, Bool, true, List, [], ◌∷◌, ◌++◌, Contains, codes, flat_map, bytes_eq}
use Rattle.std.specs.List.{list_any}
use Rattle.wit_ways.specs.declared.arrow.Arrow.{Arrow}

abbrev pub is_among : List (List ℕ) → List ℕ → Bool
is_among names name = list_any (bytes_eq name) names

-- arrows lead from one name to another, each from where the one before it ends: whether something that is no goal was met
-- before them, and whether it was after them
abbrev pub IsWay : List Arrow → List (List ℕ) → List ℕ → Bool → List Arrow → List ℕ → Bool → Type 0
IsWay arrows goals name met [] end met_then = (name ≡ end) × (met ≡ met_then)
IsWay arrows goals name met (a ∷ way) end met_then =
    Contains arrows a × (a.from ≡ name)
    × IsWay arrows goals a.to (met || not (is_among goals a.to)) way end met_then

-- a way of one arrow or more to a goal, past something that is none; no arrow where there is no such way
abbrev pub IsChosen : List Arrow → List (List ℕ) → List ℕ → Bool → List Arrow → Type 0
IsChosen arrows goals name met [] =
    (a : Arrow) (way : List Arrow) (end : List ℕ) → IsWay arrows goals name met (a ∷ way) end true
    → is_among goals end ≡ true → ⊥
IsChosen arrows goals name met (a ∷ way) =
    (end : List ℕ) × IsWay arrows goals name met (a ∷ way) end true × (is_among goals end ≡ true)

-- a way that leads back to where it begins
abbrev pub IsRound : List Arrow → List ℕ → List Arrow → Type 0
IsRound arrows name way = IsChosen arrows (name ∷ []) name true way

-- these names are all to which a way of one arrow or more leads from one
abbrev pub AreReached : List Arrow → List ℕ → List (List ℕ) → Type 0
AreReached arrows from names =
    (name : List ℕ)
    → (is_among names name ≡ true)
    ↔ ((a : Arrow) × (way : List Arrow) × IsWay arrows [] from true (a ∷ way) name true)

-- `A -> B -> .. -> C`
abbrev pub way_names : List Arrow → List ℕ
way_names [] = []
way_names (a ∷ way) = a.from ++ flat_map (λ (step : Arrow). codes " -> " ++ step.to) (a ∷ way)
