-- The way of exports in conflict (4): past what isn't exported to what is.
use Rattle.std.specs.Prelude.{◌≡◌, ◌⊎◌, ◌<◌, ℕ, false, List, [], ◌∷◌, ◌++◌, length, filter_map, Option, None, Some, if◌then◌else◌, fold}
use Rattle.wit_resolve_graph.specs.State.{State}
use Rattle.wit_sources.specs.Span.{OptionalSpan}
use Rattle.wit_ways.specs.Asked.{chosen_keys, coming_includes, coming_worlds, known_arrows}
use Rattle.wit_ways.specs.Includes.{included_labels}
use Rattle.wit_ways.specs.Ways.{AreReached, IsChosen, is_among}
use Rattle.wit_ways.specs.Worlds.{label_text, world_at}
use Rattle.wit_ways.specs.declared.arrow.Arrow.{Arrow}
use Rattle.wit_ways.specs.declared.asked.Asked.{Asked}
use Rattle.wit_ways.specs.declared.include.Include.{Include}
use Rattle.wit_ways.specs.declared.world_name.WorldName.{WorldName}

-- ---- what is exported

-- these names, and one more where it isn't among them
abbrev pub with_name : List (List ℕ) → List ℕ → List (List ℕ)
with_name names name = if is_among names name then names else names ++ name ∷ []

-- what stands under these labels, each once
abbrev pub exported_by : List (List ℕ) → List Arrow → List (List ℕ)
exported_by labels arrows =
    fold with_name []
    (filter_map (λ (a : Arrow). if is_among labels a.from then Some a.to else None) arrows)

-- a label, and those of included worlds that it is
abbrev pub AreSameLabels : List Arrow → List ℕ → List (List ℕ) → Type 0
AreSameLabels included start labels =
    (former : List (List ℕ)) × AreReached included start former × (labels ≡ with_name former start)

-- what a world exports under own keys, itself or by a world that it includes, by its empty label
abbrev pub AreExports : List Include → List Arrow → List ℕ → List (List ℕ) → Type 0
AreExports includes arrows own names =
    (labels : List (List ℕ)) × AreSameLabels (included_labels includes []) own labels
    × (names ≡ exported_by labels arrows)

-- what is exported where exports are in conflict: what an `exportize` chooses, or what this world exports
abbrev pub AreExported : Asked → List Arrow → Option WorldName → Option (List (List ℕ))
    → List (List ℕ) → Type 0
AreExported asked arrows world (Some keys) names = names ≡ fold with_name [] keys
AreExported asked arrows (Some world) None names =
    AreExports (coming_includes asked) arrows (label_text world []) names
AreExported asked arrows None None names = names ≡ []

-- ---- the way

-- a way past what isn't exported to what is, from a label of a world. The labels and the interface under them with which it
-- begins count as exported, so that what isn't comes after them
abbrev pub IsLabelWay : List Arrow → List Arrow → List (List ℕ) → List ℕ → List Arrow → Type 0
IsLabelWay arrows included exported start way =
    (labels : List (List ℕ)) × AreSameLabels included start labels
    × IsChosen (arrows ++ included)
    (fold with_name (fold with_name exported labels) (exported_by labels arrows)) start false way

-- from the label of a name of a world, where there is one
abbrev pub IsWorldWay : Asked → List Arrow → List (List ℕ) → List ℕ → Option WorldName → List Arrow
    → Type 0
IsWorldWay asked arrows exported name (Some world) way =
    IsLabelWay arrows (included_labels (coming_includes asked) name) exported
    (label_text world name) way
IsWorldWay asked arrows exported name None way = way ≡ []

-- 4: from an interface of the name that is told, or where there is no way from it from the label of this name of the world that
-- stands at the span
abbrev pub IsConflictWay : State → Asked → OptionalSpan → List ℕ → List Arrow → Type 0
IsConflictWay state asked span name way =
    let arrows = known_arrows state asked in
    let world = world_at state.graph (coming_worlds asked) span in
    (exported : List (List ℕ)) × AreExported asked arrows world (chosen_keys asked) exported
    × ((IsChosen arrows exported name false way × (0 < length way))
    ⊎ (IsChosen arrows exported name false [] × IsWorldWay asked arrows exported name world way))
