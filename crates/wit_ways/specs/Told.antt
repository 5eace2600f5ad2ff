-- The way of a refusal: how what it names leads back to itself, or past what isn't exported to what is.
use Rattle.std.specs.Prelude.{◌≡◌, ℕ, true, false, List, [], ◌∷◌, slice_get, Some, bytes_eq}
use Rattle.std.specs.Option.{option_map_or}
use Rattle.wit_data.specs.declared.types.TypeDef.{TypeDef}
use Rattle.wit_names.specs.PackageName.{package_name_text}
use Rattle.wit_names.specs.declared.package_name.PackageName.{PackageName}
use Rattle.wit_elaboration.specs.steps.Parts.{interface_cycle_text, type_cycle_text}
use Rattle.wit_graph_data.specs.declared.cause.Cause.TheVariants.{InterfaceCycle, TypeCycle}
use Rattle.wit_graph_data.specs.declared.error_kind.ResolveErrorKind.{ResolveErrorKind}
use Rattle.wit_graph_data.specs.declared.error_kind.ResolveErrorKind.TheVariants.{InvalidTransitiveDependency, PackageCycle, Semantic}
use Rattle.wit_graph_data.specs.declared.graph.Graph.{Graph}
use Rattle.wit_resolve_graph.specs.State.{State}
use Rattle.wit_ways.specs.Asked.{asked_graph, known_arrows}
use Rattle.wit_ways.specs.Conflicts.{IsConflictWay}
use Rattle.wit_ways.specs.TypeArrows.{type_arrows, type_text}
use Rattle.wit_ways.specs.Ways.{IsRound}
use Rattle.wit_ways.specs.declared.arrow.Arrow.{Arrow}
use Rattle.wit_ways.specs.declared.asked.Asked.{Asked}
use Rattle.wit_ways.specs.declared.asked.Asked.TheVariants as asks

-- 6: where packages come among these, else among those of the graphs
abbrev pub IsPackageRound : State → Asked → PackageName → List Arrow → Type 0
IsPackageRound state (asks.Push coming) owner way =
    IsRound coming.dependencies (package_name_text owner) way
IsPackageRound state asked owner way =
    IsRound (known_arrows state asked) (package_name_text owner) way

-- a way from type id back to it, where it has this name; else none
abbrev pub IsRoundAt : Graph → List Arrow → List ℕ → ℕ → List Arrow → Type 0
IsRoundAt g arrows name id [] =
    (def : TypeDef) → slice_get g.types id ≡ Some def
    → option_map_or (bytes_eq name) def.name false ≡ true
    → IsRound arrows (type_text g id) []
IsRoundAt g arrows name id (a ∷ way) =
    (def : TypeDef) × (slice_get g.types id ≡ Some def)
    × (option_map_or (bytes_eq name) def.name false ≡ true)
    × IsRound arrows (type_text g id) (a ∷ way)

-- 23: from one of the types of a name; none where none of them leads back to itself
abbrev pub IsTypeRound : Graph → List Arrow → List ℕ → List Arrow → Type 0
IsTypeRound g arrows name [] = (id : ℕ) → IsRoundAt g arrows name id []
IsTypeRound g arrows name (a ∷ way) = (id : ℕ) × IsRoundAt g arrows name id (a ∷ way)

-- the way of a refusal: of a cycle (6, 22, 23) back to what it names, of exports in conflict (4) to what is exported; else none
abbrev pub IsTold : State → Asked → ResolveErrorKind → List Arrow → Type 0
IsTold state asked (PackageCycle span owner) way = IsPackageRound state asked owner way
IsTold state asked (InvalidTransitiveDependency span name) way =
    IsConflictWay state asked span name way
IsTold state asked (Semantic span message InterfaceCycle) way =
    (name : List ℕ) → message ≡ interface_cycle_text name
    → IsRound (known_arrows state asked) name way
IsTold state asked (Semantic span message TypeCycle) way =
    (name : List ℕ) → message ≡ type_cycle_text name
    → IsTypeRound (asked_graph state asked) (type_arrows (asked_graph state asked)) name way
IsTold state asked _ way = way ≡ []
