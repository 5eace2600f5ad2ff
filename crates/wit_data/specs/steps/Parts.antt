-- Parts of the definitions under names of their own, for contracts of inner functions and for proofs. Each is what stands
-- in a definition in its place, so none has to be believed.
use Rattle.std.specs.Prelude.{ℕ, List, ◌≡◌, [], Some, ◌<◌, ◌↔◌, ◌≤◌, length}
use Rattle.wit_data.specs.Kind.{referred_in}
use Rattle.wit_data.specs.declared.types.TypeDefKind.{TypeDefKind}
use Rattle.wit_data.specs.Ownership.{is_no_target}
use Rattle.wit_data.specs.declared.interface.Interface.{Interface}
use Rattle.wit_data.specs.declared.world.World.{World}
use Rattle.wit_data.specs.Each.{Each, EachAt}
use Rattle.wit_data.specs.declared.world.WorldInclude.{WorldInclude}
use Rattle.wit_data.specs.declared.types.TypeDef.{TypeDef}
use Rattle.wit_data.specs.declared.types.TypeDefKind.TheVariants as kind
use Rattle.wit_data.specs.Foreign.{IsForeignType}

-- what a kind refers to, other than as an alias
abbrev pub parts : TypeDefKind → List ℕ
parts k = referred_in is_no_target k

-- a foreign interface has the name under which it is named, and no functions
abbrev pub IsNameOnlyInterface : List ℕ → Interface → Type 0
IsNameOnlyInterface name interface = (interface.name ≡ Some name) × (interface.functions ≡ [])

-- a foreign world has the name under which it is named, no items and no includes
abbrev pub IsNameOnlyWorld : List ℕ → World → Type 0
IsNameOnlyWorld name world =
    (world.name ≡ name) × (world.imports ≡ []) × (world.exports ≡ []) × (world.includes ≡ [])

-- each include names an earlier world
abbrev pub IncludesEarlier : ℕ → World → Type 0
IncludesEarlier w world = Each (λ (i : WorldInclude). i.id < w) world.includes

-- the types of kind `Unknown` are the first `unknown` ones
abbrev pub AreUnknownFirst : ℕ → List TypeDef → Type 0
AreUnknownFirst unknown types =
    (unknown ≤ length types)
    × EachAt (λ i (def : TypeDef). (def.kind ≡ kind.Unknown) ↔ (i < unknown)) types

-- each of the first `unknown` types is one of a foreign interface
abbrev pub AreForeignTypes : ℕ → ℕ → List TypeDef → Type 0
AreForeignTypes unknown foreign types =
    EachAt (λ i def. i < unknown → IsForeignType foreign def) types

-- each of the first `foreign` interfaces lists types among the first `unknown` ones alone
abbrev pub ListUnknownAlone : ℕ → ℕ → List Interface → Type 0
ListUnknownAlone unknown foreign interfaces =
    EachAt (λ i (interface : Interface).
    i < foreign → Each (λ (e : List ℕ × ℕ). e.1 < unknown) interface.types) interfaces
