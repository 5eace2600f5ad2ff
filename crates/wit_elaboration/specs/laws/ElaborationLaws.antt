-- Laws of elaboration, over all acyclic uses and all lists of entries in order.
use Rattle.std.specs.Prelude.{ℕ, ◌↔◌, List, [], ◌∷◌, ◌++◌, length, Contains, All}
use Rattle.wit_data.specs.declared.types.TypeDef.{TypeDef}
use Rattle.wit_data.specs.declared.world.World.{World}
use Rattle.wit_data.specs.declared.world.WorldKey.{WorldKey}
use Rattle.wit_digraph.specs.Relation.{direct, IsAcyclic}
use Rattle.wit_elaboration.specs.Entries.{Entry, Role, Instance, TypeUse, TypeDefinition, FreeFunction, ResourceFunction, role_of, key_interface, keyed_interfaces}
use Rattle.wit_elaboration.specs.Elaborated.{Elaborated}
use Rattle.wit_elaboration.specs.Imported.{HasTransitiveConflict, IsRefusedKey}
use Rattle.wit_elaboration.specs.laws.Imports.{IsImported}
use Rattle.wit_elaboration.specs.Sound.{HasSoundEntries}

-- an elaborated world is its own elaboration
abbrev pub ElaboratesOnce : Type 0
ElaboratesOnce =
    (types : List TypeDef) (uses : List (List ℕ)) (old new : World) → IsAcyclic uses
    → HasSoundEntries types (length uses) old.imports old.exports →
    Elaborated types uses old new → Elaborated types uses new new

-- the interfaces that it imports under their own keys are exactly those that paths define
abbrev pub ImportsAreExact : Type 0
ImportsAreExact =
    (types : List TypeDef) (uses : List (List ℕ)) (old new : World) (j : ℕ) → IsAcyclic uses
    → HasSoundEntries types (length uses) old.imports old.exports →
    Elaborated types uses old new
    → Contains (keyed_interfaces new.imports) j
    ↔ IsImported types uses old.imports old.exports j

-- what must stand before an item: the uses of an interface, the interface of a type use
abbrev pub stands_on : List (List ℕ) → Role → List ℕ
stands_on uses (Instance i) = direct uses i
stands_on uses (TypeUse i) = i ∷ []
stands_on uses TypeDefinition = []
stands_on uses FreeFunction = []
stands_on uses ResourceFunction = []

-- what each entry stands on is among the interfaces seen, or stands before it under its own key
abbrev pub DependenciesFirst : List TypeDef → List (List ℕ) → List ℕ → List Entry → Type 0
DependenciesFirst types uses seen [] = Unit {0}
DependenciesFirst types uses seen (e ∷ es) =
    All (Contains seen) (stands_on uses (role_of types e.1))
    × DependenciesFirst types uses (seen ++ key_interface e.0) es

-- each direct use of an imported interface, labelled or not, stands before it among the imports
abbrev pub ImportsKeepOrder : Type 0
ImportsKeepOrder =
    (types : List TypeDef) (uses : List (List ℕ)) (old new : World) → IsAcyclic uses
    → HasSoundEntries types (length uses) old.imports old.exports →
    Elaborated types uses old new → DependenciesFirst types uses [] new.imports

-- two lists have the same entries, in whatever order
abbrev pub SameEntries : List Entry → List Entry → Type 0
SameEntries xs ys = (e : Entry) → Contains xs e ↔ Contains ys e

-- neither a conflict nor what is imported depends on the order of the entries
abbrev pub OrderIsFree : Type 0
OrderIsFree =
    (types : List TypeDef) (uses : List (List ℕ)) (imports imports' exports exports' : List Entry)
    → SameEntries imports imports' → SameEntries exports exports' →
    (HasTransitiveConflict uses exports ↔ HasTransitiveConflict uses exports')
    × ((j : ℕ)
    → IsImported types uses imports exports j ↔ IsImported types uses imports' exports' j)

-- there is a refused key exactly where there is a conflict
abbrev pub ConflictsAreRefused : Type 0
ConflictsAreRefused =
    (types : List TypeDef) (uses : List (List ℕ)) (imports exports : List Entry) → IsAcyclic uses
    → HasSoundEntries types (length uses) imports exports →
    HasTransitiveConflict uses exports ↔ ((k : WorldKey) × IsRefusedKey uses exports k)
