-- What elaboration keeps: laws for those who add to a graph, and for readers of an elaborated world.
use Rattle.std.specs.Prelude.{ℕ, ◌≡◌, ◌⊎◌, ◌↔◌, Bool, true, false, List, ◌++◌, map, filter, length, Contains, All, flat_map}
use Rattle.std.specs.Map.{keys_of}
use Rattle.wit_data.specs.declared.types.TypeDef.{TypeDef}
use Rattle.wit_data.specs.declared.world.World.{World}
use Rattle.wit_data.specs.declared.world.WorldKey.{WorldKey}
use Rattle.wit_data.specs.declared.world.WorldKey.TheVariants.{Name, Interface}
use Rattle.wit_digraph.specs.Relation.{direct, IsAcyclic}
use Rattle.wit_elaboration.specs.Entries.{Entry, TypeUse, role_of, keyed_interfaces, by_class}
use Rattle.wit_elaboration.specs.Elaborated.{Elaborated, InheritedData, dependency_of, inherited_by_import, without_span}
use Rattle.wit_elaboration.specs.laws.Imports.{IsImported, roots_of}
use Rattle.wit_elaboration.specs.Sound.{HasSoundEntries}
use Rattle.wit_values.specs.Table.{HasDistinctKeys}
use Rattle.wit_elaboration.specs.steps.Parts.{exported_keys, exported_interfaces}

-- ---- a graph that grows

-- the items of these entries have the same role over both lists of types
abbrev pub SameRoles : List TypeDef → List TypeDef → List Entry → Type 0
SameRoles types wider entries =
    (e : Entry) → Contains entries e → role_of types e.1 ≡ role_of wider e.1

-- and their dependencies carry the same
abbrev pub SameInheritedData : List TypeDef → List TypeDef → List Entry → Type 0
SameInheritedData types wider entries =
    (e : Entry) → Contains entries e → inherited_by_import types e.1 ≡ inherited_by_import wider e.1

-- more interfaces, and other types over which the imports are and carry what they were and did, change no elaboration
abbrev pub ElaborationIsLocal : Type 0
ElaborationIsLocal =
    (types wider : List TypeDef) (uses rows : List (List ℕ)) (old new : World) → IsAcyclic uses
    → IsAcyclic (uses ++ rows) →
    HasSoundEntries types (length uses) old.imports old.exports → SameRoles types wider old.imports
    → SameInheritedData types wider old.imports →
    Elaborated types uses old new → Elaborated wider (uses ++ rows) old new

-- ---- the keys

-- no two imports of an elaborated world have one key, nor have two exports where no two of those listed had
abbrev pub ElaboratedOnce : Type 0
ElaboratedOnce =
    (types : List TypeDef) (uses : List (List ℕ)) (old new : World) → IsAcyclic uses
    → HasSoundEntries types (length uses) old.imports old.exports →
    Elaborated types uses old new
    → HasDistinctKeys new.imports × (HasDistinctKeys old.exports → HasDistinctKeys new.exports)

-- the keys of the exports stay
abbrev pub ExportKeysStay : Type 0
ExportKeysStay =
    (types : List TypeDef) (uses : List (List ℕ)) (old new : World) (k : WorldKey) → IsAcyclic uses
    → HasSoundEntries types (length uses) old.imports old.exports →
    Elaborated types uses old new
    → Contains (keys_of new.exports) k ↔ Contains (keys_of old.exports) k

-- is the key a label?
abbrev pub is_label : WorldKey → Bool
is_label (Name label) = true
is_label (Interface i) = false

-- the entries under labels, in their order
abbrev pub labelled : List Entry → List Entry
labelled entries = filter (λ (e : Entry). is_label e.0) entries

-- an entry as it is listed, an interface without its span
abbrev pub listed_without_span : Entry → Entry
listed_without_span e = (e.0, without_span e.1)

-- the imports under labels are those that were listed, by class
abbrev pub LabelsStay : Type 0
LabelsStay =
    (types : List TypeDef) (uses : List (List ℕ)) (old new : World) → IsAcyclic uses
    → HasSoundEntries types (length uses) old.imports old.exports → HasDistinctKeys old.imports →
    Elaborated types uses old new
    → labelled new.imports ≡ map listed_without_span (labelled (by_class types old.imports))

-- ---- the entries

-- some interface uses j directly, or an import is a use of a type of j
abbrev pub IsUsed : List TypeDef → List (List ℕ) → List Entry → ℕ → Type 0
IsUsed types uses imports j =
    ((i : ℕ) × Contains (direct uses i) j)
    ⊎ ((e : Entry) × Contains imports e × (role_of types e.1 ≡ TypeUse j))

-- an entry is one that was listed, an interface without its span
abbrev pub IsListedWithoutSpan : List Entry → Entry → Type 0
IsListedWithoutSpan entries e = (f : Entry) × Contains entries f × (e ≡ listed_without_span f)

-- an entry is a dependency, which is used, and which the elaborated world imports
abbrev pub IsMadeImport : List TypeDef → List (List ℕ) → List Entry → List Entry → Entry → Type 0
IsMadeImport types uses imports exports e =
    (carried : InheritedData) × (j : ℕ) × (e ≡ dependency_of carried j)
    × IsUsed types uses imports j × IsImported types uses imports exports j

-- an entry is a dependency, which is an exported key
abbrev pub IsMadeExport : List Entry → Entry → Type 0
IsMadeExport exports e =
    (carried : InheritedData) × (j : ℕ) × (e ≡ dependency_of carried j)
    × Contains (exported_keys exports) j

-- each import was listed or is a dependency, and so is each export
abbrev pub ElaboratedEntries : Type 0
ElaboratedEntries =
    (types : List TypeDef) (uses : List (List ℕ)) (old new : World) (e : Entry) → IsAcyclic uses
    → HasSoundEntries types (length uses) old.imports old.exports →
    Elaborated types uses old new →
    (Contains new.imports e
    → IsListedWithoutSpan old.imports e ⊎ IsMadeImport types uses old.imports old.exports e)
    × (Contains new.exports e → Contains old.exports e ⊎ IsMadeExport old.exports e)

-- the keys and ids of an elaborated world are in order too
abbrev pub ListedStays : Type 0
ListedStays =
    (types : List TypeDef) (uses : List (List ℕ)) (old new : World) → IsAcyclic uses
    → HasSoundEntries types (length uses) old.imports old.exports →
    Elaborated types uses old new → HasSoundEntries types (length uses) new.imports new.exports

-- ---- the least imports

-- a set of interfaces has those that the listed imports and type uses name directly, those that an exported interface uses
-- directly and that are no exported keys, and with each one all that it uses
pub record HoldsImports (types : List TypeDef) (uses : List (List ℕ)) (imports exports : List Entry)
    (Among : ℕ → Type 0) : Type 0 where
  pub roots : (r : ℕ)
      → Contains (flat_map (λ (e : Entry). roots_of uses e.0 (role_of types e.1)) imports) r
      → Among r
  pub from_outside : (x d : ℕ) → Contains (exported_interfaces exports) x
      → Contains (direct uses x) d → (Contains (exported_keys exports) d → ⊥) → Among d
  pub closed : (i j : ℕ) → Among i → Contains (direct uses i) j → Among j

-- the interfaces that an elaborated world imports are such a set, and each such set that a test tells has them all
abbrev pub ImportsAreLeast : Type 0
ImportsAreLeast =
    (types : List TypeDef) (uses : List (List ℕ)) (old new : World) → IsAcyclic uses
    → HasSoundEntries types (length uses) old.imports old.exports →
    Elaborated types uses old new →
    HoldsImports types uses old.imports old.exports (Contains (keyed_interfaces new.imports))
    × ((test : ℕ → Bool) → HoldsImports types uses old.imports old.exports (λ i. test i ≡ true)
    → All (λ i. test i ≡ true) (keyed_interfaces new.imports))
