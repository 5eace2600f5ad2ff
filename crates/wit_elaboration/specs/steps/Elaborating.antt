-- States of an elaboration while it runs.
use Rattle.std.specs.Prelude.{ℕ, ◌≡◌, ◌≤◌, ◌↔◌, Bool, true, false, List, [], Option, Some, None, length, nat_eq, slice_get, take, Contains}
use Rattle.std.specs.List.{list_any}
use Rattle.std.specs.Map.{keys_of}
use Rattle.wit_data.specs.declared.world.WorldKey.TheVariants.{Interface}
use Rattle.wit_digraph.specs.Relation.{direct, Reaches}
use Rattle.wit_digraph.specs.steps.PostOrder.{Listed, UsesFirst}
use Rattle.wit_elaboration.specs.declared.marks.Marks.{Marks}
use Rattle.wit_elaboration.specs.Entries.{Entry}
use Rattle.wit_elaboration.specs.Imported.{IsEntryInConflict}
use Rattle.wit_elaboration.specs.steps.Parts.{exported_keys}

-- what was walked has all its uses walked before it
pub record IsPostOrder (uses : List (List ℕ)) (walked : Listed) : Type 0 where
  pub nodes : walked.nodes ≡ length uses
  pub uses_first : UsesFirst uses [] walked.order

-- and is imported under its own key
pub record IsImporting (uses : List (List ℕ)) (walked : Listed) (imports : List Entry) : Type 0
  where
    pub post_order : IsPostOrder uses walked
    pub imported : (i : ℕ) → Contains walked.order i → Contains (keys_of imports) (Interface i)

-- some target is reached from i
abbrev pub ReachesOneOf : List (List ℕ) → List ℕ → ℕ → Type 0
ReachesOneOf uses targets i = (t : ℕ) × Reaches uses i t × Contains targets t

-- of the members of an order, those that reach a target are marked, and no other is
pub record AreMarked (uses : List (List ℕ)) (order targets marked : List ℕ) : Type 0 where
  pub sound : (i : ℕ) → Contains marked i → ReachesOneOf uses targets i
  pub complete : (i : ℕ) → Contains order i → ReachesOneOf uses targets i → Contains marked i

-- listed are those of an order that reach an exported interface and are not exported themselves
pub record AreOutside (order reaching exported outside : List ℕ) : Type 0 where
  pub sound : (i : ℕ) → Contains outside i
      → Contains order i × Contains reaching i × (Contains exported i → ⊥)
  pub complete : (i : ℕ) → Contains order i → Contains reaching i → (Contains exported i → ⊥)
      → Contains outside i

-- some direct use of i is marked
abbrev pub HasMarkedUse : List (List ℕ) → List ℕ → ℕ → Type 0
HasMarkedUse uses marked i = (j : ℕ) × Contains (direct uses i) j × Contains marked j

-- a listing has exactly the exported keys
abbrev pub IsExportedList : List ℕ → List Entry → Type 0
IsExportedList listed exports = (i : ℕ) → Contains listed i ↔ Contains (exported_keys exports) i

-- the first entry that is in conflict, and none where there is none
abbrev pub IsFirstConflict : List (List ℕ) → List Entry → Option ℕ → Type 0
IsFirstConflict uses exports None =
    (e : Entry) → Contains exports e → IsEntryInConflict uses exports e → ⊥
IsFirstConflict uses exports (Some at) =
    (e : Entry) × (slice_get exports at ≡ Some e) × IsEntryInConflict uses exports e
    × ((f : Entry) → Contains (take at exports) f → IsEntryInConflict uses exports f → ⊥)

-- each set of marks is one of so many interfaces
pub record HaveNodes (marks : Marks) (interfaces : ℕ) : Type 0 where
  pub walked : marks.walked.nodes ≡ interfaces
  pub exported : marks.exported.nodes ≡ interfaces
  pub reaching : marks.reaching.nodes ≡ interfaces
  pub outside : marks.outside.nodes ≡ interfaces
  pub leading : marks.leading.nodes ≡ interfaces

-- each set of marks is one of so many interfaces, or of more
pub record HaveAtLeast (marks : Marks) (interfaces : ℕ) : Type 0 where
  pub walked : interfaces ≤ marks.walked.nodes
  pub exported : interfaces ≤ marks.exported.nodes
  pub reaching : interfaces ≤ marks.reaching.nodes
  pub outside : interfaces ≤ marks.outside.nodes
  pub leading : interfaces ≤ marks.leading.nodes

-- is the interface listed?
abbrev pub is_listed : Listed → ℕ → Bool
is_listed listed i = list_any (nat_eq i) listed.order

-- what was walked is exported, or imported where it is no exported key
pub record IsExporting (uses : List (List ℕ)) (exported : ℕ → Bool) (walked : Listed)
    (imports exports : List Entry) : Type 0 where
  pub post_order : IsPostOrder uses walked
  pub are_exported : (i : ℕ) → Contains walked.order i → exported i ≡ true
      → Contains (keys_of exports) (Interface i)
  pub are_imported : (i : ℕ) → Contains walked.order i → exported i ≡ false
      → Contains (keys_of imports) (Interface i)
