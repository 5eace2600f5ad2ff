-- Worked worlds over four interfaces: a; b, which uses a; c, which uses a and then b; d, which uses b.
use Rattle.std.specs.Prelude.{ℕ, ◌≡◌, List, [], ◌∷◌, codes}
use Rattle.wit_data.specs.New.{new_interface_entry}
use Rattle.wit_data.specs.declared.world.WorldItem.{WorldItem}
use Rattle.wit_data.specs.declared.world.WorldKey.TheVariants.{Name, Interface}
use Rattle.wit_elaboration.specs.Elaborated.{elaborated_imports, elaborated_exports}
use Rattle.wit_elaboration.specs.Entries.{Entry}
use Rattle.wit_elaboration.specs.Imported.{HasTransitiveConflict, IsEntryInConflict, IsRefusedKey}

abbrev pub chain : List (List ℕ)
chain = [] ∷ (0 ∷ []) ∷ (0 ∷ 1 ∷ []) ∷ (1 ∷ []) ∷ []

-- an interface without a gate, docs, span and external id
abbrev pub plain : ℕ → WorldItem
plain i = new_interface_entry i

-- the interfaces under their own keys
abbrev pub a : Entry
a = (Interface 0, plain 0)

abbrev pub b : Entry
b = (Interface 1, plain 1)

abbrev pub c : Entry
c = (Interface 2, plain 2)

abbrev pub d : Entry
d = (Interface 3, plain 3)

-- an interface under the label `lab`
abbrev pub labelled : ℕ → Entry
labelled i = (Name (codes "lab"), plain i)

-- a world's elaborated lists
pub record Gives (imports exports imports' exports' : List Entry) : Type 0 where
  pub imports_are : elaborated_imports [] chain imports exports ≡ imports'
  pub exports_are : elaborated_exports chain exports ≡ exports'

-- worlds that are elaborated
pub record WorkedElaborations : Type 0 where
  -- what is exported whole needs nothing imported
  pub all_exported : Gives [] (a ∷ b ∷ c ∷ []) [] (a ∷ b ∷ c ∷ [])
  -- in whatever order it is listed
  pub used_before_user : Gives [] (c ∷ b ∷ a ∷ []) [] (a ∷ b ∷ c ∷ [])
  -- what an export needs is imported, with all that it reaches
  pub export_alone : Gives [] (c ∷ []) (a ∷ b ∷ []) (c ∷ [])
  -- imports come after what they use
  pub import_alone : Gives (c ∷ []) [] (a ∷ b ∷ c ∷ []) []
  -- an interface may be imported and exported
  pub both : Gives (c ∷ []) (a ∷ []) (a ∷ b ∷ c ∷ []) (a ∷ [])
  -- what is exported under a label is no exported key
  pub label_last : Gives [] (c ∷ labelled 0 ∷ []) (a ∷ b ∷ []) (c ∷ labelled 0 ∷ [])
  pub label_first : Gives [] (labelled 0 ∷ c ∷ []) (a ∷ b ∷ []) (labelled 0 ∷ c ∷ [])
  pub nothing : Gives [] [] [] []
  -- direct dependencies don't suffice
  pub not_direct_alone : Gives [] (d ∷ []) (b ∷ []) (d ∷ []) → ⊥
  -- a user doesn't stand before what it uses
  pub not_user_first : Gives (c ∷ []) [] (c ∷ a ∷ b ∷ []) [] → ⊥

-- worlds that are refused, with the refused key, and near ones that aren't
pub record WorkedConflicts : Type 0 where
  -- c needs b from outside, which needs a, which is exported
  pub c_refused : IsRefusedKey chain (a ∷ c ∷ []) (Interface 2)
  -- the same through two steps, in each order
  pub d_refused : IsRefusedKey chain (d ∷ a ∷ []) (Interface 3)
  pub d_refused_last : IsRefusedKey chain (a ∷ d ∷ []) (Interface 3)
  -- a label is not refused where what it exports only uses exported keys
  pub label_passed : IsRefusedKey chain (labelled 1 ∷ a ∷ c ∷ []) (Interface 2)
  -- there is a conflict in each of these
  pub c_in_conflict : HasTransitiveConflict chain (a ∷ c ∷ [])
  -- not for what uses nothing
  pub a_passed : IsEntryInConflict chain (a ∷ c ∷ []) a → ⊥
  -- nor where all uses are exported
  pub all_passed : HasTransitiveConflict chain (a ∷ b ∷ []) → ⊥
  -- nor where b is exported as well
  pub b_exported_too : HasTransitiveConflict chain (a ∷ b ∷ c ∷ []) → ⊥
  -- nor where a is exported under a label alone
  pub a_under_label : HasTransitiveConflict chain (labelled 0 ∷ c ∷ []) → ⊥
