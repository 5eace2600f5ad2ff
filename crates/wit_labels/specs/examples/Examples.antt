-- Small labels and lists, and what the definitions say of them.
use Rattle.std.specs.Prelude.{◌≡◌, ℕ, true, false, List, [], ◌∷◌, Some, None, codes}
use Rattle.wit_data.specs.Entries.{Entry}
use Rattle.wit_data.specs.New.{new_function}
use Rattle.wit_data.specs.declared.function.FunctionKind.TheVariants as function
use Rattle.wit_data.specs.declared.world.IncludeName.{IncludeName}
use Rattle.wit_data.specs.declared.world.WorldKey.{WorldKey}
use Rattle.wit_data.specs.declared.world.WorldItem.TheVariants as item
use Rattle.wit_data.specs.declared.world.WorldKey.TheVariants as key
use Rattle.wit_labels.specs.Rename.{renamed_label_by, renamed_label}
use Rattle.wit_labels.specs.Setters.{getter_label, is_setter_label, setters_placed}
use Rattle.wit_labels.specs.steps.Setters.{HaveGetters}
use Rattle.wit_labels.specs.Strong.{Clashes, strong_key}
use Rattle.wit_labels.specs.steps.Strong.{AreStronglyUnique}
use Rattle.wit_labels.specs.declared.strong.Class.TheVariants.{Constructor, Getter, Setter}

-- a renaming
abbrev pub named_as : List ℕ → List ℕ → IncludeName
named_as old new = record { name = old; as_ = new }

-- what renamings make of labels
pub record ExamplesOfRenaming : Type 0 where
  pub behind_groups : renamed_label_by (named_as (codes "r") (codes "r2"))
      (codes "[method][get]r.p") ≡ Some (codes "[method][get]r2.p")
  pub unclosed : renamed_label_by (named_as (codes "method") (codes "x")) (codes "[method") ≡ None
  pub not_behind_a_dot : renamed_label_by (named_as (codes "p") (codes "q")) (codes "r.p") ≡ None
  pub whole : renamed_label_by (named_as (codes "p") (codes "q")) (codes "p") ≡ Some (codes "q")
  pub first_wins : renamed_label
      (named_as (codes "p") (codes "q") ∷ named_as (codes "p") (codes "s") ∷ []) (codes "p")
      ≡ codes "q"
  pub none_fits : renamed_label (named_as (codes "o") (codes "q") ∷ []) (codes "p") ≡ codes "p"

-- keys that are these labels
abbrev pub labelled : List (List ℕ) → List WorldKey
labelled [] = []
labelled (label ∷ labels) = key.Name label ∷ labelled labels

-- labels that clash, and labels that don't
pub record ExamplesOfClashes : Type 0 where
  pub case_clashes : Clashes (labelled (codes "ab" ∷ codes "AB" ∷ [])) (codes "AB") (codes "ab")
  pub later_first : Clashes (labelled (codes "ab" ∷ codes "AB" ∷ [])) (codes "ab") (codes "AB") → ⊥
  pub unique : AreStronglyUnique (labelled (codes "ab" ∷ codes "ac" ∷ []))
  pub method_and_dot : strong_key (codes "[method]r.p") ≡ strong_key (codes "R.P")
  pub of_getter : strong_key (codes "[get]p") ≡ record { class = Some Getter; name = codes "p" }
  pub of_setter : strong_key (codes "[method][set]r.p")
      ≡ record { class = Some Setter; name = codes "r.p" }
  pub of_constructor : strong_key (codes "[constructor]r")
      ≡ record { class = Some Constructor; name = codes "r" }
  pub of_name : strong_key (codes "r") ≡ record { class = None; name = codes "r" }
  pub of_other_name : strong_key (codes "s") ≡ record { class = None; name = codes "s" }

-- an entry that is a function under this label
abbrev pub function_entry : List ℕ → Entry
function_entry label =
    (key.Name label, item.Function (new_function label function.Freestanding [] None))

-- what is a setter, and where setters go
pub record ExamplesOfSetters : Type 0 where
  pub has_getter : HaveGetters
      (function_entry (codes "[get]p") ∷ function_entry (codes "[set]p") ∷ [])
  pub lacks_getter : HaveGetters (function_entry (codes "[set]p") ∷ []) → ⊥
  pub getter_of : getter_label (codes "[static][set]r.s") ≡ codes "[static][get]r.s"
  pub is_setter : is_setter_label (codes "[static][set]r.s") ≡ true
  pub is_getter : is_setter_label (codes "[get]p") ≡ false
  pub setter_first : setters_placed (function_entry (codes "[set]p") ∷ function_entry (codes "f")
      ∷ function_entry (codes "[get]p") ∷ [])
      ≡ function_entry (codes "f") ∷ function_entry (codes "[get]p")
      ∷ function_entry (codes "[set]p") ∷ []
  pub getter_first : setters_placed (function_entry (codes "[get]p") ∷ function_entry (codes "f")
      ∷ function_entry (codes "[set]p") ∷ [])
      ≡ function_entry (codes "[get]p") ∷ function_entry (codes "f")
      ∷ function_entry (codes "[set]p") ∷ []
  pub getter_missing : setters_placed
      (function_entry (codes "[set]p") ∷ function_entry (codes "f") ∷ [])
      ≡ function_entry (codes "[set]p") ∷ function_entry (codes "f") ∷ []
