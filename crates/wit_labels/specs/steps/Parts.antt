-- Parts of the definitions under names of their own, for contracts of inner functions and for proofs. Each is what stands
-- in a definition in its place, so none has to be believed.
use Rattle.std.specs.Prelude.{ℕ, ◌==◌, Bool, List, nat_lt, Option, Some, None, if◌then◌else◌, option_and_then, slice_get, filter_map}
use Rattle.std.specs.List.{list_any, enumerate_from}
use Rattle.wit_data.specs.Entries.{Entry}
use Rattle.wit_labels.specs.Groups.{groups_of}
use Rattle.wit_labels.specs.declared.strong.Class.{Class}
use Rattle.wit_labels.specs.Strong.{class_named}

-- does a text have a closing bracket?
abbrev pub has_closing : List ℕ → Bool
has_closing text = list_any (λ b. b == 93) text

-- the entries with their indices
abbrev pub indexed_entries : List Entry → List (ℕ × Entry)
indexed_entries entries = enumerate_from 0 entries

-- the index that was found, where it is after index i
abbrev pub after : ℕ → Option ℕ → Option ℕ
after i o = option_and_then (λ g. if nat_lt i g then Some g else None) o

-- the class of a label: the first that one of its groups tells
abbrev pub label_class : List ℕ → Option Class
label_class label = slice_get (filter_map class_named (groups_of label)) 0
