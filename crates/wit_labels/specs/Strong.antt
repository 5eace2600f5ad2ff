-- Labels of one list of a world that are not strongly unique.
-- Source: strongly-unique names on the WIT page of the component model; `validate_world_strongly_unique_names`
-- of wit-parser 0.263.0. What makes two labels alike is a rule of this project.
use Rattle.std.specs.Prelude.{◌≡◌, ℕ, ◌<◌, List, Option, Some, None, slice_get, codes, if◌then◌else◌, filter_map, bytes_eq}
use Rattle.std.specs.Str.{str_to_ascii_lowercase}
use Rattle.wit_data.specs.declared.world.WorldKey.{WorldKey}
use Rattle.wit_data.specs.declared.world.WorldKey.TheVariants as key
use Rattle.wit_labels.specs.Groups.{groups_of, rest_of}
use Rattle.wit_labels.specs.declared.strong.Class.{Class}
use Rattle.wit_labels.specs.declared.strong.Class.TheVariants.{Constructor, Getter, Setter}
use Rattle.wit_labels.specs.declared.strong.StrongKey.{StrongKey}

-- the class that a group tells
abbrev pub class_named : List ℕ → Option Class
class_named group =
    if bytes_eq group (codes "[constructor]") then Some Constructor
    else (if bytes_eq group (codes "[get]") then Some Getter
    else (if bytes_eq group (codes "[set]") then Some Setter else None))

-- what tells labels apart: the first class that one of their groups tells, and what follows the groups, in whatever
-- case
abbrev pub strong_key : List ℕ → StrongKey
strong_key label =
    record {
      class = slice_get (filter_map class_named (groups_of label)) 0;
      name = str_to_ascii_lowercase (rest_of label);
    }

-- label n clashes with the label m that stands earlier in the list
abbrev pub Clashes : List WorldKey → List ℕ → List ℕ → Type 0
Clashes keys n m =
    (i : ℕ) × (j : ℕ) × (i < j) × (slice_get keys i ≡ Some (key.Name m))
    × (slice_get keys j ≡ Some (key.Name n)) × (strong_key n ≡ strong_key m)
