-- Where setters stand in a list of a world: beside their getters.
-- Source: getters and setters on the WIT page of the component model; `process_world_includes` of wit-parser
-- 0.263.0. That a setter is told by its label is a rule of this project.
use Rattle.std.specs.Prelude.{ℕ, ◌&&◌, Bool, not, false, List, [], ◌∷◌, ◌++◌, length, drop, nat_eq, codes, Option, Some, None, if◌then◌else◌, bytes_eq}
use Rattle.std.specs.List.{list_any, starts_with}
use Rattle.std.specs.Option.{option_map_or}
use Rattle.wit_data.specs.Entries.{Entry}
use Rattle.wit_data.specs.declared.world.WorldItem.{WorldItem}
use Rattle.wit_data.specs.declared.world.WorldKey.{WorldKey}
use Rattle.wit_data.specs.declared.world.WorldItem.TheVariants as item
use Rattle.wit_data.specs.declared.world.WorldKey.TheVariants as key
use Rattle.wit_labels.specs.Groups.{groups_of}

-- the first occurrence of a text, replaced
abbrev pub replaced_first : List ℕ → List ℕ → List ℕ → List ℕ
replaced_first old new [] = []
replaced_first old new (b ∷ bs) =
    if starts_with nat_eq (b ∷ bs) old then new ++ drop (length old) (b ∷ bs)
    else b ∷ replaced_first old new bs

-- the label begins with a group `[set]`, and with none `[get]`
abbrev pub is_setter_label : List ℕ → Bool
is_setter_label label =
    list_any (bytes_eq (codes "[set]")) (groups_of label)
    && not (list_any (bytes_eq (codes "[get]")) (groups_of label))

-- the label of a setter's getter: `[get]` for the first `[set]`
abbrev pub getter_label : List ℕ → List ℕ
getter_label label = replaced_first (codes "[set]") (codes "[get]") label

-- the label of the getter that an entry asks for, where the entry is a setter
abbrev pub wanted_getter : WorldKey → WorldItem → Option (List ℕ)
wanted_getter (key.Name label) (item.Function function) =
    if is_setter_label label then Some (getter_label label) else None
wanted_getter k held = None

-- ---- where setters stand

-- is the key this label?
abbrev pub is_under : List ℕ → WorldKey → Bool
is_under label (key.Name name) = bytes_eq label name
is_under label (key.Interface i) = false

-- does the second entry stand under the label of the getter that the first one asks for?
abbrev pub is_getter_of : Entry → Entry → Bool
is_getter_of setter e =
    option_map_or (λ (label : List ℕ). is_under label e.0) (wanted_getter setter.0 setter.1) false

-- a list with x put just behind the first element that passes a test
abbrev pub put_behind : {X : Type 0} → (X → Bool) → X → List X → List X
put_behind passes x [] = x ∷ []
put_behind passes x (y ∷ ys) = if passes y then y ∷ x ∷ ys else y ∷ put_behind passes x ys

-- the list with each setter that stands before its getter moved to just behind it; nothing else moves
abbrev pub setters_placed : List Entry → List Entry
setters_placed [] = []
setters_placed (e ∷ es) =
    if list_any (is_getter_of e) es then put_behind (is_getter_of e) e (setters_placed es)
    else e ∷ setters_placed es
