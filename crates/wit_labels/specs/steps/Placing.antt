-- How setters are placed, by numbers: the words of this crate's own functions.
use Rattle.std.specs.Prelude.{◌≡◌, ◌+◌, ℕ, List, [], ◌∷◌, length, map, nat_eq, Option, Some, None, ◌<◌, position, slice_get, slice_index, option_and_then}
use Rattle.std.specs.Map.{keys_of}
use Rattle.wit_data.specs.Entries.{Entry}
use Rattle.wit_labels.specs.Setters.{is_under, put_behind, wanted_getter}
use Rattle.wit_labels.specs.steps.Parts.{after, indexed_entries}

-- the index of the getter of the setter at index i, where it stands after i
abbrev pub later_getter : List Entry → ℕ → Entry → Option ℕ
later_getter entries i e =
    after i (option_and_then (λ (label : List ℕ). position (is_under label) (keys_of entries))
    (wanted_getter e.0 e.1))

-- of each entry the index of the getter that it waits for
abbrev pub getters_of : List Entry → List (Option ℕ)
getters_of entries = map (λ (p : ℕ × Entry). later_getter entries p.0 p.1) (indexed_entries entries)

-- an index put just behind the getter that it waits for, in front where it waits for none
abbrev pub put_index : ℕ → Option ℕ → List ℕ → List ℕ
put_index i None order = i ∷ order
put_index i (Some getter) order = put_behind (nat_eq getter) i order

-- the indices from one on, each put to those after it
abbrev pub order_from : ℕ → List (Option ℕ) → List ℕ
order_from i [] = []
order_from i (getter ∷ getters) = put_index i getter (order_from (i + 1) getters)

-- the indices with each setter after its getter
abbrev pub order_after_getters : List (Option ℕ) → List ℕ
order_after_getters getters = order_from 0 getters

-- a setter waits for a getter that stands after it
abbrev pub AreLater : List (Option ℕ) → Type 0
AreLater getters = (s g : ℕ) → slice_get getters s ≡ Some (Some g) → (s < g) × (g < length getters)

-- from an index on come these, and then the end
abbrev pub Leads : List ℕ → ℕ → List ℕ → ℕ → Type 0
Leads next i [] end = i ≡ end
Leads next i (o ∷ order) end = (i ≡ o) × Leads next (slice_index next o) order end

-- what comes after each index: after the end the first one of an order, and so on to the end
pub record IsRing (next order : List ℕ) (end : ℕ) : Type 0 where
  pub long : length next ≡ end + 1
  pub leads : Leads next (slice_index next end) order end
