-- Words of inner contracts and proofs, beside `Setters`.
use Rattle.std.specs.Prelude.{◌≡◌, ℕ, ◌&&◌, Bool, false, List, Contains, Some, slice_get}
use Rattle.std.specs.Map.{keys_of}
use Rattle.wit_data.specs.Entries.{Entry}
use Rattle.wit_data.specs.declared.world.WorldItem.{WorldItem}
use Rattle.wit_data.specs.declared.world.WorldItem.TheVariants as item
use Rattle.wit_data.specs.declared.world.WorldKey.TheVariants as key
use Rattle.wit_labels.specs.Setters.{is_setter_label, getter_label}

-- is the entry a function?
abbrev pub is_function : WorldItem → Bool
is_function (item.Interface id stability docs span external_id) = false
is_function (item.Function function) = Bool.true
is_function (item.Type_ id span) = false

-- the entry is a setter under this label
abbrev pub IsSetter : List ℕ → Entry → Type 0
IsSetter label e = (e.0 ≡ key.Name label) × (is_function e.1 && is_setter_label label ≡ Bool.true)

-- each setter's getter, or whatever has its label, is in the same list
abbrev pub HaveGetters : List Entry → Type 0
HaveGetters entries =
    (e : Entry) (label : List ℕ) → Contains entries e → IsSetter label e
    → Contains (keys_of entries) (key.Name (getter_label label))

-- the entry at this index is a setter without a getter
pub record LacksGetterAt (entries : List Entry) (index : ℕ) : Type 0 where
  pub label : List ℕ
  pub entry : Entry
  pub at : slice_get entries index ≡ Some entry
  pub setter : IsSetter label entry
  pub absent : Contains (keys_of entries) (key.Name (getter_label label)) → ⊥
