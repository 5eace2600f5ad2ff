-- Words of inner contracts and proofs, beside `Ownership`.
use Rattle.std.specs.Prelude.{◌≡◌, ℕ, Option, Some}
use Rattle.wit_data.specs.declared.world.WorldItem.{WorldItem}
use Rattle.wit_data.specs.declared.world.WorldItem.TheVariants as item

-- the item is there, and is type id
abbrev pub IsTypeItem : Option WorldItem → ℕ → Type 0
IsTypeItem (Some (item.Type_ id span)) i = id ≡ i
IsTypeItem _ i = ⊥
