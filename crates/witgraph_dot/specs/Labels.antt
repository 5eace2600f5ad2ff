-- The interfaces of a world that stand under labels.
use Rattle.std.specs.Prelude.{ℕ, Option, Some, None}
use Rattle.wit_data.specs.Entries.{Entry}
use Rattle.wit_data.specs.declared.world.WorldItem.TheVariants as item
use Rattle.wit_data.specs.declared.world.WorldKey.TheVariants as key

-- the interface of an entry under a label
abbrev pub labelled_interface : Entry → Option ℕ
labelled_interface (key.Name label, item.Interface i stability docs span external_id) = Some i
labelled_interface _ = None
