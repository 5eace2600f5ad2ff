-- Keys of worlds that are there.
use Rattle.std.proofs.Common.{◌≡◌, ℕ, List, Some, slice_get, ap, ◌∙◌}
use Rattle.std.specs.Map.{lookup}
use Rattle.wit_data.specs.declared.world.World.{World}
use Rattle.wit_data.specs.declared.world.WorldItem.{WorldItem}
use Rattle.wit_data.specs.declared.world.WorldKey.TheVariants as key
use Rattle.std.specs.Option.{option_and_then}
use Rattle.wit_data.specs.Entries.{item_type}
use Rattle.wit_script_package.specs.Naming.{same_key}
use Rattle.wit_script_package.specs.declared.draft.Draft.{Draft}
use Rattle.wit_script_package.specs.steps.Parts.{world_type_at}

-- a type of a world, found under its name
pub world-type-is : (p : Draft) (name : List ℕ) (at : ℕ) (world : World) (found : WorldItem) → slice_get p.worlds at ≡ Some world
    → lookup (same_key (key.Name name)) world.imports ≡ Some found → world_type_at p name at ≡ item_type found
world-type-is p name at world found there under =
    ap (option_and_then (λ (w : World). option_and_then item_type (lookup (same_key (key.Name name)) w.imports))) there
    ∙ ap (option_and_then item_type) under
