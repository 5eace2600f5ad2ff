-- What of a package is active, and what of that is its own.
use Rattle.std.specs.Prelude.{ℕ, Bool, false, List, slice_get, unwrap_or}
use Rattle.wit_data.specs.declared.world.WorldItem.{WorldItem}
use Rattle.wit_data.specs.declared.world.WorldItem.TheVariants as item
use Rattle.wit_graph_data.specs.declared.features.Features.{Features}
use Rattle.wit_remap_spec.specs.Kept.{KeptIds}
use Rattle.wit_link_spec.specs.Gates.{is_active}
use Rattle.wit_link_spec.specs.declared.addition.Activity.{Activity}
use Rattle.wit_remap.specs.declared.part.Part.{Part}
use Rattle.wit_link_spec.specs.steps.Parts.{function_is_active}

-- the flag at an index
abbrev pub flag : List Bool → ℕ → Bool
flag flags i = unwrap_or (slice_get flags i) false

-- an entry of a world that is active, where it is told which types are
abbrev pub has_item : Features → (ℕ → Bool) → WorldItem → Bool
has_item features types (item.Interface id stability docs span external_id) =
    is_active features stability
has_item features types (item.Function function) = function_is_active features function
has_item features types (item.Type_ id span) = types id

-- what is active
abbrev pub kept_with : Features → Activity → KeptIds
kept_with features activity = record {
  types = flag activity.types;
  interfaces = flag activity.interfaces;
  worlds = flag activity.worlds;
  functions = function_is_active features;
  items = has_item features (flag activity.types);
}

abbrev pub kept_of : Part → KeptIds
kept_of part = kept_with part.features.now part.activity.now
