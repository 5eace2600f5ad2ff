-- An interface that comes to a world, by an include or a merge, which has it already: which stability it has then, and
-- when the two disagree.
-- Source: `update_stability` of wit-parser 0.263.0.
use Rattle.std.specs.Prelude.{◌≢◌, ℕ, Bool, true, List, Option, Contains}
use Rattle.std.specs.Map.{lookup}
use Rattle.std.specs.Option.{option_map_or}
use Rattle.wit_sources.specs.Span.{OptionalSpan}
use Rattle.wit_data.specs.Entries.{Entry}
use Rattle.wit_data.specs.declared.stability.Docs.{Docs}
use Rattle.wit_data.specs.declared.stability.Stability.{Stability}
use Rattle.wit_data.specs.declared.world.WorldItem.{WorldItem}
use Rattle.wit_data.specs.declared.stability.Stability.TheVariants.{Unknown, Stable}
use Rattle.wit_data.specs.declared.world.WorldItem.TheVariants as item
use Rattle.wit_data.specs.declared.world.WorldKey.TheVariants as key
use Rattle.wit_elaboration.specs.Entries.{same_key}

-- a known stability replaces an unknown one
abbrev pub joined_stability : Stability → Stability → Stability
joined_stability Unknown into = into
joined_stability from into = from

-- the same under an include: the `@since` of a world of another package says nothing here, and leaves
-- what it joins unknown
abbrev pub include_stability : Bool → Stability → Stability → Stability
include_stability true (Stable since deprecated) into = Unknown
include_stability other from into = joined_stability from into

-- an interface that stands under its own key, with a stability joined to it
abbrev pub joined_item : Bool → WorldItem → WorldItem → WorldItem
joined_item other (item.Interface i from docs span external_id)
    (item.Interface i' into docs' span' external_id') =
    item.Interface i' (include_stability other from into) docs' span' external_id'
joined_item other from into = into

-- an entry that is there keeps all but its stability, which that of a brought entry of its key joins
abbrev pub joined_entry : Bool → List Entry → Entry → Entry
joined_entry other brought e = (
  e.0,
  option_map_or (λ (from : WorldItem). joined_item other from e.1)
      (lookup (same_key e.0) brought) e.1,
)

-- the entry under the key of an interface, with its stability
abbrev pub HasStability : List Entry → ℕ → Stability → Type 0
HasStability entries i stability =
    (docs : Docs) × (place : OptionalSpan) × (external_id : Option (List ℕ))
    × Contains entries (key.Interface i, item.Interface i stability docs place external_id)

-- two stabilities disagree: both are known, and they differ
pub record Disagree (from into : Stability) : Type 0 where
  pub from_known : from ≢ Unknown
  pub into_known : into ≢ Unknown
  pub differ : from ≢ into
