-- Stabilities that can't be joined, at one place of the lists of two graphs: the words of the steps that look for some.
use Rattle.std.specs.Prelude.{◌≡◌, ℕ, Bool, List, Option, None, Some, nat_eq, option_and_then, if◌then◌else◌}
use Rattle.std.specs.Map.{lookup}
use Rattle.wit_data.specs.Entries.{Entry, entries_of}
use Rattle.wit_data.specs.declared.interface.Interface.{Interface}
use Rattle.wit_data.specs.declared.stability.Stability.{Stability}
use Rattle.wit_data.specs.declared.types.TypeDef.{TypeDef}
use Rattle.wit_data.specs.declared.world.World.{World}
use Rattle.wit_data.specs.declared.world.WorldItem.{WorldItem}
use Rattle.wit_data.specs.declared.world.WorldKey.{WorldKey}
use Rattle.wit_data.specs.declared.world.WorldItem.TheVariants as item
use Rattle.wit_data.specs.declared.world.WorldKey.TheVariants as key
use Rattle.wit_elaboration.specs.Entries.{same_key}
use Rattle.wit_remap_spec.specs.Joined.{Disagree, HasStability}
use Rattle.wit_merge_spec.specs.Matches.{GraphMerge, counterpart_interface, counterpart_type, counterpart_world}
use Rattle.wit_merge_match.specs.steps.Differing.{DifferAt}

-- two stabilities disagree, and these are the two
pub record AreApart (from into : Stability) (s : Stability × Stability) : Type 0 where
  pub from_is : s.0 ≡ from
  pub into_is : s.1 ≡ into
  pub apart : Disagree s.0 s.1

-- ---- entries

-- the stability of an interface that stands under its own key
abbrev pub own_stability : WorldKey → WorldItem → Option Stability
own_stability (key.Interface i) (item.Interface id stability docs span external_id) =
    if nat_eq id i then Some stability else None
own_stability k held = None

-- that of the interface that is matched with the one of a key, where it stands under its own
abbrev pub matched_stability : GraphMerge → List Entry → WorldKey → Option Stability
matched_stability m into (key.Interface i) =
    option_and_then (λ i'.
    option_and_then (own_stability (key.Interface i'))
    (lookup (same_key (key.Interface i')) into)) (counterpart_interface m i)
matched_stability m into (key.Name label) = None

-- those of an entry and of the one under its key
pub record EntryApart (m : GraphMerge) (into : List Entry) (k : WorldKey) (held : WorldItem)
    (s : Stability × Stability) : Type 0 where
  pub comes : own_stability k held ≡ Some s.0
  pub there : matched_stability m into k ≡ Some s.1
  pub apart : Disagree s.0 s.1

-- two of two lists of entries
pub record EntriesApart (m : GraphMerge) (from into : List Entry) (s : Stability × Stability) : Type
    0 where
  pub i : ℕ
  pub i' : ℕ
  pub matched : counterpart_interface m i ≡ Some i'
  pub comes : HasStability from i s.0
  pub there : HasStability into i' s.1
  pub apart : Disagree s.0 s.1

-- those of two worlds themselves, or of their imports or exports
pub data WorldsApart (m : GraphMerge) (from into : World) (s : Stability × Stability) : Type 0 where
  own : AreApart from.stability into.stability s → WorldsApart m from into s
  entries : (exported : Bool)
      → EntriesApart m (entries_of exported from) (entries_of exported into) s
      → WorldsApart m from into s

-- ---- types, interfaces and worlds

-- those of type t of the other graph and of the one with which it is matched
abbrev pub TypesApartAt : GraphMerge → ℕ → Stability × Stability → Type 0
TypesApartAt m =
    DifferAt (counterpart_type m) m.other.types m.graph.types
    (λ (from into : TypeDef). AreApart from.stability into.stability)

-- so of interface i
abbrev pub InterfacesApartAt : GraphMerge → ℕ → Stability × Stability → Type 0
InterfacesApartAt m =
    DifferAt (counterpart_interface m) m.other.interfaces m.graph.interfaces
    (λ (from into : Interface). AreApart from.stability into.stability)

-- and of world w
abbrev pub WorldsApartAt : GraphMerge → ℕ → Stability × Stability → Type 0
WorldsApartAt m = DifferAt (counterpart_world m) m.other.worlds m.graph.worlds (WorldsApart m)
