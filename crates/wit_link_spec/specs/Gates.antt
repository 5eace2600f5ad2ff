-- Feature gates: which things of an unresolved package are active, which are excluded, and whose gates are asked. A
-- gate is a note on an item: none, `@since(version = ..)`, or `@unstable(feature = ..)`, of which the deprecation is
-- never asked. A foreign interface or world has several notes, one for each time that it is named.
-- Source: the WIT page of the component model, "Feature gates"; `include_stability` of wit-parser 0.263.0.
pub use Rattle.wit_sources.specs.Span.{OptionalSpan}
use Rattle.wit_remap_spec.specs.Spans.{interface_spans, type_spans, world_spans}
use Rattle.std.specs.Prelude.{◌≡◌, ◌⊎◌, ◌||◌, ℕ, suc, Bool, true, false, List, [], ◌∷◌, length, take, nat_eq, nat_lt, slice_get, Some, Contains, if◌then◌else◌, flat_map, bytes_eq, ◌++◌, map}
use Rattle.std.specs.List.{list_any, position_or_len}
use Rattle.std.specs.Option.{option_map_or}
use Rattle.wit_data.specs.Foreign.{ForeignItem, ForeignItems, interface_id, world_id, foreign_interfaces, foreign_worlds}
use Rattle.wit_data.specs.Entries.{Entry}
use Rattle.wit_data.specs.declared.unresolved.AstItem.{AstItem}
use Rattle.wit_data.specs.declared.function.Function.{Function}
use Rattle.wit_data.specs.declared.interface.Interface.{Interface}
use Rattle.wit_names.specs.declared.package_name.PackageName.{PackageName}
use Rattle.wit_data.specs.declared.stability.Stability.{Stability}
use Rattle.wit_data.specs.declared.types.TypeDef.{TypeDef}
use Rattle.wit_data.specs.declared.unresolved.UnresolvedPackage.{UnresolvedPackage}
use Rattle.wit_data.specs.declared.world.World.{World}
use Rattle.wit_data.specs.declared.world.WorldInclude.{WorldInclude}
use Rattle.wit_data.specs.declared.world.WorldItem.{WorldItem}
use Rattle.wit_data.specs.declared.stability.Stability.TheVariants.{Unknown, Stable, Unstable}
use Rattle.wit_data.specs.declared.world.WorldItem.TheVariants as item
use Rattle.wit_graph_data.specs.declared.features.Features.{Features}

-- ---- notes

-- the note lets its item be active. A `@since` does: one that the package's version doesn't reach is a
-- fault of its own, and no reason to leave the item out
abbrev pub is_active : Features → Stability → Bool
is_active features Unknown = true
is_active features (Stable since deprecated) = true
is_active features (Unstable feature deprecated) =
    features.all || list_any (bytes_eq feature) features.names

-- of several notes those that are asked: in order, up to the first active one
abbrev pub asked_gates : Features → List Stability → List Stability
asked_gates features notes = take (suc (position_or_len (is_active features) notes)) notes

-- ---- the gates of interfaces and worlds

-- the gates of a foreign item that has this id among those of its sort
abbrev pub foreign_gates : (AstItem → List ℕ) → ForeignItems → ℕ → List Stability
foreign_gates id deps i =
    flat_map (λ (named : ForeignItem). if list_any (nat_eq i) (id named.1.0) then named.1.1 else [])
    (flat_map (λ (e : PackageName × List ForeignItem). e.1) deps)

-- is interface i of the package one of another package? So for worlds
abbrev pub is_foreign_interface : UnresolvedPackage → ℕ → Bool
is_foreign_interface u i = nat_lt i (length (foreign_interfaces u.foreign_deps))

-- is world w of the package one of another package?
abbrev pub is_foreign_world : UnresolvedPackage → ℕ → Bool
is_foreign_world u w = nat_lt w (length (foreign_worlds u.foreign_deps))

-- the gates of interface i: of a foreign one those with which it is named, else its own
abbrev pub interface_gates : UnresolvedPackage → ℕ → List Stability
interface_gates u i =
    if is_foreign_interface u i then foreign_gates interface_id u.foreign_deps i
    else option_map_or (λ (interface : Interface). interface.stability ∷ [])
    (slice_get u.interfaces i) []

-- the gates of world w
abbrev pub world_gates : UnresolvedPackage → ℕ → List Stability
world_gates u w =
    if is_foreign_world u w then foreign_gates world_id u.foreign_deps w
    else option_map_or (λ (world : World). world.stability ∷ []) (slice_get u.worlds w) []

-- ---- what is active

-- a type is active where its gate is active, whatever its owner's is
abbrev pub type_is_active : Features → List TypeDef → ℕ → Bool
type_is_active features types t =
    option_map_or (λ (def : TypeDef). is_active features def.stability) (slice_get types t) false

-- is interface i active? Where one of its gates is
abbrev pub interface_is_active : Features → UnresolvedPackage → ℕ → Bool
interface_is_active features u i = list_any (is_active features) (interface_gates u i)

-- is world w active?
abbrev pub world_is_active : Features → UnresolvedPackage → ℕ → Bool
world_is_active features u w = list_any (is_active features) (world_gates u w)

-- an entry of an active world is active where its gate is; an entry that is a type has the gate of the type. So of a
-- function of an active interface, and of an include of an active world: each is active where its own gate is
abbrev pub item_is_active : Features → List TypeDef → WorldItem → Bool
item_is_active features types (item.Interface id stability docs span external_id) =
    is_active features stability
item_is_active features types (item.Function function) = is_active features function.stability
item_is_active features types (item.Type_ id span) = type_is_active features types id

-- ---- what is asked

-- a world imports or exports the entry
abbrev pub HasEntry : World → Entry → Type 0
HasEntry world e = Contains world.imports e ⊎ Contains world.exports e

-- the gate of an entry that has one of its own, and its span
abbrev pub HasOwnGate : WorldItem → Stability → OptionalSpan → Type 0
HasOwnGate (item.Interface id stability docs span external_id) note place =
    (note ≡ stability) × (place ≡ span)
HasOwnGate (item.Function function) note place =
    (note ≡ function.stability) × (place ≡ function.span)
HasOwnGate (item.Type_ id span) note place = ⊥

-- the gates that are asked, each with the span of its item
pub data IsAsked (features : Features) (u : UnresolvedPackage) : Stability → OptionalSpan
    → Type 0 where
  -- those of all types, also of foreign ones and of those whose owner is excluded
  of_type : (t : ℕ) (def : TypeDef) → slice_get u.types t ≡ Some def
      → IsAsked features u def.stability def.span
  -- those of interfaces and worlds: of foreign ones up to the first active gate
  of_interface : (i : ℕ) (interface : Interface) (note : Stability)
      → slice_get u.interfaces i ≡ Some interface
      → Contains (asked_gates features (interface_gates u i)) note
      → IsAsked features u note interface.span
  of_world : (w : ℕ) (world : World) (note : Stability) → slice_get u.worlds w ≡ Some world
      → Contains (asked_gates features (world_gates u w)) note → IsAsked features u note world.span
  -- those of the functions of interfaces that are active
  of_function : (i : ℕ) (interface : Interface) (name : List ℕ) (f : Function)
      → slice_get u.interfaces i ≡ Some interface → interface_is_active features u i ≡ true
      → Contains interface.functions (name, f) → IsAsked features u f.stability f.span
  -- those of the entries and the includes of worlds that are active
  of_entry : (w : ℕ) (world : World) (e : Entry) (note : Stability) (place : OptionalSpan)
      → slice_get u.worlds w ≡ Some world → world_is_active features u w ≡ true
      → HasEntry world e → HasOwnGate e.1 note place → IsAsked features u note place
  of_include : (w : ℕ) (world : World) (i : WorldInclude) → slice_get u.worlds w ≡ Some world
      → world_is_active features u w ≡ true
      → Contains world.includes i → IsAsked features u i.stability i.span

-- all of a package
abbrev pub package_spans : UnresolvedPackage → List OptionalSpan
package_spans u =
    u.package_name_span
    ∷ (u.foreign_dep_spans
    ++ (u.unknown_type_spans ++ (map (λ (r : ℕ × OptionalSpan). r.1) u.required_resource_types
    ++ (flat_map type_spans u.types
    ++ (flat_map interface_spans u.interfaces ++ flat_map world_spans u.worlds)))))
