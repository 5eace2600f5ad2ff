-- What the steps of a look-up have found, for the contracts of this crate's own functions.
use Rattle.std.specs.Prelude.{◌≡◌, ◌≢◌, ◌⊎◌, ◌&&◌, ◌<◌, ℕ, Bool, true, false, List, [], ◌∷◌, map, take, find, length, nat_eq, slice_get, slice_set, Option, None, Some, Contains, is_none, option_and_then, flat_map}
use Rattle.std.specs.List.{enumerate_from, list_any, range_with_len}
use Rattle.wit_data.specs.Each.{SomeAt}
use Rattle.wit_data.specs.Foreign.{ForeignItem, ForeignItems, interface_id, world_id}
use Rattle.wit_data.specs.declared.unresolved.AstItem.{AstItem}
use Rattle.wit_data.specs.declared.interface.Interface.{Interface}
use Rattle.wit_names.specs.declared.package_name.PackageName.{PackageName}
use Rattle.wit_data.specs.declared.stability.Stability.{Stability}
use Rattle.wit_data.specs.declared.unresolved.UnresolvedPackage.{UnresolvedPackage}
use Rattle.wit_data.specs.declared.world.World.{World}
use Rattle.wit_data.specs.declared.unresolved.AstItem.TheVariants as item
use Rattle.wit_graph_data.specs.Named as named
use Rattle.wit_graph_data.specs.declared.graph.Graph.{Graph}
use Rattle.wit_graph_data.specs.declared.error_kind.ResolveErrorKind.{ResolveErrorKind}
use Rattle.wit_graph_data.specs.declared.error_kind.ResolveErrorKind.TheVariants.{InterfaceNotFound, WorldNotFound}
use Rattle.wit_link_spec.specs.Addition.{Addition}
use Rattle.wit_link_spec.specs.Gates.{OptionalSpan, interface_is_active, world_is_active}
use Rattle.wit_link_spec.specs.Lookup.{find_interface, find_package, find_world, named_items}
use Rattle.wit_link_spec.specs.Reasons.{ForeignTypeMissing, HasPackage, LacksPackage}
use Rattle.wit_link_spec.specs.facts.RankFacts.{after}
use Rattle.wit_link_lookup.specs.declared.foreign.Found.{Found}

-- an item that is named: the place and the name of its package, and the item
abbrev pub NamedItem : Type 0
NamedItem = ℕ × PackageName × ForeignItem

-- what is named of the package at a place
abbrev pub named_of : ℕ × (PackageName × List ForeignItem) → List NamedItem
named_of e = map (λ (i : ForeignItem). (e.0, e.1.0, i)) e.1.1

-- what is named of the first n packages
abbrev pub named_before : ForeignItems → ℕ → List NamedItem
named_before deps n = flat_map named_of (take n (enumerate_from 0 deps))

-- the interface of a name in a package, if there is one
abbrev pub interface_in : Graph → Option ℕ → List ℕ → Option ℕ
interface_in g home name = option_and_then (named.interface_in g name) home

-- so for a world
abbrev pub world_in : Graph → Option ℕ → List ℕ → Option ℕ
world_in g home name = option_and_then (named.world_in g name) home

-- so for an item, as it is an interface or a world
abbrev pub item_in : Graph → Option ℕ → List ℕ → AstItem → Option ℕ
item_in g home name (item.Interface i) = interface_in g home name
item_in g home name (item.World w) = world_in g home name

-- where the graph has an item that is named
abbrev pub found_item : Addition → NamedItem → Option ℕ
found_item a e = item_in a.graph (find_package a.graph a.unresolved.name e.1) e.2.0 e.2.1.0

-- is the item active?
abbrev pub named_is_active : Addition → AstItem → Bool
named_is_active a (item.Interface i) = interface_is_active a.features a.unresolved i
named_is_active a (item.World w) = world_is_active a.features a.unresolved w

-- the error that tells that the item isn't in its package
abbrev pub not_found : AstItem → OptionalSpan → List ℕ → PackageName → ResolveErrorKind
not_found (item.Interface i) span requested home = InterfaceNotFound span requested home
not_found (item.World w) span requested home = WorldNotFound span requested home

-- these items are named of this package at a place, and the graph has it there; it is there, if any is named
pub record IsHome (a : Addition) (place : ℕ) (name : PackageName) (items : List ForeignItem)
    (home : Option ℕ) : Type 0 where
  pub is : slice_get a.unresolved.foreign_deps place ≡ Some (name, items)
  pub found : home ≡ find_package a.graph a.unresolved.name name
  pub there : items ≢ [] → HasPackage a.graph name ⊎ (name ≡ a.unresolved.name)

-- none of the first n packages of which something is named is missing
abbrev pub ArePackagesThere : Addition → ℕ → Type 0
ArePackagesThere a n =
    (span : OptionalSpan) (requested : PackageName) (known : List PackageName)
    (lacks : LacksPackage a span requested known) → lacks.at < n → ⊥

-- this item is named of a package that is there
pub record NamesItem (a : Addition) (name : PackageName) (home : Option ℕ) (requested : List ℕ)
    (it : AstItem) : Type 0 where
  pub at : ℕ
  pub notes : List Stability
  pub names : Contains (named_items a.unresolved.foreign_deps) (at, name, (requested, (it, notes)))
  pub home_is : home ≡ find_package a.graph a.unresolved.name name
  pub has_package : HasPackage a.graph name ⊎ (name ≡ a.unresolved.name)

-- of these items none is missing that is active
abbrev pub AreThere : Addition → List NamedItem → Type 0
AreThere a named =
    (e : NamedItem) → Contains named e → named_is_active a e.2.1.0 ≡ true → found_item a e ≡ None
    → ⊥

-- a look-up in a graph, to which a package of a name is added: of a name in the package of a name
abbrev pub Lookup : Type 0
Lookup = Graph → PackageName → PackageName → List ℕ → Option ℕ

-- where the first of these items is that has this id, by the ids and the look-up of its sort
abbrev pub first_among : (AstItem → List ℕ) → Lookup → Addition → List NamedItem → ℕ → Option ℕ
first_among ids look_up a named id =
    option_and_then (λ (e : NamedItem). look_up a.graph a.unresolved.name e.1 e.2.0)
    (find (λ (e : NamedItem). list_any (nat_eq id) (ids e.2.1.0)) named)

-- where the graph has the interfaces and worlds of a package, as far as these items tell
abbrev pub found_among : Addition → List NamedItem → Found
found_among a named = record {
  interfaces =
      map (first_among interface_id find_interface a named)
      (range_with_len 0 (length a.unresolved.interfaces));
  worlds =
      map (first_among world_id find_world a named) (range_with_len 0 (length a.unresolved.worlds));
}

-- there is an entry for the item
abbrev pub HasEntryFor : Found → AstItem → Type 0
HasEntryFor found (item.Interface i) = i < length found.interfaces
HasEntryFor found (item.World w) = w < length found.worlds

-- what is found, with where an item is
abbrev pub with_item : Found → AstItem → Option ℕ → Found
with_item found (item.Interface i) there =
    record found { interfaces = slice_set found.interfaces i there }
with_item found (item.World w) there = record found { worlds = slice_set found.worlds w there }

-- ---- what things are remapped to

-- what a thing is remapped to: nowhere if it isn't active, to what is found of it, or to the next id
abbrev pub goes : Bool → Option ℕ → ℕ → Option ℕ
goes false found next = None
goes true (Some id) next = Some id
goes true None next = Some next

-- does it take the next id?
abbrev pub has_new_id : Bool → Option ℕ → Bool
has_new_id active found = active && is_none found

-- what things are remapped to, one after another, from this next id on, by which are active and what is found of each
abbrev pub assigned_ids : ℕ → List Bool → List (Option ℕ) → List (Option ℕ)
assigned_ids next [] found = []
assigned_ids next (b ∷ active) [] = []
assigned_ids next (b ∷ active) (o ∷ found) =
    goes b o next ∷ assigned_ids (after (has_new_id b o) next) active found

-- type t isn't missing
abbrev pub IsTypeThere : Addition → ℕ → Type 0
IsTypeThere a t =
    (span : OptionalSpan) (message : List ℕ) (lacks : ForeignTypeMissing a span message)
    → lacks.t ≡ t → ⊥

-- none of the first n types is missing
abbrev pub AreTypesThere : Addition → ℕ → Type 0
AreTypesThere a n =
    (span : OptionalSpan) (message : List ℕ) (lacks : ForeignTypeMissing a span message)
    → lacks.t < n → ⊥
