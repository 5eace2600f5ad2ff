-- What the steps of a merge ask and hand on: the two graphs and what holds before anything is made of them, what functions
-- that move return, what is matched of the two graphs, and where the things of the other one go.
use Rattle.std.specs.Prelude.{◌≡◌, ℕ, List, length, map, find, nat_eq, option_and_then, slice_get, Option, Some, None, Contains, option_map, ◌<◌, true, [], filter, get_or, is_some, not, bytes_eq}
use Rattle.std.specs.List.{enumerate_from, range_with_len}
use Rattle.std.specs.Option.{option_eq}
use Rattle.wit_data.specs.Kind.{named_option, function_references, referred}
use Rattle.wit_data.specs.declared.function.Function.{Function}
use Rattle.wit_data.specs.declared.stability.Stability.{Stability}
use Rattle.wit_graph_data.specs.declared.cause.Cause.TheVariants as cause
use Rattle.wit_graph_data.specs.declared.error_kind.ResolveErrorKind.{ResolveErrorKind}
use Rattle.wit_graph_data.specs.declared.error_kind.ResolveErrorKind.TheVariants.{Semantic}
use Rattle.wit_elaboration.specs.Valid.{IsValid}
use Rattle.wit_remap_spec.specs.Image.{function_image, entry_image}
use Rattle.wit_remap_spec.specs.Borrows.{HoldsBorrow}
use Rattle.wit_remap.specs.steps.Fits.{PartsFit, Fits, FunctionFits, InterfaceFits, TypeFits, WorldFits}
use Rattle.wit_merge_spec.specs.Matches.{GraphMerge}
use Rattle.wit_merge_spec.specs.Merged.{merge_maps, value_remap, joined_graph, with_interface, with_package}
use Rattle.wit_merge_spec.specs.Cause.{HasNoMismatch, MergeReturnsBorrow}
use Rattle.wit_merge_match.specs.steps.Matched.{AreMatches, merge_ids_of, moves}
use Rattle.wit_merge.specs.declared.merge_plan.MergePlan.{MergePlan}
use Rattle.std.specs.Map.{lookup}
use Rattle.wit_values.specs.Table.{HasDistinctKeys}
use Rattle.wit_data.specs.Entries.{Entry}
use Rattle.wit_data.specs.declared.interface.Interface.{Interface}
use Rattle.wit_data.specs.declared.types.TypeDef.{TypeDef}
use Rattle.wit_data.specs.declared.types.TypeOwner.{TypeOwner}
use Rattle.wit_data.specs.declared.world.World.{World}
use Rattle.wit_data.specs.declared.world.WorldItem.{WorldItem}
use Rattle.wit_data.specs.declared.world.WorldKey.{WorldKey}
use Rattle.wit_data.specs.declared.types.TypeOwner.TheVariants as owner
use Rattle.wit_data.specs.declared.world.WorldItem.TheVariants as item
use Rattle.wit_data.specs.declared.world.WorldKey.TheVariants as key
use Rattle.wit_elaboration.specs.Entries.{same_key}
use Rattle.wit_graph_data.specs.declared.graph.Package.{Package}
use Rattle.wit_remap_spec.specs.Joined.{joined_stability}
use Rattle.wit_remap.specs.steps.Movers.{goes}
use Rattle.wit_remap_spec.specs.steps.Parts.{value_id}
use Rattle.wit_merge_spec.specs.steps.Parts.{moves_interface, moves_world, MergeOverflows, StabilitiesMismatch}

-- the place of the first one, from place n on, that is matched with thing x'
abbrev pub first_from : ℕ → List (Option ℕ) → ℕ → Option ℕ
first_from n found x' =
    option_map (λ (e : ℕ × Option ℕ). e.0)
    (find (λ (e : ℕ × Option ℕ). option_eq nat_eq e.1 (Some x')) (enumerate_from n found))

-- of each of so many things the first that is matched with it
abbrev pub firsts_from : ℕ → List (Option ℕ) → ℕ → List (Option ℕ)
firsts_from n found count = map (first_from n found) (range_with_len 0 count)

-- a thing with its place, where there is one
abbrev pub placed_at : {X : Type 0} → List X → Option ℕ → Option (ℕ × X)
placed_at {X} xs place =
    option_and_then (λ x. option_map (λ (it : X). (x, it)) (slice_get xs x)) place

-- the merge
abbrev pub merging_of : MergePlan → GraphMerge
merging_of u = record { graph = u.graph.now; other = u.other.now; offset = u.offset }

-- where the types of the other graph go at value positions, as a list
abbrev pub value_ids : GraphMerge → List ℕ
value_ids m = map (value_id (value_remap m)) (range_with_len 0 (length m.other.types))

-- the graphs are valid, nothing differs of them that has to agree, what is handed on is theirs, and spans can be moved
pub record CanMerge (u : MergePlan) : Type 0 where
  pub valid : IsValid u.graph.now
  pub valid_other : IsValid u.other.now
  pub one : HasNoMismatch (merging_of u)
  pub matches : AreMatches u.graph.now u.other.now u.matches.now
  pub merge_ids : u.merge_ids.now ≡ merge_ids_of (merging_of u)
  pub values : u.values.now ≡ value_ids (merging_of u)
  pub fits : PartsFit u.offset u.other.now.types u.other.now.interfaces u.other.now.worlds

-- with which interface of the other graph each one of the graph is matched
abbrev pub KnowsCounterparts : MergePlan → List (Option ℕ) → Type 0
KnowsCounterparts u counterparts =
    counterparts ≡ firsts_from 0 u.matches.now.interfaces (length u.graph.now.interfaces)

-- nothing differs that has to agree, all stabilities can be joined, and all spans can be moved
pub record DoAgree (m : GraphMerge) : Type 0 where
  pub one : HasNoMismatch m
  pub stabilities : (from into : Stability) → StabilitiesMismatch m from into → ⊥
  pub spans : MergeOverflows m → ⊥

-- what a function returns where it goes holds no borrow
pub record ReturnsFree (m : GraphMerge) (f : Function) : Type 0 where
  pub none : (t' : ℕ) → Contains (named_option (function_image (merge_maps m) f).result_) t'
      → HoldsBorrow (joined_graph m).types t' → ⊥

-- an error tells that a function that moves returns a borrow
pub record IsBorrowError (m : GraphMerge) (kind : ResolveErrorKind) : Type 0 where
  pub message : List ℕ
  pub is : kind ≡ Semantic None message cause.BorrowInResult
  pub returns : MergeReturnsBorrow m message

-- What the steps that join a thing to another, or move one, ask of it.

-- ids of the first so many
abbrev pub Within : ℕ → List ℕ → Type 0
Within count ids = (x : ℕ) → Contains ids x → x < count

-- the id of an owner is there
abbrev pub OwnerWithin : ℕ → ℕ → TypeOwner → Type 0
OwnerWithin interfaces worlds (owner.World w) = w < worlds
OwnerWithin interfaces worlds (owner.Interface i) = i < interfaces
OwnerWithin interfaces worlds owner.None = Unit {0}

-- ---- tables

-- the entries of a table whose things move, with what these are remapped to
abbrev pub moved_names : List (Option ℕ) → List (Option ℕ) → List (List ℕ × ℕ) → List (List ℕ × ℕ)
moved_names found new_ids from =
    map (λ (e : List ℕ × ℕ). (e.0, goes new_ids e.1))
    (filter (λ (e : List ℕ × ℕ). moves found e.1) from)

-- ---- types

-- a type can move: what it names is there, and its spans fit
pub record TypeMoves (m : GraphMerge) (def : TypeDef) : Type 0 where
  pub parts : Within (length m.other.types) (referred def.kind)
  pub owned : OwnerWithin (length m.other.interfaces) (length m.other.worlds) def.owner
  pub fits : TypeFits (Fits m.offset) def

-- ---- functions and interfaces

-- a function can move
pub record FunctionMoves (m : GraphMerge) (f : Function) : Type 0 where
  pub parts : Within (length m.other.types) (function_references f)
  pub fits : FunctionFits (Fits m.offset) f

-- functions under names can
abbrev pub FunctionsMove : GraphMerge → List (List ℕ × Function) → Type 0
FunctionsMove m functions = (e : List ℕ × Function) → Contains functions e → FunctionMoves m e.1

-- functions under names, at their places
abbrev pub functions_image : GraphMerge → List (List ℕ × Function) → List (List ℕ × Function)
functions_image m functions =
    map (λ (e : List ℕ × Function). (e.0, function_image (merge_maps m) e.1)) functions

-- those of some functions whose names aren't among known ones
abbrev pub brought_matched : List (List ℕ × Function) → List (List ℕ × Function)
    → List (List ℕ × Function)
brought_matched known from =
    filter (λ (e : List ℕ × Function). not (is_some (lookup (bytes_eq e.0) known))) from

-- an interface can move: it is of a package that is there, and so is what it lists
pub record InterfaceMoves (m : GraphMerge) (interface : Interface) : Type 0 where
  pub home : ℕ
  pub home_is : interface.package ≡ Some home
  pub there : home < length m.other.packages
  pub types : (e : List ℕ × ℕ) → Contains interface.types e → e.1 < length m.other.types
  pub functions : FunctionsMove m interface.functions
  pub fits : InterfaceFits (Fits m.offset) interface

-- an interface can be joined to another: the names of what it brings are new there
pub record InterfaceJoins (m : GraphMerge) (from into : Interface) : Type 0 where
  pub types_apart : HasDistinctKeys (with_interface m from into).types
  pub functions_apart : HasDistinctKeys (with_interface m from into).functions
  pub types : (e : List ℕ × ℕ) → Contains from.types e → e.1 < length m.other.types
  pub functions : FunctionsMove m from.functions

-- ---- packages

-- the names of what comes to the tables of a package differ there
pub record PackageJoins (m : GraphMerge) (from into : Package) : Type 0 where
  pub interfaces_apart : HasDistinctKeys (with_package m from into).interfaces
  pub worlds_apart : HasDistinctKeys (with_package m from into).worlds
  pub interfaces : (e : List ℕ × ℕ) → Contains from.interfaces e → e.1 < length m.other.interfaces
  pub worlds : (e : List ℕ × ℕ) → Contains from.worlds e → e.1 < length m.other.worlds

-- a package can move: so do all its interfaces and worlds
pub record PackageMoves (m : GraphMerge) (home : Package) : Type 0 where
  pub interfaces_apart : HasDistinctKeys home.interfaces
  pub worlds_apart : HasDistinctKeys home.worlds
  pub interfaces : (e : List ℕ × ℕ) → Contains home.interfaces e
      → (e.1 < length m.other.interfaces) × (moves_interface m e.1 ≡ true)
  pub worlds : (e : List ℕ × ℕ) → Contains home.worlds e
      → (e.1 < length m.other.worlds) × (moves_world m e.1 ≡ true)

-- ---- worlds

-- the stability of an interface that stands under the one that is matched with that of a key
abbrev pub stability_of : WorldItem → Option Stability
stability_of (item.Interface i stability docs span external_id) = Some stability
stability_of held = None

abbrev pub stability_under : List (Option ℕ) → List Entry → WorldKey → Option Stability
stability_under counterparts from (key.Interface i') =
    option_and_then (λ i. option_and_then stability_of (lookup (same_key (key.Interface i)) from))
    (get_or counterparts i' None)
stability_under counterparts from (key.Name label) = None

-- an item, with a stability joined to it where it is an interface
abbrev pub stability_joined : Option Stability → WorldItem → WorldItem
stability_joined (Some from) (item.Interface i into docs span external_id) =
    item.Interface i (joined_stability from into) docs span external_id
stability_joined from held = held

-- an entry, with the stability joined to it of what stands under its key among entries of the other graph
abbrev pub entry_joined : List (Option ℕ) → List Entry → Entry → Entry
entry_joined counterparts from e =
    (e.0, stability_joined (stability_under counterparts from e.0) e.1)

-- the ids of an entry are there
abbrev pub KeyWithin : ℕ → WorldKey → Type 0
KeyWithin interfaces (key.Name label) = Unit {0}
KeyWithin interfaces (key.Interface i) = i < interfaces

abbrev pub ItemWithin : ℕ → ℕ → WorldItem → Type 0
ItemWithin types interfaces (item.Interface i stability docs span external_id) = i < interfaces
ItemWithin types interfaces (item.Function f) = Within types (function_references f)
ItemWithin types interfaces (item.Type_ t span) = t < types

pub record EntryWithin (types interfaces : ℕ) (e : Entry) : Type 0 where
  pub key : KeyWithin interfaces e.0
  pub held : ItemWithin types interfaces e.1

-- a world can move: it is of a package that is there, and so is what it holds; its keys differ where it goes
pub record WorldMoves (m : GraphMerge) (world : World) : Type 0 where
  pub home : ℕ
  pub home_is : world.package ≡ Some home
  pub there : home < length m.other.packages
  pub imports : (e : Entry) → Contains world.imports e
      → EntryWithin (length m.other.types) (length m.other.interfaces) e
  pub exports : (e : Entry) → Contains world.exports e
      → EntryWithin (length m.other.types) (length m.other.interfaces) e
  pub imports_apart : HasDistinctKeys (map (entry_image (merge_maps m) 0) world.imports)
  pub exports_apart : HasDistinctKeys (map (entry_image (merge_maps m) 0) world.exports)
  pub includes : world.includes ≡ []
  pub fits : WorldFits (Fits m.offset) world

-- ---- names

-- a world can be joined to another: the keys of each of its lists differ, and the interfaces of its keys are there
pub record WorldJoins (m : GraphMerge) (into : World) : Type 0 where
  pub imports_apart : HasDistinctKeys into.imports
  pub exports_apart : HasDistinctKeys into.exports
  pub imports : (e : Entry) → Contains into.imports e → KeyWithin (length m.graph.interfaces) e.0
  pub exports : (e : Entry) → Contains into.exports e → KeyWithin (length m.graph.interfaces) e.0
