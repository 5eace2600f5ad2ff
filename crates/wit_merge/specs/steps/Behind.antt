-- What comes of another graph behind what a graph has: what the steps ask of it, and what they tell.
use Rattle.std.specs.Prelude.{◌≡◌, ◌<◌, ◌⊎◌, ℕ, List, ◌++◌, None, Contains, filter, length, map, take}
use Rattle.std.specs.List.{flat_map}
use Rattle.wit_values.specs.Table.{HasDistinctKeys}
use Rattle.wit_digraph.specs.Relation.{IsAcyclic}
use Rattle.wit_names.specs.declared.package_name.PackageName.{PackageName}
use Rattle.wit_data.specs.Kind.{named_option, type_references}
use Rattle.wit_data.specs.Uses.{uses_of}
use Rattle.wit_data.specs.declared.function.Function.{Function}
use Rattle.wit_data.specs.declared.interface.Interface.{Interface}
use Rattle.wit_data.specs.declared.types.TypeDef.{TypeDef}
use Rattle.wit_data.specs.declared.world.World.{World}
use Rattle.wit_graph_data.specs.declared.cause.Cause.TheVariants as cause
use Rattle.wit_graph_data.specs.declared.graph.Graph.{Graph}
use Rattle.wit_graph_data.specs.declared.error_kind.ResolveErrorKind.{ResolveErrorKind}
use Rattle.wit_graph_data.specs.declared.error_kind.ResolveErrorKind.TheVariants.{Semantic}
use Rattle.wit_elaboration.specs.Elaboration.{elaborated_world, graph_uses}
use Rattle.wit_elaboration.specs.steps.Elaboration.{IsRefusedWorld}
use Rattle.wit_elaboration.specs.Imported.{HasTransitiveConflict}
use Rattle.wit_elaboration.specs.Sound.{HasSoundEntries}
use Rattle.wit_remap_spec.specs.Image.{interface_image}
use Rattle.wit_remap_spec.specs.Borrows.{borrow_text, HoldsBorrow}
use Rattle.wit_remap_spec.specs.Selected.{selected}
use Rattle.wit_remap_spec.specs.ValueRemap.{types_behind, world_functions}
use Rattle.wit_merge_spec.specs.Matches.{GraphMerge}
use Rattle.wit_merge_spec.specs.Merged.{merge_maps, merged_package, package_image, value_remap}
use Rattle.wit_merge_spec.specs.steps.Leaving.{new_worlds}
use Rattle.wit_merge.specs.declared.coming.Coming.{Coming}
use Rattle.wit_merge_spec.specs.steps.Parts.{moved_interfaces, moves_package}

-- the names of packages that move, with where these go
abbrev pub new_names : GraphMerge → List (PackageName × ℕ)
new_names m =
    map (λ (e : PackageName × ℕ). (e.0, merged_package m e.1))
    (filter (λ (e : PackageName × ℕ). moves_package m e.1) m.other.package_names)

-- all that moves, where it goes
pub record IsComing (m : GraphMerge) (coming : Coming) : Type 0 where
  pub types : coming.types ≡ types_behind (value_remap m)
  pub interfaces : coming.interfaces ≡ map (interface_image (merge_maps m)) (moved_interfaces m)
  pub worlds : coming.worlds ≡ new_worlds m
  pub packages : coming.packages
      ≡ map (package_image m) (selected (moves_package m) m.other.packages)
  pub package_names : coming.package_names ≡ new_names m

-- ---- behind a graph

-- a graph with what comes behind it
abbrev pub with_coming : Graph → Coming → Graph
with_coming g coming = record {
  types = g.types ++ coming.types;
  interfaces = g.interfaces ++ coming.interfaces;
  worlds = g.worlds ++ coming.worlds;
  packages = g.packages ++ coming.packages;
  package_names = g.package_names ++ coming.package_names;
}

-- the same, with the worlds that come elaborated
abbrev pub with_elaborated : Graph → Coming → Graph
with_elaborated g coming =
    record (with_coming g coming)
    { worlds = g.worlds ++ map (elaborated_world (with_coming g coming)) coming.worlds }

-- the functions of interfaces and of worlds
abbrev pub functions_of : List Interface → List World → List Function
functions_of interfaces worlds =
    flat_map (λ (interface : Interface). map (λ (e : List ℕ × Function). e.1) interface.functions)
    interfaces ++ flat_map world_functions worlds

-- the results of some functions are there
abbrev pub AreReturned : List TypeDef → List Function → Type 0
AreReturned types functions =
    (f : Function) (t : ℕ) → Contains functions f → Contains (named_option f.result_) t
    → t < length types

-- and hold no borrow
abbrev pub ReturnNoBorrow : List TypeDef → List Function → Type 0
ReturnNoBorrow types functions =
    (f : Function) (t : ℕ) → Contains functions f → Contains (named_option f.result_) t
    → HoldsBorrow types t → ⊥

-- an error tells that one of some functions returns a borrow
pub record ReturnsBorrow (types : List TypeDef) (functions : List Function)
    (kind : ResolveErrorKind) : Type 0 where
  pub f : Function
  pub t : ℕ
  pub there : Contains functions f
  pub result_is : Contains (named_option f.result_) t
  pub holds : HoldsBorrow types t
  pub is : kind ≡ Semantic None (borrow_text f.name) cause.BorrowInResult

-- the lists of some worlds are in order over a graph
abbrev pub AreListed : Graph → List World → Type 0
AreListed g worlds =
    (world : World) → Contains worlds world
    → HasSoundEntries g.types (length g.interfaces) world.imports world.exports

-- and none of them is in conflict
abbrev pub AreClear : Graph → List World → Type 0
AreClear g worlds =
    (world : World) → Contains worlds world → HasTransitiveConflict (graph_uses g) world.exports → ⊥

-- what comes can be put behind a graph
pub record CanAppend (g : Graph) (coming : Coming) : Type 0 where
  pub names : HasDistinctKeys (g.package_names ++ coming.package_names)
  pub types : IsAcyclic (type_references (with_coming g coming).types)
  pub rows : graph_uses g
      ≡ uses_of (with_coming g coming).types
      (take (length (graph_uses g)) (with_coming g coming).interfaces)
  pub uses : IsAcyclic (graph_uses (with_coming g coming))
  pub returned : AreReturned (with_coming g coming).types
      (functions_of coming.interfaces coming.worlds)
  pub listed : AreListed (with_coming g coming) coming.worlds

-- nothing speaks against it: no function that comes returns a borrow, and no world that comes is in conflict
pub record IsFine (g : Graph) (coming : Coming) : Type 0 where
  pub borrows : ReturnNoBorrow (with_coming g coming).types
      (functions_of coming.interfaces coming.worlds)
  pub worlds : AreClear (with_coming g coming) coming.worlds

-- one does, or one is
abbrev pub IsAppendCause : Graph → Coming → ResolveErrorKind → Type 0
IsAppendCause g coming kind =
    ReturnsBorrow (with_coming g coming).types (functions_of coming.interfaces coming.worlds) kind
    ⊎ IsRefusedWorld (record (with_coming g coming) { worlds = coming.worlds }) kind
