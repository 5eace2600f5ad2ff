-- Merges against which no cause holds.
use Rattle.std.proofs.Common.{◌≡◌, ◌∙◌, ℕ, Bool, true, false, List, [], ◌∷◌, Option, Some, is_some, slice_get, sym, ap, subst, Contains}
use Rattle.std.proofs.lemmas.Bool.{false≢true}
use Rattle.std.specs.List.{list_all}
use Rattle.std.specs.Option.{option_map_or}
use Rattle.wit_digraph.specs.Cycles.{IsOnCycle}
use Rattle.wit_digraph.specs.Relation.{IsPath, direct}
use Rattle.wit_data.specs.Kind.{type_references}
use Rattle.wit_data.specs.declared.interface.Interface.{Interface}
use Rattle.wit_names.specs.declared.track.TrackRule.{TrackRule}
use Rattle.wit_data.specs.declared.world.World.{World}
use Rattle.wit_elaboration.specs.Elaboration.{graph_uses}
use Rattle.wit_elaboration.specs.Imported.{HasTransitiveConflict}
use Rattle.wit_graph_data.specs.declared.graph.Graph.{Graph}
use Rattle.wit_graph_data.specs.declared.error_kind.ResolveErrorKind.{ResolveErrorKind}
use Rattle.wit_graph_theory.specs.facts.ListFacts.{contained_at}
use Rattle.wit_graph_theory.specs.facts.OptionFacts.{some_same}
use Rattle.wit_graph_theory.specs.examples.TestFacts.{all_are, all_uses, falls, is_empty, no_cycle, nothing_in}
use Rattle.wit_semver.specs.SemverMerged.{IsComplete, IsSemverMergeCause, SemverMerge, SemverMergeCause, conflict_4, functions_disagree_25, interface_cycle_22, newest, package_cycle_6, replaced_use, types_of_new_entries, target_name, type_cycle_23, type_missing_25, semver_merge, with_new_entries_at}
use Rattle.wit_semver.specs.steps.SemverMerged.{Agrees}
use Rattle.wit_elaboration.specs.steps.Parts.{exported_keys, exported_interfaces, graph_package_uses}
use Rattle.wit_semver.specs.steps.Parts.{interface_type}

module _ (u : SemverMerge) where
  -- does the newest have the type of this name?
  abbrev has_name : ℕ → List ℕ → Bool
  has_name f name = is_some (interface_type u.graph.interfaces (newest u f) name)

  abbrev has_target_in : ℕ → ℕ → Bool
  has_target_in t f = option_map_or (has_name f) (target_name u.graph.types t) true

  -- is there a type to name in the place of what type t names?
  abbrev pub has_target : ℕ → Bool
  has_target t = option_map_or (has_target_in t) (replaced_use u t) true

  pub complete : list_all has_target (types_of_new_entries u) ≡ true → IsComplete u
  complete all t message follows lacks =
      let one : option_map_or (has_target_in t) (Some lacks.f) true ≡ true = ap (λ (o : Option ℕ). option_map_or (has_target_in t) o true) (sym lacks.uses) ∙ all_are has_target (types_of_new_entries u) all t follows in
      let two : option_map_or (has_name lacks.f) (Some lacks.name) true ≡ true = ap (λ (o : Option (List ℕ)). option_map_or (has_name lacks.f) o true) (sym lacks.named) ∙ one in
      let three : false ≡ true = ap (λ (o : Option ℕ). is_some o) (sym lacks.absent) ∙ two in
      false≢true three

-- what no cause holds against
pub record Clear (u : SemverMerge) (w : ℕ) : Type 0 where
  pub is_complete : IsComplete u
  pub agrees : Agrees u
  pub packages : (p q : ℕ) → IsOnCycle (graph_package_uses (with_new_entries_at u w)) p q → ⊥
  pub interfaces : (i j : ℕ) → IsOnCycle (graph_uses (with_new_entries_at u w)) i j → ⊥
  pub types : (s t : ℕ) → IsOnCycle (type_references (with_new_entries_at u w).types) s t → ⊥
  pub exports : (world : World) → Contains (with_new_entries_at u w).worlds world → HasTransitiveConflict (graph_uses (with_new_entries_at u w)) world.exports → ⊥

clear_is_fine : (u : SemverMerge) (w : ℕ) (error : ResolveErrorKind) → Clear u w → SemverMergeCause u w error → ⊥
clear_is_fine u w error clear (conflict_4 span name complete is) = clear.exports is.world is.there is.conflict
clear_is_fine u w error clear (package_cycle_6 home complete is) = clear.packages is.p is.q is.on_cycle
clear_is_fine u w error clear (interface_cycle_22 message complete is) = clear.interfaces is.i is.j is.on_cycle
clear_is_fine u w error clear (type_cycle_23 message complete is) = clear.types is.t is.u is.on_cycle
clear_is_fine u w error clear (type_missing_25 t message follows lacks) = clear.is_complete t message follows lacks
clear_is_fine u w error clear (functions_disagree_25 f message disagrees) = clear.agrees f message disagrees

-- a reason is one of the world that is there
pub of_world : (rule : TrackRule) (g : Graph) (w : ℕ) (world : World) (error : ResolveErrorKind) → slice_get g.worlds w ≡ Some world → IsSemverMergeCause rule g w error → SemverMergeCause (semver_merge rule g world) w error
of_world rule g w world error there cause =
    let same : world ≡ cause.0 = some_same world cause.0 (sym there ∙ cause.1) in
    subst (λ (x : World). SemverMergeCause (semver_merge rule g x) w error) (sym same) cause.2

pub is_fine : (rule : TrackRule) (g : Graph) (w : ℕ) (world : World) → slice_get g.worlds w ≡ Some world → Clear (semver_merge rule g world) w → (error : ResolveErrorKind) → IsSemverMergeCause rule g w error → ⊥
is_fine rule g w world there clear error cause = clear_is_fine (semver_merge rule g world) w error clear (of_world rule g w world error there cause)

-- ---- without functions

abbrev no_function : Interface → Bool
no_function interface = is_empty interface.functions

pub no_functions : (u : SemverMerge) → list_all no_function u.graph.interfaces ≡ true → Agrees u
no_functions u all f message disagrees =
    nothing_in disagrees.old.functions (disagrees.have.name, disagrees.have.function)
    (all_are no_function u.graph.interfaces all disagrees.old (contained_at u.graph.interfaces f disagrees.old disagrees.old_is)) disagrees.have.has

-- ---- what exports need

-- what an interface uses uses nothing
abbrev uses_leaves : List (List ℕ) → ℕ → Bool
uses_leaves uses x = list_all (λ d. is_empty (direct uses d)) (direct uses x)

abbrev exports_pass : List (List ℕ) → World → Bool
exports_pass uses world = list_all (uses_leaves uses) (exported_interfaces world.exports)

-- so exports need nothing from outside that is exported
no_conflict : (uses : List (List ℕ)) (world : World) → exports_pass uses world ≡ true → HasTransitiveConflict uses world.exports → ⊥
no_conflict uses world all (x, d, shown, used, (outside, j, (path, leads), exported)) = by path leads
  where
    by : (path : List ℕ) → IsPath uses d path j → ⊥
    by [] same = outside (subst (λ k. Contains (exported_keys world.exports) k) (sym same) exported)
    by (k ∷ rest) leads = nothing_in (direct uses d) k (all_are (λ d. is_empty (direct uses d)) (direct uses x) (all_are (uses_leaves uses) (exported_interfaces world.exports) all x shown) d used) leads.0

-- ---- all of it, of world 0 of a graph without functions in which each thing uses earlier ones alone

pub record Passes (u : SemverMerge) : Type 0 where
  pub there : slice_get u.graph.worlds 0 ≡ Some u.world
  pub targets : list_all (has_target u) (types_of_new_entries u) ≡ true
  pub functions : list_all no_function u.graph.interfaces ≡ true
  pub packages : all_uses (falls (λ p. p)) (graph_package_uses (with_new_entries_at u 0)) ≡ true
  pub interfaces : all_uses (falls (λ i. i)) (graph_uses (with_new_entries_at u 0)) ≡ true
  pub types : all_uses (falls (λ t. t)) (type_references (with_new_entries_at u 0).types) ≡ true
  pub exports : list_all (exports_pass (graph_uses (with_new_entries_at u 0))) (with_new_entries_at u 0).worlds ≡ true

pub passing : (u : SemverMerge) → Passes u → (error : ResolveErrorKind) → IsSemverMergeCause u.rule u.graph 0 error → ⊥
passing u p =
    is_fine u.rule u.graph 0 u.world p.there (record {
      is_complete = complete u p.targets;
      agrees = no_functions u p.functions;
      packages = no_cycle (λ p. p) (graph_package_uses (with_new_entries_at u 0)) p.packages;
      interfaces = no_cycle (λ i. i) (graph_uses (with_new_entries_at u 0)) p.interfaces;
      types = no_cycle (λ t. t) (type_references (with_new_entries_at u 0).types) p.types;
      exports = λ world there. no_conflict (graph_uses (with_new_entries_at u 0)) world (all_are (exports_pass (graph_uses (with_new_entries_at u 0))) (with_new_entries_at u 0).worlds p.exports world there);
    })
