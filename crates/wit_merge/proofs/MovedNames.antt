-- The entries of tables whose things move, with what these are remapped to, by lists of what is found and of places.
use Rattle.std.proofs.Common.{◌≡◌, ◌∙◌, ℕ, ◌<◌, Bool, true, cond, List, [], ◌∷◌, Option, filter, length, map, refl, ap, Contains}
use Rattle.wit_digraph.specs.facts.MemberFacts.{Contains-here, Contains-there}
use Rattle.wit_elaboration.specs.facts.Filters.{Contains-filter}
use Rattle.wit_merge_match.specs.steps.Matched.{moves}
use Rattle.wit_remap.specs.steps.Movers.{goes}
use Rattle.wit_merge_spec.specs.Matches.{GraphMerge, counterpart_interface, counterpart_type, counterpart_world}
use Rattle.wit_merge_spec.specs.Merged.{merged_interface, merged_type, merged_world}
use Rattle.wit_merge.specs.steps.MergeSteps.{moved_names, CanMerge, merging_of}
use Rattle.wit_merge.specs.declared.merge_plan.MergePlan.{MergePlan}
use Rattle.wit_merge.proofs.Agrees.{interfaces_go, types_go, worlds_go}
use Rattle.wit_merge.proofs.SameImages.{each_same}
use Rattle.wit_merge.proofs.MergedIs.{moves_is}
use Rattle.wit_merge_spec.specs.steps.Parts.{moves_type, moves_interface, moves_world}

abbrev pub Table : Type 0
Table = List (List ℕ × ℕ)

module _ (found new_ids : List (Option ℕ)) (kept : ℕ → Bool) (place : ℕ → ℕ) (count : ℕ) (same : moves found ≡ kept) (go : (x : ℕ) → x < count → goes new_ids x ≡ place x) where
  names_are : (from : Table) → ((e : List ℕ × ℕ) → Contains from e → e.1 < count) → moved_names found new_ids from ≡ map (λ (e : List ℕ × ℕ). (e.0, place e.1)) (filter (λ (e : List ℕ × ℕ). kept e.1) from)
  names_are from there =
      each_same (λ (e : List ℕ × ℕ). (e.0, goes new_ids e.1)) (λ (e : List ℕ × ℕ). (e.0, place e.1)) (filter (λ (e : List ℕ × ℕ). moves found e.1) from)
      (λ e has j. (e.0, go e.1 (there e (Contains-filter (λ (d : List ℕ × ℕ). moves found d.1) from e has).0) j))
      ∙ (λ j. map (λ (e : List ℕ × ℕ). (e.0, place e.1)) (filter (λ (e : List ℕ × ℕ). same j e.1) from))

-- where all move, none is left out
pub all_move : (kept : ℕ → Bool) (from : Table) → ((e : List ℕ × ℕ) → Contains from e → kept e.1 ≡ true) → filter (λ (e : List ℕ × ℕ). kept e.1) from ≡ from
all_move kept [] all = refl
all_move kept (e ∷ from) all =
    ap (λ (b : Bool). cond b (e ∷ filter (λ (d : List ℕ × ℕ). kept d.1) from) (filter (λ (d : List ℕ × ℕ). kept d.1) from)) (all e (Contains-here e from))
    ∙ ap (λ (l : Table). e ∷ l) (all_move kept from (λ d has. all d (Contains-there e d from has)))

module _ (u : MergePlan) (ready : CanMerge u) where
  abbrev m : GraphMerge
  m = merging_of u

  pub types_moved : (from : Table) → ((e : List ℕ × ℕ) → Contains from e → e.1 < length u.other.now.types)
      → moved_names u.matches.now.types u.merge_ids.now.new_ids.types from ≡ map (λ (e : List ℕ × ℕ). (e.0, merged_type m e.1)) (filter (λ (e : List ℕ × ℕ). moves_type m e.1) from)
  types_moved = names_are u.matches.now.types u.merge_ids.now.new_ids.types (moves_type m) (merged_type m) (length u.other.now.types) (moves_is (counterpart_type m) (length u.other.now.types) u.matches.now.types ready.matches.types) (types_go u ready)

  pub interfaces_moved : (from : Table) → ((e : List ℕ × ℕ) → Contains from e → e.1 < length u.other.now.interfaces)
      → moved_names u.matches.now.interfaces u.merge_ids.now.new_ids.interfaces from ≡ map (λ (e : List ℕ × ℕ). (e.0, merged_interface m e.1)) (filter (λ (e : List ℕ × ℕ). moves_interface m e.1) from)
  interfaces_moved =
      names_are u.matches.now.interfaces u.merge_ids.now.new_ids.interfaces (moves_interface m) (merged_interface m) (length u.other.now.interfaces)
      (moves_is (counterpart_interface m) (length u.other.now.interfaces) u.matches.now.interfaces ready.matches.interfaces) (interfaces_go u ready)

  pub worlds_moved : (from : Table) → ((e : List ℕ × ℕ) → Contains from e → e.1 < length u.other.now.worlds)
      → moved_names u.matches.now.worlds u.merge_ids.now.new_ids.worlds from ≡ map (λ (e : List ℕ × ℕ). (e.0, merged_world m e.1)) (filter (λ (e : List ℕ × ℕ). moves_world m e.1) from)
  worlds_moved =
      names_are u.matches.now.worlds u.merge_ids.now.new_ids.worlds (moves_world m) (merged_world m) (length u.other.now.worlds) (moves_is (counterpart_world m) (length u.other.now.worlds) u.matches.now.worlds ready.matches.worlds) (worlds_go u ready)
