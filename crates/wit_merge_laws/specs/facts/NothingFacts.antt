-- Where an empty graph goes into a valid one, no cause holds against it, and nothing changes.
use Rattle.std.proofs.Common.{◌≡◌, ◌∙◌, ℕ, ◌+◌, suc, List, [], ◌∷◌, ◌++◌, map, Option, refl, sym, ap, subst, Contains}
use Rattle.std.proofs.lemmas.List.{append-nil}
use Rattle.std.specs.List.{enumerate_from}
use Rattle.wit_digraph.specs.Cycles.{IsOnCycle}
use Rattle.wit_digraph.specs.facts.MemberFacts.{Contains-nil}
use Rattle.wit_digraph.specs.Relation.{IsAcyclic}
use Rattle.wit_data.specs.Each.{Each}
use Rattle.wit_data.specs.declared.stability.Stability.{Stability}
use Rattle.wit_data.specs.declared.world.World.{World}
use Rattle.wit_elaboration.specs.Elaboration.{graph_uses}
use Rattle.wit_elaboration.specs.examples.Examples.{empty_graph}
use Rattle.wit_elaboration.specs.Imported.{HasTransitiveConflict}
use Rattle.wit_elaboration.specs.Valid.{IsValid}
use Rattle.wit_graph_data.specs.declared.graph.Graph.{Graph}
use Rattle.wit_elaboration.specs.AllElaborated.{all_elaborated, elaborated_world}
use Rattle.wit_graph_theory.specs.facts.ListFacts.{place_of}
use Rattle.wit_merge_spec.specs.Cause as differ
use Rattle.wit_merge_spec.specs.Cause.{GraphsDiffer, AreJoined, MergeIsAccepted, borrow_in_result_15, conflict_4, entries, interface_cycle_22, interfaces, merge_mismatch_24, mismatch_8, offset_overflow_27, package_cycle_6, types, worlds}
use Rattle.wit_merge_spec.specs.Matches.{GraphMerge, Pair, TypePair, counterpart_interface, counterpart_type, counterpart_world}
use Rattle.wit_merge_spec.specs.Merged.{joined_graph}
use Rattle.wit_merge_laws.specs.laws.MergingLaws.{NothingComes, merge_of_graphs}
use Rattle.wit_elaboration.specs.steps.Parts.{graph_package_uses}

-- the elements of a numbered list are the list
pub unnumbered : {X : Type 0} (n : ℕ) (xs : List X) → map (λ (e : ℕ × X). e.1) (enumerate_from n xs) ≡ xs
unnumbered n [] = refl
unnumbered n (x ∷ xs) = ap (λ l. x ∷ l) (unnumbered (n + 1) xs)

-- what a change leaves alone stays
pub map_same : {X : Type 0} (f : X → X) (xs : List X) → Each (λ x. f x ≡ x) xs → map f xs ≡ xs
map_same f [] same = refl
map_same f (x ∷ xs) same = λ i. same 0 x refl i ∷ map_same f xs (λ k y at. same (suc k) y at) i

same_lists : (g : Graph) (offset : ℕ) → joined_graph (merge_of_graphs g empty_graph offset) ≡ g
same_lists g offset = λ i. record {
  types = (append-nil (map (λ e. e.1) (enumerate_from 0 g.types)) ∙ unnumbered 0 g.types) i;
  interfaces = (append-nil (map (λ e. e.1) (enumerate_from 0 g.interfaces)) ∙ unnumbered 0 g.interfaces) i;
  worlds = (append-nil (map (λ e. e.1) (enumerate_from 0 g.worlds)) ∙ unnumbered 0 g.worlds) i;
  packages = (append-nil (map (λ e. e.1) (enumerate_from 0 g.packages)) ∙ unnumbered 0 g.packages) i;
  package_names = append-nil g.package_names i;
}

-- the worlds of a valid graph are elaborated
pub valid_is_elaborated : (g : Graph) → IsValid g → all_elaborated g ≡ g
valid_is_elaborated g valid =
    ap (λ (worlds : List World). record g { worlds = worlds }) (map_same (elaborated_world g) g.worlds (λ i world at. sym (valid.canonical i world at).world_is))

-- ---- no cause holds against it

no_pair : {X : Type 0} (found : ℕ → Option ℕ) (ours : List X) → Pair found [] ours → ⊥
no_pair found ours p = let is = p.from_is in cc

no_first : (before : List TypePair) (pair : TypePair) (after : List TypePair) → [] ≡ before ++ (pair ∷ after) → ⊥
no_first [] pair after same = cc
no_first (p ∷ before) pair after same = cc

clear : (g : Graph) → IsValid g → (world : World) → Contains g.worlds world → HasTransitiveConflict (graph_uses g) world.exports → ⊥
clear g valid world there conflict = let place = place_of g.worlds world there in (valid.canonical place.0 world place.1).no_conflict conflict

no_cycle : (rows : List (List ℕ)) → IsAcyclic rows → (p q : ℕ) → IsOnCycle rows p q → ⊥
no_cycle rows acyclic p q cycle = acyclic.no_cycle p q cycle.leads_back.0 (cycle.is_used, cycle.leads_back.1)

module _ (g : Graph) (offset : ℕ) (valid : IsValid g) where
  abbrev m : GraphMerge
  m = merge_of_graphs g empty_graph offset

  -- what holds of the graph holds of the two as one
  abbrev so : (P : Graph → Type 0) → P g → P (joined_graph m)
  so P holds = subst P (sym (same_lists g offset)) holds

  none_joined : (from into : Stability) → AreJoined m from into → ⊥
  none_joined from into (types p) = no_pair (counterpart_type m) g.types p
  none_joined from into (interfaces p) = no_pair (counterpart_interface m) g.interfaces p
  none_joined from into (worlds p) = no_pair (counterpart_world m) g.worlds p
  none_joined from into (entries p exported i i' one other same has has_so) = no_pair (counterpart_world m) g.worlds p

  none_differ : (message : List ℕ) → GraphsDiffer m message → ⊥
  none_differ message (differ.interfaces p home there name text called of at other) = no_pair (counterpart_interface m) g.interfaces p
  none_differ message (differ.worlds p home there exported text of at other) = no_pair (counterpart_world m) g.worlds p
  none_differ message (differ.types text first) = no_first first.first.before first.pair first.first.after first.first.are

  pub nothing_speaks : MergeIsAccepted m
  nothing_speaks error (conflict_4 span name one is) = so (λ h. (world : World) → Contains h.worlds world → HasTransitiveConflict (graph_uses h) world.exports → ⊥) (clear g valid) is.world is.there is.conflict
  nothing_speaks error (package_cycle_6 home one is) = no_cycle (graph_package_uses (joined_graph m)) (so (λ h. IsAcyclic (graph_package_uses h)) valid.no_cycles.packages) is.p is.q is.on_cycle
  nothing_speaks error (mismatch_8 from into joined apart) = none_joined from into joined
  nothing_speaks error (borrow_in_result_15 message one is) = Contains-nil is.moved
  nothing_speaks error (interface_cycle_22 message one is) = no_cycle (graph_uses (joined_graph m)) (so (λ h. IsAcyclic (graph_uses h)) valid.no_cycles.uses) is.i is.j is.on_cycle
  nothing_speaks error (merge_mismatch_24 message differ) = none_differ message differ
  nothing_speaks error (offset_overflow_27 from to known past) = Contains-nil known

pub nothing : NothingComes
nothing g offset valid = (nothing_speaks g offset valid, ap all_elaborated (same_lists g offset) ∙ valid_is_elaborated g valid)
