-- An empty graph into which a valid one goes: nothing is matched, so all goes to the next ids, which are those it has;
-- and where the empty graph goes into the valid one nothing changes, so the other order gives what is alike.
use Rattle.std.proofs.Common.{◌≡◌, ◌∙◌, ℕ, ◌+◌, zero, suc, Bool, true, List, map, not, is_some, Option, None, Some, option_and_then, unwrap_or, slice_get, refl, ap, subst, arith}
use Rattle.std.specs.List.{enumerate_from}
use Rattle.wit_data.specs.declared.types.TypeOwner.{TypeOwner}
use Rattle.wit_data.specs.declared.types.TypeOwner.TheVariants as owner
use Rattle.wit_names.specs.declared.package_name.PackageName.{PackageName}
use Rattle.wit_elaboration.specs.examples.Examples.{ExamplesOfValidity, empty_graph}
use Rattle.wit_graph_data.specs.declared.graph.Graph.{Graph}
use Rattle.wit_graph_data.specs.declared.graph.Package.{Package}
use Rattle.wit_graph_theory.specs.facts.LawsOfElaboration.{LawsOfElaboration}
use Rattle.wit_remap_spec.specs.Selected.{rank, selected}
use Rattle.wit_link_spec.specs.facts.RankFacts.{rank-kept}
use Rattle.wit_merge_spec.specs.Matches.{GraphMerge, WorldLabel, counterpart_at_label, counterpart_interface, counterpart_interface_by, counterpart_package, counterpart_type, counterpart_type_by, counterpart_world, matched_world, named_in_counterpart}
use Rattle.wit_merge_spec.specs.Merged.{merged_interface, merged_package, merged_world, package_image, merged}
use Rattle.wit_merge_laws.specs.facts.NoCycles.{are_one, can_elaborate}
use Rattle.wit_merge_laws.specs.facts.NothingFacts.{map_same, nothing, unnumbered}
use Rattle.wit_merge_laws.specs.facts.OrderFree.{merging_is_order_free}
use Rattle.wit_merge_laws.specs.facts.WholeFacts.{all_pass}
use Rattle.wit_merge_laws.specs.laws.CopyLaws.{EmptyBecomesAlike, KeepsIds}
use Rattle.wit_merge_laws.specs.laws.MergingLaws.{merge_of_graphs}
use Rattle.wit_merge_laws.specs.laws.OrderLaws.{AreAlike}
use Rattle.wit_merge_spec.specs.steps.Parts.{moves_package}

-- ---- names, labels and keys

pub becomes_alike : LawsOfElaboration → ExamplesOfValidity → EmptyBecomesAlike
becomes_alike laws examples g offset valid =
    let m = merge_of_graphs g empty_graph offset in
    let accepted = nothing g offset valid in
    subst (λ (x : Graph). AreAlike x (merged (merge_of_graphs empty_graph g offset))) accepted.1
    (merging_is_order_free laws g empty_graph offset offset valid examples.empty (are_one m accepted.0) (can_elaborate m valid examples.empty accepted.0 laws.refused))

-- ---- ids

none_of : {X Y : Type 0} (f : X → Option Y) (o : Option X) → ((x : X) → f x ≡ None) → option_and_then f o ≡ None
none_of f None each = refl
none_of f (Some x) each = each x

-- where all is kept, each is at its own place
rank-all : (kept : ℕ → Bool) → ((i : ℕ) → kept i ≡ true) → (n : ℕ) → rank kept n ≡ n
rank-all kept all zero = refl
rank-all kept all (suc n) = rank-kept kept n (all n) ∙ ap suc (rank-all kept all n)

selected-all : {X : Type 0} (kept : ℕ → Bool) (xs : List X) → ((i : ℕ) → kept i ≡ true) → selected kept xs ≡ xs
selected-all {X} kept xs all = ap (map (λ (e : ℕ × X). e.1)) (all_pass (λ (e : ℕ × X). kept e.0) (enumerate_from 0 xs) (λ i e on. all e.0)) ∙ unnumbered 0 xs

module _ (g : Graph) (offset : ℕ) where
  abbrev m : GraphMerge
  m = merge_of_graphs empty_graph g offset

  no_package : (p : ℕ) → counterpart_package m p ≡ None
  no_package p = none_of _ (slice_get g.packages p) (λ home. refl)

  no_table : (table : Package → List (List ℕ × ℕ)) (home : Option ℕ) (name : List ℕ) → named_in_counterpart table m home name ≡ None
  no_table table home name = none_of _ (option_and_then (counterpart_package m) home) (λ p. refl)

  no_world : (w : ℕ) → counterpart_world m w ≡ None
  no_world w = none_of _ (slice_get g.worlds w) (λ world. no_table (λ (there : Package). there.worlds) world.package world.name)

  no_world_there : (w : ℕ) → matched_world m w ≡ None
  no_world_there w = none_of _ (counterpart_world m w) (λ w'. refl)

  no_label : (l : WorldLabel) → counterpart_at_label m l ≡ None
  no_label l = ap (option_and_then _) (no_world_there l.world)

  no_interface : (i : ℕ) → counterpart_interface m i ≡ None
  no_interface i = none_of _ (slice_get g.interfaces i) (λ interface. by interface.package interface.name)
    where
      by : (home : Option ℕ) (o : Option (List ℕ)) → counterpart_interface_by m i home o ≡ None
      by home (Some name) = no_table (λ (there : Package). there.interfaces) home name
      by home None = none_of _ _ no_label

  no_type : (t : ℕ) → counterpart_type m t ≡ None
  no_type t = none_of _ (slice_get g.types t) (λ def. by def.name def.owner)
    where
      by : (o : Option (List ℕ)) (of : TypeOwner) → counterpart_type_by m o of ≡ None
      by (Some name) (owner.Interface i) = none_of _ (counterpart_interface m i) (λ i'. refl)
      by (Some name) (owner.World w) = ap (option_and_then _) (no_world_there w)
      by (Some name) owner.None = refl
      by None of = refl

  -- what isn't matched moves, to the id that it has
  moves : (found : ℕ → Option ℕ) → ((x : ℕ) → found x ≡ None) → (x : ℕ) → not (is_some (found x)) ≡ true
  moves found none x = ap (λ (o : Option ℕ). not (is_some o)) (none x)

  same_id : (found : ℕ → Option ℕ) → ((x : ℕ) → found x ≡ None) → (x : ℕ) → unwrap_or (found x) (0 + rank (λ y. not (is_some (found y))) x) ≡ x
  same_id found none x =
      let place = rank-all (λ y. not (is_some (found y))) (moves found none) x in
      ap (λ (o : Option ℕ). unwrap_or o (0 + rank (λ y. not (is_some (found y))) x)) (none x) ∙ omega (arith, place)

  same_package_image : (home : Package) → package_image m home ≡ home
  same_package_image home = λ i. record home {
    interfaces = map_same (λ (e : List ℕ × ℕ). (e.0, merged_interface m e.1)) home.interfaces (λ k e on. λ j. (e.0, same_id (counterpart_interface m) no_interface e.1 j)) i;
    worlds = map_same (λ (e : List ℕ × ℕ). (e.0, merged_world m e.1)) home.worlds (λ k e on. λ j. (e.0, same_id (counterpart_world m) no_world e.1 j)) i;
  }

  pub keeps_ids : KeepsIds m
  keeps_ids = record {
    packages = ap (map (package_image m)) (selected-all (moves_package m) g.packages (moves (counterpart_package m) no_package)) ∙ map_same (package_image m) g.packages (λ i home on. same_package_image home);
    package_names =
        ap (map (λ (e : PackageName × ℕ). (e.0, merged_package m e.1))) (all_pass (λ (e : PackageName × ℕ). moves_package m e.1) g.package_names (λ i e on. moves (counterpart_package m) no_package e.1))
        ∙ map_same (λ (e : PackageName × ℕ). (e.0, merged_package m e.1)) g.package_names (λ i e on. λ j. (e.0, same_id (counterpart_package m) no_package e.1 j));
    types = same_id (counterpart_type m) no_type;
    interfaces = same_id (counterpart_interface m) no_interface;
    worlds = same_id (counterpart_world m) no_world;
    package_ids = same_id (counterpart_package m) no_package;
  }
