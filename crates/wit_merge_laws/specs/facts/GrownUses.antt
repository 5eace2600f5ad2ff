-- A merge that leaves what the graph has as it is: the interfaces that were there use what they used, and no interface uses
-- itself, since those that come use what the ones that they come of use, each at its place.
use Rattle.std.proofs.Common.{◌≡◌, ◌∙◌, ◌⊎◌, inl, inr, ℕ, ◌<◌, ◌≤◌, List, [], ◌++◌, map, length, take, get_or, refl, sym, ap, subst, arith, Contains}
use Rattle.std.proofs.lemmas.List.{append-nil, length-map}
use Rattle.std.proofs.lemmas.List.Elements.{Contains-get_or}
use Rattle.std.proofs.lemmas.Option.{slice_get_within}
use Rattle.std.proofs.Math.Seq.{take-append_seam}
use Rattle.wit_digraph.specs.PostOrder.{post_order}
use Rattle.wit_digraph.specs.Relation.{IsAcyclic, direct}
use Rattle.wit_data.specs.Uses.{interface_uses, uses_of}
use Rattle.wit_data.specs.declared.interface.Interface.{Interface}
use Rattle.wit_data.specs.declared.types.TypeDef.{TypeDef}
use Rattle.wit_elaboration.specs.Elaboration.{graph_uses}
use Rattle.wit_elaboration.specs.Valid.{IsValid}
use Rattle.wit_elaboration.specs.facts.SoundFacts.{named_within}
use Rattle.wit_graph_data.specs.declared.graph.Graph.{Graph}
use Rattle.wit_graph_theory.specs.facts.Good.{HasGoodItems}
use Rattle.wit_graph_theory.specs.facts.GoodIsValid.{good_things}
use Rattle.wit_graph_theory.specs.facts.GraphSource.{good_items}
use Rattle.wit_graph_theory.specs.facts.ListFacts.{at_below, from_row, in_row}
use Rattle.wit_graph_theory.specs.facts.NamedUses.{used_is_named}
use Rattle.wit_graph_theory.specs.facts.RowFacts.{IsAcyclic-grown, post_order_shorter}
use Rattle.wit_remap_spec.specs.Image.{interface_image}
use Rattle.wit_link_spec.specs.facts.CanonicalStays.{interface_stays, old_uses}
use Rattle.wit_remap_spec.specs.Selected.{selected}
use Rattle.wit_remap_spec.specs.ValueRemap.{types_behind}
use Rattle.wit_merge_spec.specs.Cause.{HasNoMismatch}
use Rattle.wit_merge_spec.specs.Matches.{GraphMerge}
use Rattle.wit_merge_spec.specs.Merged.{joined_graph, merge_maps, merged_interface, package_image, value_remap}
use Rattle.wit_merge_spec.specs.steps.Leaving.{LeavesGraph, grown_graph, new_worlds}
use Rattle.wit_merge_laws.specs.facts.JoinedGood.{aliases}
use Rattle.wit_merge_laws.specs.facts.ListedStand.{interfaces_apart}
use Rattle.wit_merge_laws.specs.facts.UsesFrom.{UseOfOther, use_from}
use Rattle.wit_merge_laws.specs.laws.GrowingLaws.{JoinedIsGrown, UsesGrow}
use Rattle.wit_merge_spec.specs.steps.Parts.{moved_interfaces, moves_package}

-- ---- what comes stands behind what was there

module _ (m : GraphMerge) where
  abbrev pub more_types : List TypeDef
  more_types = types_behind (value_remap m)

  abbrev pub more_interfaces : List Interface
  more_interfaces = map (interface_image (merge_maps m)) (moved_interfaces m)

pub is_grown : JoinedIsGrown
is_grown m leaves = λ k. record {
  types = leaves.types k ++ more_types m;
  interfaces = leaves.interfaces k ++ more_interfaces m;
  worlds = leaves.worlds k ++ new_worlds m;
  packages = leaves.packages k ++ map (package_image m) (selected (moves_package m) m.other.packages);
  package_names = (grown_graph m).package_names;
}

-- ---- what was there uses what it used

module _ (m : GraphMerge) (leaves : LeavesGraph m) where
  pub types_are : (joined_graph m).types ≡ m.graph.types ++ more_types m
  types_are = ap (λ (l : List TypeDef). l ++ more_types m) leaves.types

  pub interfaces_are : (joined_graph m).interfaces ≡ m.graph.interfaces ++ more_interfaces m
  interfaces_are = ap (λ (l : List Interface). l ++ more_interfaces m) leaves.interfaces

  pub uses_are : graph_uses (joined_graph m) ≡ uses_of (m.graph.types ++ more_types m) (m.graph.interfaces ++ more_interfaces m)
  uses_are = λ k. uses_of (types_are k) (interfaces_are k)

pub valid_items : (g : Graph) → IsValid g → HasGoodItems g
valid_items g valid = good_items g (good_things g valid)

module _ (m : GraphMerge) (valid : IsValid m.graph) (leaves : LeavesGraph m) where
  abbrev g : Graph
  g = m.graph

  abbrev items : HasGoodItems g
  items = valid_items g valid

  joined_types : (joined_graph m).types ≡ g.types ++ more_types m
  joined_types = types_are m leaves

  long : length (graph_uses g) ≡ length g.interfaces
  long = length-map g.interfaces (interface_uses g.types)

  grown : graph_uses (joined_graph m) ≡ graph_uses g ++ map (interface_uses (joined_graph m).types) (more_interfaces m)
  grown =
      uses_are m leaves ∙ (old_uses g items (more_types m) (more_interfaces m)
      ∙ ap (λ (types : List TypeDef). graph_uses g ++ map (interface_uses types) (more_interfaces m)) (sym joined_types))

  begin : take (length g.interfaces) (graph_uses (joined_graph m)) ≡ graph_uses g
  begin = ap (λ (n : ℕ). take n (graph_uses (joined_graph m))) (sym long) ∙ (ap (take (length (graph_uses g))) grown ∙ take-append_seam (graph_uses g) _)

  are : graph_uses g ≡ uses_of (joined_graph m).types (take (length (graph_uses g)) (joined_graph m).interfaces)
  are =
      sym (append-nil (graph_uses g)) ∙ (sym (old_uses g items (more_types m) []) ∙ (λ k. uses_of (sym joined_types k) (all k)))
    where
      all : g.interfaces ++ [] ≡ take (length (graph_uses g)) (joined_graph m).interfaces
      all =
          append-nil g.interfaces ∙ (sym (take-append_seam g.interfaces (more_interfaces m)) ∙ (λ k. take (sym long k) (sym (interfaces_are m leaves) k)))

  -- a use by an interface that was there was there
  pub old_use : (i j : ℕ) → i < length g.interfaces → Contains (direct (graph_uses (joined_graph m)) i) j → Contains (direct (graph_uses g) i) j
  old_use i j before has =
      let from = from_row (interface_uses (g.types ++ more_types m)) (g.interfaces ++ more_interfaces m) i j (subst (λ (rows : List (List ℕ)). Contains (direct rows i) j) (uses_are m leaves) has) in
      let there = at_below g.interfaces (more_interfaces m) i from.0 before from.1 in
      in_row (interface_uses g.types) g.interfaces i from.0 j there (subst (λ (ids : List ℕ). Contains ids j) (interface_stays g items (more_types m) i from.0 there) from.2)

pub uses_grow : UsesGrow
uses_grow m valid leaves = record { are = are m valid leaves; begin = begin m valid leaves; grown = grown m valid leaves }

-- ---- no interface uses itself

module _ (m : GraphMerge) (valid : IsValid m.graph) (valid_other : IsValid m.other) (one : HasNoMismatch m) (leaves : LeavesGraph m) where
  abbrev rows : List (List ℕ)
  rows = graph_uses (joined_graph m)

  abbrev old_rows : List (List ℕ)
  old_rows = graph_uses m.graph

  abbrev other_rows : List (List ℕ)
  other_rows = graph_uses m.other

  -- the rank of the interface to which one of the other graph goes: the length of the walk of that
  record Rank (i' r : ℕ) : Type 0 where
    i : ℕ
    place : i' ≡ merged_interface m i
    is : r ≡ length (post_order other_rows i)

  in_range : (i j : ℕ) → Contains (direct rows i) j → j < length rows
  in_range i j has =
      let within = named_within (joined_graph m).interfaces j (used_is_named (joined_graph m).types (joined_graph m).interfaces (aliases m valid valid_other one) i j has) in
      omega (arith, within, length-map (joined_graph m).interfaces (interface_uses (joined_graph m).types))

  stays : (i j : ℕ) → i < length old_rows → Contains (direct rows i) j → Contains (direct old_rows i) j
  stays i j before has = let same = long m valid leaves in old_use m valid leaves i j (omega (arith, before, same)) has

  -- what comes uses by a use of the other graph
  pub new_use : (i j : ℕ) → length old_rows ≤ i → Contains (direct rows i) j → UseOfOther m valid valid_other one i j
  new_use i j past has = elim (use_from m valid valid_other one i j has) [
    | inl old ↦
        let from = from_row (interface_uses m.graph.types) m.graph.interfaces i j old in
        let within = slice_get_within m.graph.interfaces i from.0 from.1 in
        let same = long m valid leaves in
        absurd (omega (arith, past, within, same))
    | inr new ↦ new
  ]

  down : (i r j : ℕ) → length old_rows ≤ i → Rank i r → Contains (direct rows i) j → (j < length old_rows) ⊎ ((s : ℕ) × Rank j s × (s < r))
  down i r j past rank has =
      let old = new_use i j past has in
      let same : old.i ≡ rank.i = interfaces_apart m valid valid_other old.i rank.i (sym old.place ∙ rank.place) in
      let from = from_row (interface_uses m.other.types) m.other.interfaces old.i old.j old.used in
      let within = slice_get_within m.other.interfaces old.i from.0 from.1 in
      let shorter = post_order_shorter other_rows valid_other.no_cycles.uses old.i old.j (omega (arith, within, length-map m.other.interfaces (interface_uses m.other.types))) old.used in
      let is : r ≡ length (post_order other_rows old.i) = rank.is ∙ ap (λ (i : ℕ). length (post_order other_rows i)) (sym same) in
      inr (length (post_order other_rows old.j), record { i = old.j; place = old.used_place; is = refl }, omega (arith, shorter, is))

  pub grown_uses_acyclic : IsAcyclic rows
  grown_uses_acyclic = IsAcyclic-grown Rank old_rows rows valid.no_cycles.uses (record {
    in_range = λ i k d below. in_range i (get_or (direct rows i) k d) (Contains-get_or (direct rows i) k d below);
    stays = stays;
    ranked = λ i past j has. let old = new_use i j past has in (length (post_order other_rows old.i), record { i = old.i; place = old.place; is = refl });
    down = down;
  })
