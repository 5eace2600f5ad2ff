-- Of two graphs that agree each order can be elaborated where the other can: what corresponds uses what corresponds, and
-- each world of the one merged graph exports what corresponds to the exports of one of the other.
use Rattle.std.proofs.Common.{◌≡◌, ◌∙◌, inl, inr, ℕ, true, List, [], ◌∷◌, get_or, slice_get, Some, refl, sym, subst, arith, Contains}
use Rattle.std.proofs.lemmas.Bool.{cases_Bool}
use Rattle.std.proofs.lemmas.List.{length-map}
use Rattle.std.proofs.lemmas.List.Elements.{Contains-get_or}
use Rattle.std.proofs.lemmas.Map.Views.{Contains-from_lookup}
use Rattle.wit_digraph.specs.facts.MemberFacts.{Contains-flat_map, Contains-flat_map_cases}
use Rattle.wit_digraph.specs.Relation.{IsAcyclic, IsPath, direct}
use Rattle.wit_data.specs.Entries.{Entry, IsExport, item_interface}
use Rattle.wit_data.specs.Uses.{interface_uses}
use Rattle.wit_data.specs.declared.world.World.{World}
use Rattle.wit_data.specs.declared.world.WorldKey.{WorldKey}
use Rattle.wit_data.specs.declared.world.WorldKey.TheVariants as key
use Rattle.wit_elaboration.specs.Elaboration.{graph_uses}
use Rattle.wit_elaboration.specs.Entries.{key_interface}
use Rattle.wit_elaboration.specs.facts.FreshEntries.{same_key-true}
use Rattle.wit_elaboration.specs.facts.SoundFacts.{named_within}
use Rattle.wit_elaboration.specs.Imported.{HasTransitiveConflict}
use Rattle.wit_elaboration.specs.Valid.{IsValid}
use Rattle.wit_graph_data.specs.declared.graph.Graph.{Graph}
use Rattle.wit_graph_theory.specs.facts.EntryFacts.{key_entry}
use Rattle.wit_graph_theory.specs.facts.ListFacts.{contained_at, place_of}
use Rattle.wit_graph_theory.specs.facts.NamedUses.{used_is_named}
use Rattle.wit_remap_spec.specs.Image.{world_image}
use Rattle.wit_merge_spec.specs.Matches.{GraphMerge, counterpart_world}
use Rattle.wit_merge_spec.specs.Merged.{joined_graph, merge_maps, merged_interface, merged_world}
use Rattle.wit_merge_laws.specs.facts.BothOrders.{Corresponds, InBothOrders, flip, of_graph, of_other, one_like, other_way, reaches_like, user_there, uses_like}
use Rattle.wit_merge_laws.specs.facts.JoinedGood.{MergeCanElaborate, aliases}
use Rattle.wit_merge_laws.specs.facts.ListedStand.{WorldFrom, new_world_at, old_world_at, world_at_from}
use Rattle.wit_merge_laws.specs.facts.ListedStand as worlds
use Rattle.wit_merge_laws.specs.facts.LoneWorlds.{held_from, held_goes, held_within, key_from}
use Rattle.wit_merge_laws.specs.facts.LoneWorlds as lone
use Rattle.wit_merge_laws.specs.facts.MatchFacts.{world_is}
use Rattle.wit_merge_laws.specs.facts.NamesParts.{item_matched}
use Rattle.wit_merge_laws.specs.facts.TypesStand.{matched_some}
use Rattle.wit_merge_laws.specs.facts.MergedWorlds.{named_key}
use Rattle.wit_merge_laws.specs.facts.UsesFrom.{use_from}
use Rattle.wit_merge_laws.specs.facts.UsesListed.{KeepsEntries, held_one, key_in, key_remapped, one_held, world_keeps_entries}
use Rattle.wit_merge_laws.specs.facts.WorldsStand.{entry, entry_there}
use Rattle.wit_merge_laws.specs.laws.MergingLaws.{merge_of_graphs}
use Rattle.wit_elaboration.specs.steps.Parts.{exported_keys, exported_interfaces}
use Rattle.wit_merge_spec.specs.steps.Parts.{joined_world, moves_world}

-- ---- what entries hold

held_entry : (es : List Entry) (i : ℕ) → Contains (exported_interfaces es) i → (e : Entry) × Contains es e × (item_interface e.1 ≡ i ∷ [])
held_entry es i has = let e = Contains-flat_map_cases (λ (e : Entry). item_interface e.1) es i has in (e.0, e.1.0, held_one e.0.1 i e.1.1)

held_in : (es : List Entry) (e : Entry) (i : ℕ) → Contains es e → item_interface e.1 ≡ i ∷ [] → Contains (exported_interfaces es) i
held_in es e i has is = Contains-flat_map (λ (e : Entry). item_interface e.1) es e i has (one_held e.1 i is)

module _ (old new : World) (keeps : KeepsEntries old new) where
  held_before : (i : ℕ) → Contains (exported_interfaces new.exports) i → Contains (exported_interfaces old.exports) i
  held_before i has =
      let e = held_entry new.exports i has in
      let d = keeps.from true e.0 e.1 in
      held_in old.exports d.0 i d.1 (sym d.3 ∙ e.2)

  held_after : (i : ℕ) → Contains (exported_interfaces old.exports) i → Contains (exported_interfaces new.exports) i
  held_after i has =
      let e = held_entry old.exports i has in
      let d = keeps.into true e.0 e.1 in
      held_in new.exports (entry e.0.0 d.0) i d.1 (d.2 ∙ e.2)

  key_before : (i : ℕ) → Contains (exported_keys new.exports) i → Contains (exported_keys old.exports) i
  key_before i has =
      let e = key_entry new.exports i has in
      let d = keeps.from true e.0 e.1 in
      key_in old.exports i d.0.1 (subst (λ (k : WorldKey). Contains old.exports (entry k d.0.1)) (sym d.2 ∙ e.2) d.1)

  key_after : (i : ℕ) → Contains (exported_keys old.exports) i → Contains (exported_keys new.exports) i
  key_after i has =
      let e = key_entry old.exports i has in
      let d = keeps.into true e.0 e.1 in
      key_in new.exports i d.0 (subst (λ (k : WorldKey). Contains new.exports (entry k d.0)) e.2 d.1)

-- ---- worlds whose exports correspond

-- to what one world exports, what another exports corresponds
record ExportsLike (g h : Graph) (offset back : ℕ) (x y : World) : Type 0 where
  held : (i : ℕ) → Contains (exported_interfaces x.exports) i
      → (j : ℕ) × Corresponds g h offset back i j × Contains (exported_interfaces y.exports) j
  keys : (i : ℕ) → Contains (exported_keys x.exports) i
      → (j : ℕ) × Corresponds g h offset back i j × Contains (exported_keys y.exports) j

-- so it is both ways
record ExportAlike (g h : Graph) (offset back : ℕ) (x y : World) : Type 0 where
  there : ExportsLike g h offset back x y
  back_so : ExportsLike h g back offset y x

flipped : (g h : Graph) (offset back : ℕ) (x y : World) → ExportAlike g h offset back x y → ExportAlike h g back offset y x
flipped g h offset back x y alike = record { there = alike.back_so; back_so = alike.there }

module _ (g h : Graph) (offset back : ℕ) (valid : IsValid g) (w : ℕ) (old : World) (at : slice_get g.worlds w ≡ Some old) where
  abbrev comes : GraphMerge
  comes = merge_of_graphs h g back

  export_is : (e : Entry) → Contains old.exports e → IsExport g.interfaces e.0 e.1
  export_is e has = let place = place_of old.exports e has in valid.well_formed.worlds.exports w old at place.0 e place.1

  held_like : (i : ℕ) → Contains (exported_interfaces old.exports) i → Corresponds g h offset back i (merged_interface comes i)
  held_like i has = let e = held_entry old.exports i has in of_graph (held_within g.interfaces e.0.0 e.0.1 i (export_is e.0 e.1) (one_held e.0.1 i e.2)) refl

  key_like : (i : ℕ) → Contains (exported_keys old.exports) i → Corresponds g h offset back i (merged_interface comes i)
  key_like i has =
      let e = Contains-flat_map_cases (λ (e : Entry). key_interface e.0) old.exports i has in
      of_graph (named_within g.interfaces i (named_key g.interfaces e.0.0 e.0.1 i e.1.1 (export_is e.0 e.1.0))) refl

  -- a world that stays in the one merged graph and moves in the other
  moved_alike : (x : World) → KeepsEntries old x → ExportAlike g h offset back x (world_image (merge_maps comes) w old)
  moved_alike x keeps = record {
    there = record {
      held = λ i has. let before = held_before old x keeps i has in (merged_interface comes i, held_like i before, held_goes (merge_maps comes) w old.exports i before);
      keys = λ i has. let before = key_before old x keeps i has in (merged_interface comes i, key_like i before, lone.key_remapped (merge_maps comes) w old.exports i before);
    };
    back_so = record {
      held = λ j has.
          let from = held_from (merge_maps comes) w old.exports j has in
          (from.0, subst (λ (k : ℕ). Corresponds h g back offset k from.0) (sym from.2) (flip g h offset back from.0 (merged_interface comes from.0) (held_like from.0 from.1)), held_after old x keeps from.0 from.1);
      keys = λ j has.
          let from = key_from (merge_maps comes) w old.exports j has in
          (from.0, subst (λ (k : ℕ). Corresponds h g back offset k from.0) (sym from.2) (flip g h offset back from.0 (merged_interface comes from.0) (key_like from.0 from.1)), key_after old x keeps from.0 from.1);
    };
  }

  -- one that is matched when it comes to the other graph
  module _ (both : InBothOrders g h offset back) (w' : ℕ) (into : World) (found : counterpart_world comes w ≡ Some w') (into_there : slice_get h.worlds w' ≡ Some into) where
    matched_like : (x y : World) → KeepsEntries old x → KeepsEntries into y → ExportsLike g h offset back x y
    matched_like x y keeps keeps_too = record {
      held = λ i has.
          let before = held_before old x keeps i has in
          let e = held_entry old.exports i before in
          let under = entry_there comes both.valid_other both.valid both.one_back w w' old into at found into_there true e.0.0 e.0.1 e.1 in
          let stands = Contains-from_lookup same_key-true under.k' under.here into.exports under.looked in
          let is = item_matched comes e.0.1 under.here under.same under.agrees i e.2 in
          (merged_interface comes i, held_like i before, held_after into y keeps_too (merged_interface comes i) (held_in into.exports (entry under.k' under.here) (merged_interface comes i) stands is));
      keys = λ i has.
          let before = key_before old x keeps i has in
          let e = key_entry old.exports i before in
          let listed = subst (λ (k : WorldKey). Contains old.exports (entry k e.0.1)) e.2 e.1 in
          let under = entry_there comes both.valid_other both.valid both.one_back w w' old into at found into_there true (key.Interface i) e.0.1 listed in
          let stands = Contains-from_lookup same_key-true under.k' under.here into.exports under.looked in
          let keyed = subst (λ (k : WorldKey). Contains into.exports (entry k under.here)) (key_remapped comes i under.k' under.key_is) stands in
          (merged_interface comes i, key_like i before, key_after into y keeps_too (merged_interface comes i) (key_in into.exports (merged_interface comes i) under.here keyed));
    }

-- ---- the two merged graphs

module _ (g h : Graph) (offset back : ℕ) (both : InBothOrders g h offset back) where
  abbrev m : GraphMerge
  m = merge_of_graphs g h offset

  abbrev n : GraphMerge
  n = merge_of_graphs h g back

  abbrev there : Graph
  there = joined_graph m

  abbrev here : Graph
  here = joined_graph n

  abbrev back_so : InBothOrders h g back offset
  back_so = other_way g h offset back both

  -- a world of the one merged graph that exports what another does
  record Like (y : World) : Type 0 where
    x : World
    listed : Contains there.worlds x
    alike : ExportAlike g h offset back x y

  of_one : (v : ℕ) (y : World) → WorldFrom n v y → Like y
  of_one v y (worlds.of_other w old at moves place same) =
      let x = joined_world m (w, old) in
      record {
        x = x;
        listed = contained_at there.worlds w x (old_world_at m w old at);
        alike = subst (ExportAlike g h offset back x) same (moved_alike g h offset back both.valid w old at x (world_keeps_entries m (w, old)));
      }
  of_one v y (worlds.of_graph old at same) = elim (cases_Bool (moves_world m v)) [
    | inl moves ↦
        let x = world_image (merge_maps m) v old in
        record {
          x = x;
          listed = contained_at there.worlds (merged_world m v) x (new_world_at m v old at moves);
          alike = subst (ExportAlike g h offset back x) same (flipped h g back offset (joined_world n (v, old)) x (moved_alike h g back offset both.valid_other v old at (joined_world n (v, old)) (world_keeps_entries n (v, old))));
        }
    | inr stays ↦
        let some = matched_some (counterpart_world m v) stays in
        let is = world_is m both.valid v some.0 some.1 in
        let x = joined_world m (some.0, is.into) in
        let keeps = world_keeps_entries m (some.0, is.into) in
        let keeps_too = world_keeps_entries n (v, old) in
        let found = both.world_back v some.0 some.1 in
        record {
          x = x;
          listed = contained_at there.worlds some.0 x (old_world_at m some.0 is.into is.into_is);
          alike = subst (ExportAlike g h offset back x) same (record {
            there = matched_like g h offset back both.valid some.0 is.into is.into_is both v old found at x (joined_world n (v, old)) keeps keeps_too;
            back_so = matched_like h g back offset both.valid_other v old at back_so some.0 is.into some.1 is.into_is (joined_world n (v, old)) x keeps_too keeps;
          });
        }
  ]

  -- ---- no cycle

  -- what uses something corresponds to something
  user_like : (j k : ℕ) → Contains (direct (graph_uses here) j) k → (i : ℕ) × Corresponds g h offset back i j
  user_like j k edge = elim (use_from n both.valid_other both.valid both.one_back j k edge) [
    | inl mine ↦ (merged_interface m j, of_other (user_there h j k mine) refl)
    | inr theirs ↦ (theirs.i, of_graph (user_there g theirs.i theirs.j theirs.used) theirs.place)
  ]

  acyclic_back : IsAcyclic (graph_uses there) → IsAcyclic (graph_uses here)
  acyclic_back acyclic = record {
    in_range = λ i k d inside.
        let has = Contains-get_or (direct (graph_uses here) i) k d inside in
        let within = named_within here.interfaces (get_or (direct (graph_uses here) i) k d) (used_is_named here.types here.interfaces (aliases n both.valid_other both.valid both.one_back) i (get_or (direct (graph_uses here) i) k d) has) in
        omega (arith, within, length-map here.interfaces (interface_uses here.types));
    no_cycle = λ j k path leads.
        let first = user_like j k leads.0 in
        let step = uses_like h g back offset back_so j first.0 k (flip g h offset back first.0 j first.1) leads.0 in
        let rest = reaches_like h g back offset back_so k step.y path j step.like leads.1 in
        let same : rest.y ≡ first.0 = one_like h g back offset back_so j rest.y first.0 rest.like (flip g h offset back first.0 j first.1) in
        acyclic.no_cycle first.0 step.y rest.reached.0 (step.used, subst (IsPath (graph_uses there) step.y rest.reached.0) same rest.reached.1);
  }

  -- ---- no conflict

  conflict_back : (x y : World) → ExportAlike g h offset back x y → HasTransitiveConflict (graph_uses here) y.exports → HasTransitiveConflict (graph_uses there) x.exports
  conflict_back x y alike (c, b, exported, edge, (apart, a, leads, among)) =
      let first = alike.back_so.held c exported in
      let step = uses_like h g back offset back_so c first.0 b first.1 edge in
      let rest = reaches_like h g back offset back_so b step.y leads.0 a step.like leads.1 in
      let last = alike.back_so.keys a among in
      let same : last.0 ≡ rest.y = one_like h g back offset back_so a last.0 rest.y last.1 rest.like in
      (first.0, step.y, first.2, step.used, (unexported step.y step.like, rest.y, rest.reached, subst (Contains (exported_keys x.exports)) same last.2))
    where
      unexported : (d : ℕ) → Corresponds h g back offset b d → Contains (exported_keys x.exports) d → ⊥
      unexported d is has =
          let goes = alike.there.keys d has in
          let same : goes.0 ≡ b = one_like g h offset back both d goes.0 b goes.1 (flip h g back offset b d is) in
          apart (subst (Contains (exported_keys y.exports)) same goes.2)

  pub elaborates_back : MergeCanElaborate m → MergeCanElaborate n
  elaborates_back elaborates = record {
    acyclic = acyclic_back elaborates.acyclic;
    clear = λ y listed conflict.
        let place = place_of here.worlds y listed in
        let like = of_one place.0 y (world_at_from n place.0 y place.1) in
        elaborates.clear like.x like.listed (conflict_back like.x y like.alike conflict);
  }
