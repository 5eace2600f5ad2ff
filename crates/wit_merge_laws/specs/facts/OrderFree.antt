-- Merging in either order gives the same: the same names, things of one sort under each label, and each world the same
-- labels and keys. What a world imports corresponds where one graph alone has it, and is what both import
-- where both have it.
use Rattle.std.specs.Prelude.{◌⊎◌}
use Rattle.std.proofs.Common.{◌≡◌, ◌∙◌, inl, inr, ℕ, Bool, true, false, List, Some, slice_get, refl, sym, ap, subst, Contains}
use Rattle.std.proofs.lemmas.Bool.{cases_Bool}
use Rattle.wit_data.specs.Each.{SomeAt}
use Rattle.wit_names.specs.declared.package_name.PackageName.{PackageName}
use Rattle.wit_data.specs.declared.world.World.{World}
use Rattle.wit_data.specs.declared.world.WorldItem.{WorldItem}
use Rattle.wit_data.specs.declared.world.WorldKey.{WorldKey}
use Rattle.wit_data.specs.declared.world.WorldKey.TheVariants as key
use Rattle.wit_elaboration.specs.Entries.{keyed_interfaces}
use Rattle.wit_elaboration.specs.Valid.{IsValid}
use Rattle.wit_graph_data.specs.declared.graph.Graph.{Graph}
use Rattle.wit_elaboration.specs.AllElaborated.{elaborated_world}
use Rattle.wit_remap_spec.specs.Image.{world_image}
use Rattle.wit_graph_theory.specs.facts.LawsOfElaboration.{LawsOfElaboration}
use Rattle.wit_graph_theory.specs.facts.ListFacts.{at_map, found_at, from_map, get_at, same_at}
use Rattle.wit_data.specs.Entries.{entries_of}
use Rattle.wit_merge_spec.specs.Cause.{same_sort, HasNoMismatch}
use Rattle.wit_merge_spec.specs.Matches.{GraphMerge, counterpart_world}
use Rattle.wit_merge_spec.specs.Merged.{merge_maps, merged_world, joined_graph, merged}
use Rattle.wit_merge_laws.specs.facts.AgreementBack.{agreement_is_symmetric}
use Rattle.wit_merge_laws.specs.facts.BothNames.{names_of_both}
use Rattle.wit_merge_laws.specs.facts.BothOrders.{Corresponds, InBothOrders, flip, of_graph, of_other, other_way}
use Rattle.wit_merge_laws.specs.facts.ExportsLike.{elaborates_back}
use Rattle.wit_merge_laws.specs.facts.FoundBack.{interface_back as interface_back_to, world_back as world_back_to}
use Rattle.wit_merge_laws.specs.facts.JoinedGood.{MergeCanElaborate}
use Rattle.wit_merge_laws.specs.facts.LabelSorts.{SortFrom, is_same_sort, matched_sort, sort_from, sort_of, sort_of_graph, sort_of_other}
use Rattle.wit_merge_laws.specs.facts.ListedStand.{WorldFrom, world_at_from}
use Rattle.wit_merge_laws.specs.facts.ListedStand as worlds
use Rattle.wit_merge_laws.specs.facts.LoneWorlds.{imports_back, imports_like, listed_here, listed_there, stays_so, unmatched_moves}
use Rattle.wit_merge_laws.specs.facts.MatchFacts.{goes_to, world_is}
use Rattle.wit_merge_laws.specs.facts.MatchedOnce.{lists_distinct, one_under}
use Rattle.wit_merge_laws.specs.facts.MatchedTypes.{alias_matched}
use Rattle.wit_merge_laws.specs.laws.MergingLaws.{merge_of_graphs}
use Rattle.wit_merge_laws.specs.laws.Names.{HasImport, HasName, IsInterface, IsWorld, Label, Name, of_export, of_label}
use Rattle.wit_merge_laws.specs.facts.NamesGo.{MapsInto, interface_back, interface_remapped, world_back, world_remapped}
use Rattle.wit_merge_laws.specs.facts.NamesParts.{going_to, graph_part, other_part, staying}
use Rattle.wit_merge_laws.specs.facts.NoCycles.{are_one, can_elaborate}
use Rattle.wit_merge_laws.specs.laws.OrderLaws.{AreAlike, EitherOrderElaborates, HasKey, IsKey, Key, MergesAreAlike, MergingIsOrderFree, StandsUnder, under_interface, under_label}
use Rattle.wit_merge_laws.specs.facts.SharedImports.{imports_it, imports_of_both, matched, world_unique}
use Rattle.wit_merge_laws.specs.facts.TypesStand.{matched_some}
use Rattle.wit_merge_laws.specs.facts.UsesListed.{key_in}
use Rattle.wit_merge_laws.specs.facts.WorldsStand.{entry}
use Rattle.wit_merge_spec.specs.steps.Parts.{moves_world}

other_first : {A B : Type 0} → A ⊎ B → B ⊎ A
other_first (inl a) = inr a
other_first (inr b) = inl b

module _ (laws : LawsOfElaboration) (g h : Graph) (offset back : ℕ) (both : InBothOrders g h offset back) (elaborates : MergeCanElaborate (merge_of_graphs g h offset)) (elaborates_back : MergeCanElaborate (merge_of_graphs h g back)) where
  abbrev m : GraphMerge
  m = merge_of_graphs g h offset

  abbrev n : GraphMerge
  n = merge_of_graphs h g back

  abbrev there : Graph
  there = merged m

  abbrev here : Graph
  here = merged n

  abbrev graph_there : MapsInto g there staying
  graph_there = graph_part laws m both.valid both.valid_other both.one elaborates

  abbrev other_there : MapsInto h there (going_to m)
  other_there = other_part laws m both.valid both.valid_other both.one elaborates

  abbrev other_here : MapsInto h here staying
  other_here = graph_part laws n both.valid_other both.valid both.one_back elaborates_back

  abbrev graph_here : MapsInto g here (going_to n)
  graph_here = other_part laws n both.valid_other both.valid both.one_back elaborates_back

  -- ---- names

  names_go : (name : Name) → HasName there name → HasName here name
  names_go name has =
      (names_of_both laws n name both.valid_other both.valid both.one_back elaborates_back).1 (other_first ((names_of_both laws m name both.valid both.valid_other both.one elaborates).0 has))

  -- interfaces that correspond have the same name
  like_named : (i j : ℕ) → Corresponds g h offset back i j → (of : PackageName) (name : List ℕ) → IsInterface there of name i → IsInterface here of name j
  like_named i j (of_graph within place) of name is =
      let old = get_at g.interfaces i within in
      subst (IsInterface here of name) (sym place) (interface_remapped g here (going_to n) graph_here of name i (interface_back g there staying graph_there both.valid of name i old.0 old.1 is))
  like_named i j (of_other within place) of name is =
      let old = get_at h.interfaces j within in
      interface_remapped h here staying other_here of name j (interface_back h there (going_to m) other_there both.valid_other of name j old.0 old.1 (subst (IsInterface there of name) place is))

  -- ---- imports

  module _ (home of : PackageName) (world name : List ℕ) where
    -- a world that both have
    shared : (w v : ℕ) → IsWorld g home world w → IsWorld h home world v → HasImport there home world of name → HasImport here home world of name
    shared w v is_mine is_theirs has =
        let first = imports_of_both laws m both.valid both.valid_other both.one elaborates home of world name (w, is_mine) (v, is_theirs) in
        let second = imports_of_both laws n both.valid_other both.valid both.one_back elaborates_back home of world name (v, is_theirs) (w, is_mine) in
        second.0.1 (first.1.1 (first.0.0 has))

    -- and one that one of them has
    import_goes : (w' i : ℕ) (listed : World) → IsWorld there home world w' → IsInterface there of name i → HasImport there home world of name → Contains (keyed_interfaces (elaborated_world (joined_graph m) listed).imports) i → WorldFrom m w' listed
        → HasImport here home world of name
    import_goes w' i listed is_world is_interface has imported (worlds.of_graph old at same) =
        let is_mine = world_back g there staying graph_there both.valid home world w' old at is_world in
        elim (cases_Bool (moves_world n w')) [
          | inl moves ↦
              let now : listed ≡ old = sym same ∙ stays_so laws g h offset back both elaborates elaborates_back w' old at moves in
              let like = imports_like laws g h offset back both elaborates elaborates_back w' old at moves i (subst (λ (x : World). Contains (keyed_interfaces (elaborated_world (joined_graph m) x).imports) i) now imported) in
              let image = world_image (merge_maps n) w' old in
              let by = imports_it here (merged_world n w') (elaborated_world (joined_graph n) image) like.0
              (at_map (elaborated_world (joined_graph n)) (joined_graph n).worlds (merged_world n w') image (listed_here laws g h offset back both elaborates elaborates_back w' old at moves)) like.2 in
              (merged_world n w', like.0, by.held, world_remapped g here (going_to n) graph_here home world w' is_mine, like_named i like.0 like.1 of name is_interface, by.has)
          | inr stays ↦
              let some = matched_some (counterpart_world n w') stays in
              let is = world_is n both.valid_other w' some.0 some.1 in
              let place : merged_world n w' ≡ some.0 = goes_to (counterpart_world n w') _ some.0 some.1 in
              let goes = subst (IsWorld here home world) place (world_remapped g here (going_to n) graph_here home world w' is_mine) in
              shared w' some.0 is_mine (world_back h here staying other_here both.valid_other home world some.0 is.into is.into_is goes) has
        ]
    import_goes w' i listed is_world is_interface has imported (worlds.of_other v old at moves place same) =
        let is_theirs = world_back h there (going_to m) other_there both.valid_other home world v old at (subst (IsWorld there home world) place is_world) in
        let back_so = other_way g h offset back both in
        let like = imports_back laws h g back offset back_so elaborates_back elaborates v old at moves i (subst (λ (x : World). Contains (keyed_interfaces (elaborated_world (joined_graph m) x).imports) i) (sym same) imported) in
        let by = imports_it here v (elaborated_world (joined_graph n) old) like.0
        (at_map (elaborated_world (joined_graph n)) (joined_graph n).worlds v old (listed_there laws h g back offset back_so elaborates_back elaborates v old at moves)) like.2 in
        (v, like.0, by.held, world_remapped h here staying other_here home world v is_theirs, like_named i like.0 (flip h g back offset like.0 i like.1) of name is_interface, by.has)

    imports_go : HasImport there home world of name → HasImport here home world of name
    imports_go has =
        let w' = has.0 in
        let i = has.1 in
        let held = has.2 in
        let done = found_at (λ (x : World). Contains x.imports (entry (key.Interface i) held)) there.worlds w' has.5 in
        let listed = from_map (elaborated_world (joined_graph m)) (joined_graph m).worlds w' done.0 done.1 in
        let imported = key_in (elaborated_world (joined_graph m) listed.0).imports i held (subst (λ (x : World). Contains x.imports (entry (key.Interface i) held)) (sym listed.2) done.2) in
        import_goes w' i listed.0 has.3 has.4 has imported (world_at_from m w' listed.0 listed.1)

  -- ---- keys

  -- an entry under a key goes to one under it
  key_remapped : (home : PackageName) (world : List ℕ) (exported : Bool) (under : Key) (k : WorldKey) (held : WorldItem) (w : ℕ) → IsWorld there home world w
      → SomeAt there.worlds w (λ (x : World). Contains (entries_of exported x) (entry k held)) → IsKey there under k → HasKey here home world exported under
  key_remapped home world exported (under_label text) k held w is stands key_is =
      let l : Label = record { home = home; world = world; exported = exported; label = text } in
      let goes = names_go (of_label l) (w, held, is, subst (λ (x : WorldKey). SomeAt there.worlds w (λ (y : World). Contains (entries_of exported y) (entry x held))) key_is stands) in
      record { w = goes.0; of = goes.2; entry = entry (key.Name text) goes.1; listed = goes.3; key_is = refl }
  key_remapped home world true (under_interface of name) k held w is stands (i, named, key_is) =
      let goes = names_go (of_export home world of name) (w, i, held, is, named, subst (λ (x : WorldKey). SomeAt there.worlds w (λ (y : World). Contains y.exports (entry x held))) key_is stands) in
      record { w = goes.0; of = goes.3; entry = entry (key.Interface goes.1) goes.2; listed = goes.5; key_is = (goes.1, goes.4, refl) }
  key_remapped home world false (under_interface of name) k held w is stands (i, named, key_is) =
      let goes = imports_go home of world name (w, i, held, is, named, subst (λ (x : WorldKey). SomeAt there.worlds w (λ (y : World). Contains y.imports (entry x held))) key_is stands) in
      record { w = goes.0; of = goes.3; entry = entry (key.Interface goes.1) goes.2; listed = goes.5; key_is = (goes.1, goes.4, refl) }

  keys_go : (home : PackageName) (world : List ℕ) (exported : Bool) (under : Key) → HasKey there home world exported under → HasKey here home world exported under
  keys_go home world exported under has = key_remapped home world exported under has.entry.0 has.entry.1 has.w has.of has.listed has.key_is

  -- ---- sorts

  -- two worlds of one graph with one name have one thing under a label
  one_label : (x : Graph) → IsValid x → (home : PackageName) (world : List ℕ) (w v : ℕ) → IsWorld x home world w → IsWorld x home world v → (old new : World) → slice_get x.worlds w ≡ Some old → slice_get x.worlds v ≡ Some new
      → (exported : Bool) (label : List ℕ) (d e : WorldItem) → Contains (entries_of exported old) (entry (key.Name label) d) → Contains (entries_of exported new) (entry (key.Name label) e) → d ≡ e
  one_label x valid home world w v is is_so old new at at_so exported label d e has has_so =
      let same = same_at x.worlds w v old new (world_unique x valid home world w v is is_so) at at_so in
      one_under (entries_of exported new) (lists_distinct x valid v exported new at_so) (key.Name label) d e (subst (λ (y : World). Contains (entries_of exported y) (entry (key.Name label) d)) same has) has_so

  module _ (l : Label) (held held' : WorldItem) (w v : ℕ) (is : IsWorld there l.home l.world w) (is_so : IsWorld here l.home l.world v) where
    from_g : (old : World) → slice_get g.worlds w ≡ Some old → IsWorld g l.home l.world w
    from_g old at = world_back g there staying graph_there both.valid l.home l.world w old at is

    from_h : (x : ℕ) (old : World) → slice_get h.worlds x ≡ Some old → w ≡ merged_world m x → IsWorld h l.home l.world x
    from_h x old at place = world_back h there (going_to m) other_there both.valid_other l.home l.world x old at (subst (IsWorld there l.home l.world) place is)

    back_h : (old : World) → slice_get h.worlds v ≡ Some old → IsWorld h l.home l.world v
    back_h old at = world_back h here staying other_here both.valid_other l.home l.world v old at is_so

    back_g : (x : ℕ) (old : World) → slice_get g.worlds x ≡ Some old → v ≡ merged_world n x → IsWorld g l.home l.world x
    back_g x old at place = world_back g here (going_to n) graph_here both.valid l.home l.world x old at (subst (IsWorld here l.home l.world) place is_so)

    found_so : (x y : ℕ) → IsWorld g l.home l.world x → IsWorld h l.home l.world y → (old : World) → slice_get g.worlds x ≡ Some old → counterpart_world m y ≡ Some x
    found_so x y mine theirs old at = matched laws m both.valid both.valid_other both.one elaborates l.home l.home l.world l.world y x mine theirs old at

    one_sort : SortFrom laws m both.valid both.valid_other both.one elaborates w l.exported l.label held → SortFrom laws n both.valid_other both.valid both.one_back elaborates_back v l.exported l.label held' → sort_of held ≡ sort_of held'
    one_sort (sort_of_graph old d at has sort) (sort_of_graph old' d' at' has' sort') =
        let found = found_so w v (from_g old at) (back_h old' at') old at in
        sym sort ∙ (sym (matched_sort laws m both.valid both.valid_other both.one elaborates v w old' old at' found at l.exported l.label d' d has' has) ∙ sort')
    one_sort (sort_of_graph old d at has sort) (sort_of_other x old' d' at' moves place has' sort') =
        sym sort ∙ (ap sort_of (one_label g both.valid l.home l.world w x (from_g old at) (back_g x old' at' place) old old' at at' l.exported l.label d d' has has') ∙ sort')
    one_sort (sort_of_other x old d at moves place has sort) (sort_of_graph old' d' at' has' sort') =
        sym sort ∙ (ap sort_of (one_label h both.valid_other l.home l.world x v (from_h x old at place) (back_h old' at') old old' at at' l.exported l.label d d' has has') ∙ sort')
    one_sort (sort_of_other x old d at moves place has sort) (sort_of_other y old' d' at' moves' place' has' sort') =
        absurd (unmatched_moves (counterpart_world m x) y moves (found_so y x (back_g y old' at' place') (from_h x old at place) old' at'))

  sorts_same : (l : Label) (held held' : WorldItem) → StandsUnder there l held → StandsUnder here l held' → same_sort held held' ≡ true
  sorts_same l held held' first second =
      is_same_sort held held' (one_sort l held held' first.w second.w first.of second.of (sort_from laws m both.valid both.valid_other both.one elaborates first.w l.exported l.label held first.stands)
      (sort_from laws n both.valid_other both.valid both.one_back elaborates_back second.w l.exported l.label held' second.stands))

-- ---- the two merged graphs are alike

alike : LawsOfElaboration → (g h : Graph) (offset back : ℕ) → InBothOrders g h offset back → MergeCanElaborate (merge_of_graphs g h offset) → MergeCanElaborate (merge_of_graphs h g back) → AreAlike (merged (merge_of_graphs g h offset)) (merged (merge_of_graphs h g back))
alike laws g h offset back both elaborates elaborates_back =
    let other_way_so = other_way g h offset back both in
    record {
      names = λ name. (names_go laws g h offset back both elaborates elaborates_back name, names_go laws h g back offset other_way_so elaborates_back elaborates name);
      sorts = sorts_same laws g h offset back both elaborates elaborates_back;
      keys = λ home world exported under. (
        keys_go laws g h offset back both elaborates elaborates_back home world exported under,
        keys_go laws h g back offset other_way_so elaborates_back elaborates home world exported under,
      );
    }

-- ---- where they agree one way

in_both_orders : (g h : Graph) (offset back : ℕ) → IsValid g → IsValid h → HasNoMismatch (merge_of_graphs g h offset) → InBothOrders g h offset back
in_both_orders g h offset back valid valid_other one =
    let one_back = agreement_is_symmetric g h offset back valid valid_other one in
    record {
      valid = valid;
      valid_other = valid_other;
      one = one;
      one_back = one_back;
      interface_back = interface_back_to g h offset back valid valid_other;
      interface_there = interface_back_to h g back offset valid_other valid;
      world_back = world_back_to g h offset back valid valid_other;
      world_there = world_back_to h g back offset valid_other valid;
      aliases = alias_matched (merge_of_graphs g h offset) valid valid_other one;
      aliases_back = alias_matched (merge_of_graphs h g back) valid_other valid one_back;
    }

pub either_order_elaborates : EitherOrderElaborates
either_order_elaborates g h offset back valid valid_other one elaborates = elaborates_back g h offset back (in_both_orders g h offset back valid valid_other one) elaborates

pub merging_is_order_free : LawsOfElaboration → MergingIsOrderFree
merging_is_order_free laws g h offset back valid valid_other one elaborates =
    let both = in_both_orders g h offset back valid valid_other one in
    alike laws g h offset back both elaborates (elaborates_back g h offset back both elaborates)

-- ---- where both merges are accepted

pub merges_are_alike : LawsOfElaboration → MergesAreAlike
merges_are_alike laws g h offset back valid valid_other can can_back =
    let m = merge_of_graphs g h offset in
    merging_is_order_free laws g h offset back valid valid_other (are_one m can) (can_elaborate m valid valid_other can laws.refused)
