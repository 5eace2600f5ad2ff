-- Behind an include each thing comes of the partially linked graph, as it stood or as a copy.
use Rattle.std.proofs.Common.{◌≡◌, ◌∙◌, ◌⊎◌, inl, inr, ℕ, Bool, true, false, List, [], ◌++◌, Option, None, Some, slice_get, refl, sym, ap, subst, Contains}
use Rattle.std.specs.Map.{lookup}
use Rattle.std.specs.Option.{option_map_or}
use Rattle.std.proofs.lemmas.Bool.{eq-eqb}
use Rattle.std.proofs.lemmas.List.Elements.{Contains-append_left, Contains-append_right}
use Rattle.wit_data.specs.Entries.{Entry}
use Rattle.wit_data.specs.declared.function.Function.{Function}
use Rattle.wit_data.specs.declared.interface.Interface.{Interface}
use Rattle.wit_data.specs.declared.types.TypeDef.{TypeDef}
use Rattle.wit_data.specs.declared.world.WorldItem.{WorldItem}
use Rattle.wit_data.specs.declared.world.WorldKey.{WorldKey}
use Rattle.wit_data.specs.declared.world.WorldItem.TheVariants as item
use Rattle.wit_elaboration.specs.facts.Filters.{filter-all}
use Rattle.wit_elaboration.specs.Entries.{same_key}
use Rattle.wit_graph_data.specs.declared.graph.Graph.{Graph}
use Rattle.wit_graph_theory.specs.facts.CarriedImages.{image_carried}
use Rattle.wit_graph_theory.specs.facts.Covered.{EntryComes, InterfaceComes, IsCovered, IsNoType, IsOwnMade, ItemComes, TypeComes, WorldComes}
use Rattle.wit_remap_spec.specs.Kept.{KeptIds, cut_interface, cut_world}
use Rattle.wit_remap_spec.specs.steps.Kept.{everything}
use Rattle.wit_graph_theory.specs.facts.GraphSource.{graph_stands, items_are_good}
use Rattle.wit_remap_spec.specs.Image.{entry_image}
use Rattle.wit_graph_theory.specs.facts.ImagesCome.{entry_image_comes, interface_image_comes}
use Rattle.wit_graph_theory.specs.facts.ListFacts.{at_map, contained_at, place_of}
use Rattle.wit_graph_theory.specs.steps.Sources.{Carries, IsCarriedType, IsGoodSource, Source}
use Rattle.wit_link_spec.specs.Include.{belongs_to, new_item}
use Rattle.wit_remap_spec.specs.Joined.{joined_entry, joined_item}
use Rattle.wit_link_spec.specs.facts.Copies.{copied_mentioned, interface_from, type_from, world_from}
use Rattle.wit_link_spec.specs.facts.CopiedPart.{belonging_functions, belonging_types, copied_part, has_name, mentioned_by_active, part_good}
use Rattle.wit_link_spec.specs.facts.Mentioned.{entry_mentioned}
use Rattle.wit_digraph.specs.facts.MemberFacts.{Contains-here}
use Rattle.wit_link_spec.specs.facts.CopiesCarried.{IsUnshadowed, copies_stand, copy_source, graph_stays, joins_exports, joins_imports, world_goes_into}
use Rattle.wit_link_spec.specs.facts.IncludedWorld.{Including, IsIncluded, brought, is_other, joined_world, maps}
use Rattle.wit_link_spec.specs.facts.JoinedFacts.{distinct_joined, from_brought, joined_cases}
use Rattle.wit_link_spec.specs.facts.JoinedItems.{joined_comes, new_comes, no_type_joined, no_type_new}
use Rattle.wit_link_spec.specs.facts.PartiallyLinked.{IsSoundSoFar}
use Rattle.wit_link_spec.specs.facts.Remains.{beside, export_no_type, export_remains, image_no_type, import_remains, interface_remains, type_remains, world_remains}
use Rattle.wit_link_spec.specs.facts.Truth.{or_left}
use Rattle.wit_remap_spec.specs.steps.Parts.{identity}
use Rattle.wit_link_spec.specs.steps.Parts.{interface_copy}

-- ---- what is there comes

module _ (g : Graph) (stands : IsSoundSoFar g) (i : Including g) where
  abbrev kept : KeptIds
  kept = copied_part g i.from i.old

  -- the graph, and the graph as a source of copies
  abbrev pub sources : Bool → Source
  sources = beside g (copy_source g stands i)

  pub sources_good : (b : Bool) → IsGoodSource (sources b)
  sources_good false = items_are_good g stands.items stands.references identity
  sources_good true = part_good g stands i.from i.old i.old_at (maps g i)

  module _ (new : Graph) (are : IsIncluded g i new) where
    pub types_come : (t' : ℕ) (def : TypeDef) → slice_get new.types t' ≡ Some def → TypeComes sources new t' def ⊎ IsOwnMade sources def
    types_come t' def at =
        elim (type_from g stands i new are t' def at) [
          | inl old ↦ inl (type_remains g stands.items (copy_source g stands i) new t' def old)
          | inr made ↦
              inl (record {
                source = true;
                t = made.0;
                old = made.1;
                there = made.2;
                takes = copied_mentioned g stands i made.0 made.3;
                place = made.4;
                carried = subst (IsCarriedType (copy_source g stands i) new made.1) made.5 (image_carried (copy_source g stands i) new made.1 (stands.items.known made.0 made.1 made.2));
              })
        ]

    -- all of an interface that goes with the world is active
    cut_whole : (f : ℕ) (one : Interface) → slice_get g.interfaces f ≡ Some one → belongs_to g i.old f ≡ true → cut_interface kept one ≡ one
    cut_whole f one at goes =
        let types = filter-all (λ (e : List ℕ × ℕ). kept.types e.1) one.types (λ e has. belonging_types g stands i.from i.old i.old_at f one e at goes has) in
        let functions = filter-all (λ (e : List ℕ × Function). kept.functions e.1) one.functions (λ e has. belonging_functions g stands i.from i.old i.old_at f one e at goes has) in
        λ k. record one { types = types k; functions = functions k }

    pub interfaces_come : (f' : ℕ) (one : Interface) → slice_get new.interfaces f' ≡ Some one → InterfaceComes sources f' one
    interfaces_come f' one at =
        elim (interface_from g stands i new are f' one at) [
          | inl old ↦ interface_remains g stands.items (copy_source g stands i) f' one old
          | inr made ↦
              let whole = cut_whole made.0 made.1 made.2 made.3 in
              let there : slice_get (sources true).graph.interfaces made.0 ≡ Some made.1 = at_map (cut_interface kept) g.interfaces made.0 made.1 made.2 ∙ ap Some whole in
              let takes : (sources true).interfaces made.0 ≡ true = or_left (belongs_to g i.old made.0) (has_name g.interfaces made.0) made.3 in
              subst (λ (f : ℕ). InterfaceComes sources f one) (sym made.4)
              (subst (InterfaceComes sources (interface_copy g i.old made.0)) made.5
              (interface_image_comes sources true made.0 made.1 there takes (λ j e on. belonging_types g stands i.from i.old i.old_at made.0 made.1 e made.2 made.3 (contained_at made.1.types j e on))
              ((sources_good true).interfaces made.0 made.1 there takes)))
        ]

    -- ---- worlds

    -- all of the world that is included is active
    all_of_it : cut_world kept i.old ≡ i.old
    all_of_it =
        let imports = filter-all (λ (e : Entry). kept.items e.1) i.old.imports (λ e has. entry_is_active e (Contains-append_left i.old.imports i.old.exports e has)) in
        let exports = filter-all (λ (e : Entry). kept.items e.1) i.old.exports (λ e has. entry_is_active e (Contains-append_right i.old.imports i.old.exports e has)) in
        λ k. record i.old { imports = imports k; exports = exports k }
      where
        entry_is_active : (e : Entry) → Contains (i.old.imports ++ i.old.exports) e → kept.items e.1 ≡ true
        entry_is_active e has = by e.0 e.1 has
          where
            by : (k : WorldKey) (held : WorldItem) → Contains (i.old.imports ++ i.old.exports) (k, held) → kept.items held ≡ true
            by k (item.Interface j stability docs span external_id) has = refl
            by k (item.Function f) has = refl
            by k (item.Type_ t span) has = mentioned_by_active g stands i.from i.old i.old_at t (entry_mentioned g stands i.from i.old i.old_at (k, item.Type_ t span) t has (Contains-here t []))

    -- an entry that is brought comes of the included world
    brought_comes : (e : Entry) → Contains (i.old.imports ++ i.old.exports) e → EntryComes sources i.into (entry_image (maps g i) i.from e)
    brought_comes e has =
        subst (λ (v : ℕ). EntryComes sources v (entry_image (maps g i) i.from e)) (world_goes_into g stands i)
        (entry_image_comes sources true i.from i.old e (at_map (cut_world kept) g.worlds i.from i.old i.old_at ∙ ap Some all_of_it) (eq-eqb i.from i.from refl) has)

    new_one_comes : (e d : Entry) → Contains (i.old.imports ++ i.old.exports) e → entry_image (maps g i) i.from e ≡ d → EntryComes sources i.into (d.0, new_item (is_other g i) d.0 d.1)
    new_one_comes e d has is =
        let comes = subst (EntryComes sources i.into) is (brought_comes e has) in
        record {
          source = comes.source;
          from = comes.from;
          old = comes.old;
          listed = comes.listed;
          key = comes.key;
          held = new_comes (sources comes.source) comes.from.w comes.old.1 d.1 (is_other g i) d.0 comes.held;
        }

    kept_one_comes : (news : List Entry) (e : Entry) → EntryComes sources i.into e → EntryComes sources i.into (joined_entry (is_other g i) news e)
    kept_one_comes news e comes = record {
      source = comes.source;
      from = comes.from;
      old = comes.old;
      listed = comes.listed;
      key = comes.key;
      held = by (lookup (same_key e.0) news);
    }
      where
        by : (o : Option WorldItem) → ItemComes (sources comes.source) comes.from.w comes.old.1 (option_map_or (λ (from : WorldItem). joined_item (is_other g i) from e.1) o e.1)
        by None = comes.held
        by (Some from) = joined_comes (sources comes.source) comes.from.w comes.old.1 e.1 (is_other g i) from comes.held

    no_type_kept : (news : List Entry) (e : Entry) → IsNoType e.1 → IsNoType (joined_entry (is_other g i) news e).1
    no_type_kept news e is = by (lookup (same_key e.0) news)
      where
        by : (o : Option WorldItem) → IsNoType (option_map_or (λ (from : WorldItem). joined_item (is_other g i) from e.1) o e.1)
        by None = is
        by (Some from) = no_type_joined (is_other g i) from e.1 is

    module _ (free : IsUnshadowed g i) where
      joined_comes_of : WorldComes sources new i.into (joined_world g i)
      joined_comes_of = record {
        imports = λ k d on. inl (import_comes d (contained_at (joined_world g i).imports k d on));
        exports = λ k d on. inl (export_comes d (contained_at (joined_world g i).exports k d on));
        distinct_imports = distinct_joined g stands i i.host.imports i.old.imports (joins_imports g stands i free) (is_other g i);
        distinct_exports = distinct_joined g stands i i.host.exports i.old.exports (joins_exports g stands i free) (is_other g i);
        no_includes = (stands.items.worlds i.into i.host i.host_at).no_includes;
      }
        where
          import_comes : (d : Entry) → Contains (joined_world g i).imports d → EntryComes sources i.into d
          import_comes d has =
              elim (joined_cases g stands i i.host.imports i.old.imports (joins_imports g stands i free) (is_other g i) d has) [
                | inl stays ↦
                    let place = place_of i.host.imports stays.0 stays.1 in
                    subst (EntryComes sources i.into) stays.2 (kept_one_comes (brought g i i.old.imports) stays.0 (import_remains g stands.items (copy_source g stands i) i.into i.host place.0 stays.0 i.host_at place.1))
                | inr made ↦
                    let old = from_brought g stands i i.host.imports i.old.imports (joins_imports g stands i free) made.0 made.1 in
                    subst (EntryComes sources i.into) (sym made.3) (new_one_comes old.0 made.0 (Contains-append_left i.old.imports i.old.exports old.0 old.1) old.2)
              ]

          export_comes : (d : Entry) → Contains (joined_world g i).exports d → EntryComes sources i.into d × IsNoType d.1
          export_comes d has =
              elim (joined_cases g stands i i.host.exports i.old.exports (joins_exports g stands i free) (is_other g i) d has) [
                | inl stays ↦
                    let place = place_of i.host.exports stays.0 stays.1 in
                    let comes = export_remains g stands.items (copy_source g stands i) i.into i.host place.0 stays.0 i.host_at place.1 in (
                      subst (EntryComes sources i.into) stays.2 (kept_one_comes (brought g i i.old.exports) stays.0 comes.0),
                      subst (λ (x : Entry). IsNoType x.1) stays.2 (no_type_kept (brought g i i.old.exports) stays.0 comes.1),
                    )
                | inr made ↦
                    let old = from_brought g stands i i.host.exports i.old.exports (joins_exports g stands i free) made.0 made.1 in
                    let place = place_of i.old.exports old.0 old.1 in
                    let was = export_no_type g.interfaces old.0.0 old.0.1 ((stands.items.worlds i.from i.old i.old_at).exports place.0 old.0 place.1).is in
                    let is : IsNoType made.0.1 = subst (λ (x : Entry). IsNoType x.1) old.2 (image_no_type (maps g i) i.from old.0.1 was) in (
                      subst (EntryComes sources i.into) (sym made.3) (new_one_comes old.0 made.0 (Contains-append_right i.old.imports i.old.exports old.0 old.1) old.2),
                      subst (λ (x : Entry). IsNoType x.1) (sym made.3) (no_type_new (is_other g i) made.0.0 made.0.1 is),
                    )
              ]

      -- each thing comes
      pub included_covered : IsCovered everything sources new
      included_covered = record {
        types = λ t' def at takes. types_come t' def at;
        interfaces = λ f' one at takes. interfaces_come f' one at;
        worlds = λ w' world at takes. elim (world_from g stands i new are w' world at) [
          | inl joined ↦ subst (λ (v : ℕ). WorldComes sources new v world) (sym joined.0) (subst (WorldComes sources new i.into) (sym joined.1) joined_comes_of)
          | inr other ↦ world_remains g stands.items (copy_source g stands i) new w' world other.1
        ];
      }

      -- and both sources stand
      pub included_inherits : (b : Bool) → Carries (sources b) new
      included_inherits false = graph_stands g new (graph_stays g stands i new are)
      included_inherits true = copies_stand g stands i new are free
