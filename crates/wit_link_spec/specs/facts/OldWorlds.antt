-- Each world of the graph comes of itself, when a package is added.
use Rattle.std.proofs.Common.{◌≡◌, inl, ℕ, ◌++◌, length, Some, slice_get, refl, Contains}
use Rattle.std.proofs.lemmas.Bool.{lt-ltb}
use Rattle.std.proofs.lemmas.List.Elements.{Contains-append_left, Contains-append_right}
use Rattle.std.proofs.lemmas.Option.{slice_get_within}
use Rattle.wit_data.specs.Entries.{Entry}
use Rattle.wit_data.specs.declared.world.World.{World}
use Rattle.wit_elaboration.specs.facts.Filters.{Contains-filtered}
use Rattle.wit_elaboration.specs.Valid.{IsValid}
use Rattle.wit_graph_data.specs.declared.graph.Graph.{Graph}
use Rattle.wit_graph_theory.specs.facts.Covered.{EntryComes, WorldComes}
use Rattle.wit_graph_theory.specs.Cut.{kept_whole}
use Rattle.wit_remap_spec.specs.Kept.{cut_world}
use Rattle.wit_graph_theory.specs.facts.GoodIsValid.{good_things}
use Rattle.wit_graph_theory.specs.facts.ListFacts.{at_map, contained_at}
use Rattle.wit_link_spec.specs.Addition.{Addition}
use Rattle.wit_link_spec.specs.facts.Remains.{export_no_type, import_in_range, item_stays, key_stays, no_type_in_range}
use Rattle.wit_link_spec.specs.facts.SourcesGood.{sources}

module _ (a : Addition) (valid : IsValid a.graph) (new : Graph) where
  old_entry : (w : ℕ) (world : World) (e : Entry) → slice_get a.graph.worlds w ≡ Some world
      → Contains ((cut_world (kept_whole a.graph) world).imports ++ (cut_world (kept_whole a.graph) world).exports) e → EntryComes (sources a) w e
  old_entry w world e at listed = record {
    source = 0;
    from = record {
      w = w;
      old = cut_world (kept_whole a.graph) world;
      there = at_map (cut_world (kept_whole a.graph)) a.graph.worlds w world at;
      takes = lt-ltb w (length a.graph.worlds) (slice_get_within a.graph.worlds w world at);
      place = refl;
    };
    old = e;
    listed = listed;
    key = key_stays w e.0;
    held = item_stays a.graph w e.1;
  }

  -- a world of the graph comes of itself
  pub old_world_comes : (w : ℕ) (world : World) → slice_get a.graph.worlds w ≡ Some world → WorldComes (sources a) new w world
  old_world_comes w world at =
      let g = a.graph in
      let good = (good_things g valid).worlds w world at in
      let kept = cut_world (kept_whole g) world in
      record {
        imports = λ i e on. inl (old_entry w world e at (Contains-append_left kept.imports kept.exports e
            (Contains-filtered (λ (d : Entry). (kept_whole g).items d.1) world.imports e (contained_at world.imports i e on) (import_in_range g.interfaces g.types w e.0 e.1 (good.imports i e on).is))));
        exports = λ i e on.
            let is = export_no_type g.interfaces e.0 e.1 (good.exports i e on).is in
            inl (
              old_entry w world e at (Contains-append_right kept.imports kept.exports e
                  (Contains-filtered (λ (d : Entry). (kept_whole g).items d.1) world.exports e (contained_at world.exports i e on) (no_type_in_range (length g.types) e.1 is))),
              is,
            );
        distinct_imports = good.distinct_imports;
        distinct_exports = good.distinct_exports;
        no_includes = good.no_includes;
      }
