-- Each interface behind which a package is put comes of the graph or of the package.
use Rattle.std.proofs.Common.{◌≡◌, inl, inr, ℕ, ◌+◌, true, List, map, length, Some, slice_get, refl, sym, subst}
use Rattle.std.proofs.lemmas.Bool.{lt-ltb}
use Rattle.std.proofs.lemmas.Option.{slice_get_within}
use Rattle.wit_data.specs.Each.{Each, EachAt}
use Rattle.wit_data.specs.Shape.{IsShaped}
use Rattle.wit_data.specs.declared.function.Function.{Function}
use Rattle.wit_data.specs.declared.interface.Interface.{Interface}
use Rattle.wit_data.specs.declared.types.TypeDef.{TypeDef}
use Rattle.wit_data.specs.declared.types.TypeOwner.TheVariants as owner
use Rattle.wit_elaboration.specs.facts.Filters.{Contains-filter, Contains-filtered}
use Rattle.wit_elaboration.specs.Valid.{IsValid}
use Rattle.wit_graph_data.specs.declared.graph.Graph.{Graph}
use Rattle.wit_graph_theory.specs.facts.CarriedImages.{function_itself_carried}
use Rattle.wit_graph_theory.specs.facts.Covered.{InterfaceAt, InterfaceComes}
use Rattle.wit_graph_theory.specs.Cut.{graph_source, kept_whole}
use Rattle.wit_remap_spec.specs.Kept.{cut_interface}
use Rattle.wit_remap_spec.specs.Image.{interface_image}
use Rattle.wit_graph_theory.specs.facts.ImagesCome.{interface_image_comes}
use Rattle.wit_graph_theory.specs.facts.ListFacts.{at_map, contained_at, found_at, from_map, old_or_new}
use Rattle.wit_link_spec.specs.Addition.{Addition, addition_maps, own_interfaces}
use Rattle.wit_link_spec.specs.facts.ActivePart.{part}
use Rattle.wit_link_spec.specs.facts.OwnThingFacts.{own_interface_from}
use Rattle.wit_link_spec.specs.Reasons.{IsResolved}
use Rattle.wit_link_spec.specs.facts.Parts.{HasParts}
use Rattle.wit_link_spec.specs.facts.SourcesGood.{sources, sources_good}

module _ (a : Addition) (valid : IsValid a.graph) (shaped : IsShaped a.unresolved) (image : IsResolved a) (g : Graph) (are : HasParts a g.types g.interfaces) where
  -- what an interface of the graph lists is there
  listed_there : (f : ℕ) (interface : Interface) → slice_get a.graph.interfaces f ≡ Some interface → Each (λ (e : List ℕ × ℕ). (kept_whole a.graph).types e.1 ≡ true) interface.types
  listed_there f interface there i e on =
      let found = found_at (λ (def : TypeDef). (def.name ≡ Some e.0) × (def.owner ≡ owner.Interface f)) a.graph.types e.1 (valid.well_formed.owners.own_types f interface there i e on) in
      lt-ltb e.1 (length a.graph.types) (slice_get_within a.graph.types e.1 found.0 found.1)

  -- an interface of the graph comes as itself
  old_comes : (f : ℕ) (interface : Interface) → slice_get a.graph.interfaces f ≡ Some interface → InterfaceComes (sources a) f interface
  old_comes f interface there =
      let from : InterfaceAt (sources a 0) f = record {
        f = f;
        old = cut_interface (kept_whole a.graph) interface;
        there = at_map (cut_interface (kept_whole a.graph)) a.graph.interfaces f interface there;
        takes = lt-ltb f (length a.graph.interfaces) (slice_get_within a.graph.interfaces f interface there);
        place = refl;
      } in
      record {
        source = 0;
        from = from;
        name = refl;
        types = λ i e on. record {
          source = 0;
          from = from;
          t = e.1;
          listed = Contains-filtered (λ (e : List ℕ × ℕ). (kept_whole a.graph).types e.1) interface.types e (contained_at interface.types i e on) (listed_there f interface there i e on);
          takes = listed_there f interface there i e on;
          place = refl;
        };
        functions = λ i e on. record {
          source = 0;
          from = from;
          old = e.1;
          listed = Contains-filtered (λ (e : List ℕ × Function). (kept_whole a.graph).functions e.1) interface.functions e (contained_at interface.functions i e on) refl;
          name = refl;
          carried = function_itself_carried (graph_source a.graph) e.1 refl;
        };
        distinct_types = valid.well_formed.owners.distinct_types f interface there;
        distinct_functions = valid.well_formed.owners.distinct_functions f interface there;
      }

  -- the image of one of the package's own comes of it
  image_comes : (i : ℕ) (cut : Interface) → slice_get (own_interfaces a) i ≡ Some cut → InterfaceComes (sources a) (length a.graph.interfaces + i) (interface_image (addition_maps a) cut)
  image_comes i cut on =
      let own = own_interface_from a i cut on in
      let at : slice_get (map (cut_interface (part a)) a.unresolved.interfaces) own.f ≡ Some (cut_interface (part a) own.interface) = at_map (cut_interface (part a)) a.unresolved.interfaces own.f own.interface own.there in
      subst (λ (f' : ℕ). InterfaceComes (sources a) f' (interface_image (addition_maps a) cut)) own.place
      (subst (λ (x : Interface). InterfaceComes (sources a) ((addition_maps a).interfaces own.f) (interface_image (addition_maps a) x)) own.is
      (interface_image_comes (sources a) 1 own.f (cut_interface (part a) own.interface) at own.active
      (λ j e there. (Contains-filter (λ (e : List ℕ × ℕ). (part a).types e.1) own.interface.types e (contained_at (cut_interface (part a) own.interface).types j e there)).1)
      ((sources_good a valid shaped image 1).interfaces own.f (cut_interface (part a) own.interface) at own.active)))

  pub interfaces_come : EachAt (λ f' (new : Interface). InterfaceComes (sources a) f' new) g.interfaces
  interfaces_come f' new on =
      let at = subst (λ (interfaces : List Interface). slice_get interfaces f' ≡ Some new) are.interfaces_are on in
      elim (old_or_new a.graph.interfaces (map (interface_image (addition_maps a)) (own_interfaces a)) f' new at) [
        | inl old ↦ old_comes f' new old
        | inr later ↦
            let from = from_map (interface_image (addition_maps a)) (own_interfaces a) later.0 new later.2 in
            subst (λ (f : ℕ). InterfaceComes (sources a) f new) (sym later.1) (subst (InterfaceComes (sources a) (length a.graph.interfaces + later.0)) from.2 (image_comes later.0 from.0 from.1))
      ]
