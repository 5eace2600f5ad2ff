-- The interfaces of two graphs that are one: those of the graph stay and may have more, those of the other stand at
-- their places, and there are no others.
use Rattle.std.proofs.Common.{◌≡◌, ◌∙◌, ℕ, ◌+◌, Bool, true, not, List, ◌++◌, inl, inr, map, length, is_some, nat_eq, Option, None, Some, slice_get, refl, sym, ap, subst, arith, Contains}
use Rattle.std.specs.List.{enumerate_from}
use Rattle.std.specs.Map.{lookup}
use Rattle.std.specs.Option.{option_eq, option_map_or}
use Rattle.std.specs.Str.{bytes_eq}
use Rattle.std.proofs.lemmas.Bool.{cases_Bool, eqb-true, eq-eqb, false≢true, lt-ltb}
use Rattle.std.proofs.lemmas.List.{length-map}
use Rattle.std.proofs.lemmas.List.Elements.{Contains-append_cases, Contains-append_left, Contains-append_right}
use Rattle.std.proofs.lemmas.Map.Views.{Contains-from_lookup, IsSome-lookup_from_Contains}
use Rattle.std.proofs.lemmas.Option.{slice_get_within}
use Rattle.std.proofs.lemmas.Slice.Eq.{bytes_eq-Decides}
use Rattle.std.specs.Cmp.Lexicographic.{nat_list_eq_equiv}
use Rattle.wit_values.specs.facts.Lists.{slice_get-append}
use Rattle.wit_data.specs.Each.{SomeAt}
use Rattle.wit_data.specs.declared.function.Function.{Function}
use Rattle.wit_data.specs.declared.interface.Interface.{Interface}
use Rattle.wit_data.specs.declared.types.TypeDef.{TypeDef}
use Rattle.wit_data.specs.declared.types.TypeOwner.TheVariants as owner
use Rattle.wit_elaboration.specs.facts.Filters.{Contains-filter, Contains-filtered}
use Rattle.wit_elaboration.specs.Valid.{IsValid}
use Rattle.wit_graph_theory.specs.facts.CarriedImages.{function_image_carried, function_itself_carried}
use Rattle.wit_graph_theory.specs.facts.Covered.{FunctionComes, InterfaceAt, InterfaceComes, ListedComes}
use Rattle.wit_graph_theory.specs.Cut.{mapped_source}
use Rattle.wit_graph_theory.specs.facts.CutIsGood.{distinct_kept}
use Rattle.wit_graph_theory.specs.facts.GoodIsValid.{good_things}
use Rattle.wit_remap_spec.specs.Image.{function_image, interface_image}
use Rattle.wit_graph_theory.specs.facts.ImagesCome.{distinct_map, interface_image_comes, interface_image_stands}
use Rattle.wit_graph_theory.specs.facts.ListFacts.{Contains-map, Contains-map_cases, at_map, at_new, contained_at, found_at, from_map, old_or_new, place_of, some_at}
use Rattle.wit_graph_theory.specs.Operations.{merge_sources}
use Rattle.wit_graph_theory.specs.facts.OptionFacts.{none_or_some, none_there, some_by, some_same}
use Rattle.wit_graph_theory.specs.facts.PackagesAcyclic.{length-numbered, numbered_from, numbered_into}
use Rattle.wit_graph_theory.specs.steps.Sources.{InterfaceStands, IsCarriedFunction, Source}
use Rattle.wit_link_spec.specs.facts.ForeignFound.{find-passes, find-some}
use Rattle.wit_graph_data.specs.Named.{interface_type}
use Rattle.wit_link_spec.specs.facts.RankFacts.{selected-at, selected_with_index-from}
use Rattle.wit_remap_spec.specs.Selected.{rank, selected_with_index}
use Rattle.wit_link_spec.specs.facts.KeysApart.{joined_apart}
use Rattle.wit_merge_spec.specs.Merged.{joined_graph, with_interface, brought_functions, merge_maps, merged_interface, merged_type}
use Rattle.wit_merge_spec.specs.Matches.{GraphMerge, counterpart_interface, counterpart_of, counterpart_type, counterpart_type_by}
use Rattle.wit_merge_laws.specs.facts.MatchFacts.{goes_to, interface_is}
use Rattle.wit_merge_laws.specs.facts.MatchedOnce.{interface_once}
use Rattle.wit_merge_laws.specs.facts.TypesStand.{matched_some, moved_next}
use Rattle.wit_merge_laws.specs.facts.WholeFacts.{interface_at, types_within}
use Rattle.wit_remap_spec.specs.steps.Parts.{identity}
use Rattle.wit_merge_spec.specs.steps.Parts.{moved_interfaces, brought_types, joined_interface, moves_type, moves_interface}

-- ---- counterparts

pub option_is : (o : Option ℕ) (x : ℕ) → option_eq nat_eq o (Some x) ≡ true → o ≡ Some x
option_is None x same = absurd (false≢true same)
option_is (Some y) x same = ap (λ (z : ℕ). Some z) (eqb-true y x same)

pub option_so : (o : Option ℕ) (x : ℕ) → o ≡ Some x → option_eq nat_eq o (Some x) ≡ true
option_so o x is = ap (λ (p : Option ℕ). option_eq nat_eq p (Some x)) is ∙ eq-eqb x x refl

module _ {X : Type 0} (found : ℕ → Option ℕ) (others : List X) (x' : ℕ) where
  abbrev test : ℕ × X → Bool
  test e = option_eq nat_eq (found e.0) (Some x')

  -- what is matched with a thing goes to it
  pub counterpart_from : (p : ℕ × X) → counterpart_of found others x' ≡ Some p → (slice_get others p.0 ≡ Some p.1) × (found p.0 ≡ Some x')
  counterpart_from p is =
      let passes = find-passes test (enumerate_from 0 others) p is in
      let place = place_of (enumerate_from 0 others) p passes.0 in
      let numbered = numbered_from 0 others place.0 p place.1 in
      let n = numbered.0 in
      (subst (λ (k : ℕ). slice_get others k ≡ Some p.1) (omega (arith, n)) numbered.1, option_is (found p.0) x' passes.1)

  -- and what alone goes to it is that
  pub counterpart_is : ((i j : ℕ) → found i ≡ Some x' → found j ≡ Some x' → i ≡ j) → (i : ℕ) (x : X) → slice_get others i ≡ Some x → found i ≡ Some x' → counterpart_of found others x' ≡ Some (i, x)
  counterpart_is once i x at goes =
      let place : 0 + i ≡ i = omega arith in
      let listed : Contains (enumerate_from 0 others) (i, x) = contained_at (enumerate_from 0 others) i (i, x) (numbered_into 0 others i x at ∙ ap (λ (n : ℕ). Some (n, x)) place) in
      let some = find-some test (enumerate_from 0 others) (i, x) listed (option_so (found i) x' goes) in
      let from = counterpart_from some.0 some.1 in
      let same : some.0.0 ≡ i = once some.0.0 i from.1 goes in
      let held : some.0.1 ≡ x = some_same some.0.1 x (sym from.0 ∙ (ap (slice_get others) same ∙ at)) in
      some.1 ∙ (λ k. Some (same k, held k))

-- ---- where interfaces stand

module _ (m : GraphMerge) where
  abbrev old_interfaces : List Interface
  old_interfaces = map (joined_interface m) (enumerate_from 0 m.graph.interfaces)

  abbrev images : List Interface
  images = map (interface_image (merge_maps m)) (moved_interfaces m)

  long_old : length old_interfaces ≡ length m.graph.interfaces
  long_old = length-map (enumerate_from 0 m.graph.interfaces) (joined_interface m) ∙ length-numbered 0 m.graph.interfaces

  -- an interface of the graph stays at its place
  pub old_interface_at : (i : ℕ) (interface : Interface) → slice_get m.graph.interfaces i ≡ Some interface → slice_get (joined_graph m).interfaces i ≡ Some (joined_interface m (i, interface))
  old_interface_at i interface at =
      let place : 0 + i ≡ i = omega arith in
      slice_get-append old_interfaces images i (joined_interface m (i, interface))
      (at_map (joined_interface m) (enumerate_from 0 m.graph.interfaces) i (i, interface) (numbered_into 0 m.graph.interfaces i interface at ∙ ap (λ (n : ℕ). Some (n, interface)) place))

  pub moved_interface_remapped : (i : ℕ) → moves_interface m i ≡ true → merged_interface m i ≡ length m.graph.interfaces + rank (moves_interface m) i
  moved_interface_remapped i moves = moved_next (counterpart_interface m i) _ moves

  -- one that moves stands at the next place, as its image
  pub new_interface_at : (i : ℕ) (interface : Interface) → slice_get m.other.interfaces i ≡ Some interface → moves_interface m i ≡ true
      → slice_get (joined_graph m).interfaces (merged_interface m i) ≡ Some (interface_image (merge_maps m) interface)
  new_interface_at i interface at moves =
      let goes = moved_interface_remapped i moves in
      let long = long_old in
      at_new old_interfaces images (rank (moves_interface m) i) (merged_interface m i) (interface_image (merge_maps m) interface) (omega (arith, goes, long))
      (at_map (interface_image (merge_maps m)) (moved_interfaces m) (rank (moves_interface m) i) interface (selected-at (moves_interface m) m.other.interfaces i interface at moves))

  -- what stands there is one of these
  pub data InterfaceFrom (f' : ℕ) (new : Interface) : Type 0 where
    of_graph : (old : Interface) → slice_get m.graph.interfaces f' ≡ Some old
        → joined_interface m (f', old) ≡ new → InterfaceFrom f' new
    of_other : (i : ℕ) (old : Interface) → slice_get m.other.interfaces i ≡ Some old
        → moves_interface m i ≡ true → f' ≡ merged_interface m i
        → interface_image (merge_maps m) old ≡ new → InterfaceFrom f' new

  pub interface_at_from : (f' : ℕ) (new : Interface) → slice_get (joined_graph m).interfaces f' ≡ Some new → InterfaceFrom f' new
  interface_at_from f' new at =
      elim (old_or_new old_interfaces images f' new at) [
        | inl old ↦
            let from = from_map (joined_interface m) (enumerate_from 0 m.graph.interfaces) f' new old in
            let is = numbered_from 0 m.graph.interfaces f' from.0 from.1 in
            let place : from.0.0 ≡ f' = let n = is.0 in omega (arith, n) in
            of_graph from.0.1 is.1 (ap (λ (k : ℕ). joined_interface m (k, from.0.1)) (sym place) ∙ from.2)
        | inr behind ↦
            let from = from_map (interface_image (merge_maps m)) (moved_interfaces m) behind.0 new behind.2 in
            let e = from_map (λ (e : ℕ × Interface). e.1) (selected_with_index (moves_interface m) m.other.interfaces) behind.0 from.0 from.1 in
            let is = selected_with_index-from (moves_interface m) m.other.interfaces behind.0 e.0 e.1 in
            let goes = moved_interface_remapped e.0.0 is.1 in
            let long = long_old in
            let n = behind.1 in
            let r = is.2 in
            of_other e.0.0 from.0 (is.0 ∙ ap (λ (d : Interface). Some d) e.2) is.1 (omega (arith, goes, long, n, r)) from.2
      ]

-- ---- what a joined interface keeps

pub record KeepsInterface (old new : Interface) : Type 0 where
  pub name : new.name ≡ old.name
  pub home : new.package ≡ old.package
  pub types : (e : List ℕ × ℕ) → Contains old.types e → Contains new.types e

pub joined_keeps : (m : GraphMerge) (e : ℕ × Interface) → KeepsInterface e.1 (joined_interface m e)
joined_keeps m e = by (counterpart_of (counterpart_interface m) m.other.interfaces e.0)
  where
    by : (o : Option (ℕ × Interface)) → KeepsInterface e.1 (option_map_or (λ (p : ℕ × Interface). with_interface m p.1 e.1) o e.1)
    by None = record { name = refl; home = refl; types = λ x has. has }
    by (Some p) = record { name = refl; home = refl; types = λ x has. Contains-append_left e.1.types _ x has }

-- ---- they stand

module _ (m : GraphMerge) (valid : IsValid m.graph) (valid_other : IsValid m.other) where
  -- what a matched interface is joined to
  pub with_counterpart : (i i' : ℕ) (from into : Interface) → slice_get m.other.interfaces i ≡ Some from → counterpart_interface m i ≡ Some i' → joined_interface m (i', into) ≡ with_interface m from into
  with_counterpart i i' from into at found =
      ap (λ (o : Option (ℕ × Interface)). option_map_or (λ (p : ℕ × Interface). with_interface m p.1 into) o into)
      (counterpart_is (counterpart_interface m) m.other.interfaces i' (λ i j. interface_once m valid valid_other i j i') i from at found)

  -- what an interface lists is its own, under its name
  own_listed : (i : ℕ) (from : Interface) (name : List ℕ) (t : ℕ) → slice_get m.other.interfaces i ≡ Some from → Contains from.types (name, t)
      → (def : TypeDef) × (slice_get m.other.types t ≡ Some def) × (def.name ≡ Some name) × (def.owner ≡ owner.Interface i)
  own_listed i from name t at has =
      let place = place_of from.types (name, t) has in
      let is = found_at (λ (def : TypeDef). (def.name ≡ Some name) × (def.owner ≡ owner.Interface i)) m.other.types t (valid_other.well_formed.owners.own_types i from at place.0 (name, t) place.1) in
      (is.0, is.1, is.2.0, is.2.1)

  -- so it is found by its name in the counterpart
  pub listed_found : (i i' : ℕ) (from into : Interface) (name : List ℕ) (t : ℕ) → slice_get m.other.interfaces i ≡ Some from → counterpart_interface m i ≡ Some i' → slice_get m.graph.interfaces i' ≡ Some into
      → Contains from.types (name, t) → counterpart_type m t ≡ lookup (bytes_eq name) into.types
  listed_found i i' from into name t at found there has =
      let own = own_listed i from name t at has in
      some_by (λ (def : TypeDef). counterpart_type_by m def.name def.owner) (slice_get m.other.types t) own.0 own.1
      ∙ ((λ k. counterpart_type_by m (own.2 k) (own.3 k))
      ∙ (some_by (interface_type m.graph name) (counterpart_interface m i) i' found ∙ some_by (λ (interface : Interface). lookup (bytes_eq name) interface.types) (slice_get m.graph.interfaces i') into there))

  -- each interface of the other graph stands at its place
  pub interface_stands : (f : ℕ) (old : Interface) → slice_get m.other.interfaces f ≡ Some old → SomeAt (joined_graph m).interfaces (merged_interface m f) (InterfaceStands (mapped_source m.other (merge_maps m)) old)
  interface_stands f old at = elim (cases_Bool (moves_interface m f)) [
    | inl moves ↦
        some_at (InterfaceStands (mapped_source m.other (merge_maps m)) old) (joined_graph m).interfaces (merged_interface m f) (interface_image (merge_maps m) old) (new_interface_at m f old at moves)
        (interface_image_stands (mapped_source m.other (merge_maps m)) old)
    | inr stays ↦ matched (matched_some (counterpart_interface m f) stays)
  ]
    where
      matched : (i' : ℕ) × (counterpart_interface m f ≡ Some i') → SomeAt (joined_graph m).interfaces (merged_interface m f) (InterfaceStands (mapped_source m.other (merge_maps m)) old)
      matched (i', found) =
          let is = interface_is m valid valid_other f i' found in
          let same : is.from ≡ old = some_same is.from old (sym is.from_is ∙ at) in
          let new = with_interface m old is.into in
          let there : slice_get (joined_graph m).interfaces (merged_interface m f) ≡ Some new =
          ap (slice_get (joined_graph m).interfaces) (goes_to (counterpart_interface m f) _ i' found) ∙ (old_interface_at m i' is.into is.into_is ∙ ap (λ (x : Interface). Some x) (with_counterpart f i' old is.into at found)) in
          some_at (InterfaceStands (mapped_source m.other (merge_maps m)) old) (joined_graph m).interfaces (merged_interface m f) new there (record {
            name = is.called ∙ ap (λ (x : Interface). x.name) same;
            types = λ name t has taken. lists is.into is.into_is name t has;
            home = λ none. is.home ∙ ap (λ (x : Interface). (merge_maps m).home x.package) same;
          })
        where
          lists : (into : Interface) → slice_get m.graph.interfaces i' ≡ Some into → (name : List ℕ) (t : ℕ) → Contains old.types (name, t) → Contains (with_interface m old into).types (name, merged_type m t)
          lists into there name t has = elim (cases_Bool (moves_type m t)) [
            | inl moves ↦
                Contains-append_right into.types (map (λ (e : List ℕ × ℕ). let r : List ℕ × ℕ = (e.0, merged_type m e.1) in r) (brought_types m old)) (name, merged_type m t)
                (Contains-map (λ (e : List ℕ × ℕ). let r : List ℕ × ℕ = (e.0, merged_type m e.1) in r) (brought_types m old) (name, t) (Contains-filtered (λ (e : List ℕ × ℕ). moves_type m e.1) old.types (name, t) has moves))
            | inr stays ↦
                let found_t = matched_some (counterpart_type m t) stays in
                let listed : lookup (bytes_eq name) into.types ≡ Some found_t.0 = sym (listed_found f i' old into name t at found there has) ∙ found_t.1 in
                Contains-append_left into.types _ (name, merged_type m t)
                (subst (λ (x : ℕ). Contains into.types (name, x)) (sym (goes_to (counterpart_type m t) _ found_t.0 found_t.1)) (Contains-from_lookup (λ a b. (bytes_eq-Decides a b).0) name found_t.0 into.types listed))
          ]

-- ---- they come of the two

-- a key that is looked up in vain isn't there
not_listed : {V : Type 0} (name : List ℕ) (v : V) (es : List (List ℕ × V)) → lookup (bytes_eq name) es ≡ None → Contains es (name, v) → ⊥
not_listed name v es none has =
    none_or_some (lookup (bytes_eq name) es) none (IsSome-lookup_from_Contains nat_list_eq_equiv name es (Contains-map (λ (e : List ℕ × _). e.0) es (name, v) has))

module _ (m : GraphMerge) (valid : IsValid m.graph) (valid_other : IsValid m.other) where
  abbrev at : ℕ → Source
  at = merge_sources m.graph m.other (merge_maps m)

  -- the interface of the graph at its place, and the one of the other that is matched with it
  abbrev here : (f' : ℕ) (into : Interface) → slice_get m.graph.interfaces f' ≡ Some into
      → InterfaceAt (at 0) f'
  here f' into there = record {
    f = f';
    old = into;
    there = interface_at m.graph valid identity f' into there;
    takes =
        lt-ltb f' (length m.graph.interfaces) (slice_get_within m.graph.interfaces f' into there);
    place = refl;
  }

  abbrev beside : (i f' : ℕ) (from : Interface) → slice_get m.other.interfaces i ≡ Some from
      → f' ≡ merged_interface m i → InterfaceAt (at 1) f'
  beside i f' from there place = record {
    f = i;
    old = from;
    there = interface_at m.other valid_other (merge_maps m) i from there;
    takes = lt-ltb i (length m.other.interfaces) (slice_get_within m.other.interfaces i from there);
    place = place;
  }

  module _ (f' : ℕ) (into : Interface) (there : slice_get m.graph.interfaces f' ≡ Some into) where
    old_listed : (e : List ℕ × ℕ) → Contains into.types e → ListedComes at f' e
    old_listed e has =
        let place = place_of into.types e has in
        record { source = 0; from = here f' into there; t = e.1; listed = has; takes = types_within m.graph valid f' into there place.0 e place.1; place = refl }

    old_function : (e : List ℕ × Function) → Contains into.functions e → FunctionComes at f' e
    old_function e has = record { source = 0; from = here f' into there; old = e.1; listed = has; name = refl; carried = function_itself_carried (at 0) e.1 refl }

    -- where nothing is matched with it
    alone_comes : InterfaceComes at f' into
    alone_comes = record {
      source = 0;
      from = here f' into there;
      name = refl;
      types = λ i e on. old_listed e (contained_at into.types i e on);
      functions = λ i e on. old_function e (contained_at into.functions i e on);
      distinct_types = valid.well_formed.owners.distinct_types f' into there;
      distinct_functions = valid.well_formed.owners.distinct_functions f' into there;
    }

    module _ (i : ℕ) (from : Interface) (other_there : slice_get m.other.interfaces i ≡ Some from) (found : counterpart_interface m i ≡ Some f') where
      abbrev typed : List ℕ × ℕ → List ℕ × ℕ
      typed e = (e.0, merged_type m e.1)

      abbrev imaged : List ℕ × Function → List ℕ × Function
      imaged e = (e.0, function_image (merge_maps m) e.1)

      abbrev from_there : InterfaceAt (at 1) f'
      from_there =
          beside i f' from other_there (sym (goes_to (counterpart_interface m i) _ f' found))

      new_listed : (e : List ℕ × ℕ) → Contains (map typed (brought_types m from)) e → ListedComes at f' e
      new_listed e has =
          let old = Contains-map_cases typed (brought_types m from) e has in
          let kept = Contains-filter (λ (x : List ℕ × ℕ). moves_type m x.1) from.types old.0 old.1 in
          let place = place_of from.types old.0 kept.0 in
          record {
            source = 1;
            from = from_there;
            t = old.0.1;
            listed = subst (λ (name : List ℕ). Contains from.types (name, old.0.1)) (ap (λ (x : List ℕ × ℕ). x.0) old.2) kept.0;
            takes = types_within m.other valid_other i from other_there place.0 old.0 place.1;
            place = sym (ap (λ (x : List ℕ × ℕ). x.1) old.2);
          }

      new_function : (e : List ℕ × Function) → Contains (map imaged (brought_functions from into)) e → FunctionComes at f' e
      new_function e has =
          let old = Contains-map_cases imaged (brought_functions from into) e has in
          let kept = Contains-filter (λ (x : List ℕ × Function). not (is_some (lookup (bytes_eq x.0) into.functions))) from.functions old.0 old.1 in
          record {
            source = 1;
            from = from_there;
            old = old.0.1;
            listed = subst (λ (name : List ℕ). Contains from.functions (name, old.0.1)) (ap (λ (x : List ℕ × Function). x.0) old.2) kept.0;
            name = ap (λ (x : List ℕ × Function). x.1.name) (sym old.2);
            carried = subst (λ (new : Function). IsCarriedFunction (at 1) old.0.1 new) (ap (λ (x : List ℕ × Function). x.1) old.2) (function_image_carried (at 1) old.0.1);
          }

      types_apart : (e f : List ℕ × ℕ) → Contains into.types e → Contains (map typed (brought_types m from)) f → e.0 ≡ f.0 → ⊥
      types_apart e f has new same =
          let old = Contains-map_cases typed (brought_types m from) f new in
          let kept = Contains-filter (λ (x : List ℕ × ℕ). moves_type m x.1) from.types old.0 old.1 in
          let none = none_there (counterpart_type m old.0.1) kept.1 in
          let named : e.0 ≡ old.0.0 = same ∙ sym (ap (λ (x : List ℕ × ℕ). x.0) old.2) in
          not_listed old.0.0 e.1 into.types (sym (listed_found m valid valid_other i f' from into old.0.0 old.0.1 other_there found there kept.0) ∙ none) (subst (λ (n : List ℕ). Contains into.types (n, e.1)) named has)

      functions_apart : (e f : List ℕ × Function) → Contains into.functions e → Contains (map imaged (brought_functions from into)) f → e.0 ≡ f.0 → ⊥
      functions_apart e f has new same =
          let old = Contains-map_cases imaged (brought_functions from into) f new in
          let kept = Contains-filter (λ (x : List ℕ × Function). not (is_some (lookup (bytes_eq x.0) into.functions))) from.functions old.0 old.1 in
          let named : e.0 ≡ old.0.0 = same ∙ sym (ap (λ (x : List ℕ × Function). x.0) old.2) in
          not_listed old.0.0 e.1 into.functions (none_there (lookup (bytes_eq old.0.0) into.functions) kept.1) (subst (λ (n : List ℕ). Contains into.functions (n, e.1)) named has)

      -- where one is
      with_comes : InterfaceComes at f' (with_interface m from into)
      with_comes = record {
        source = 0;
        from = here f' into there;
        name = refl;
        types = λ k e on. elim (Contains-append_cases into.types (map typed (brought_types m from)) e (contained_at (into.types ++ map typed (brought_types m from)) k e on)) [ inl old ↦ old_listed e old | inr new ↦ new_listed e new ];
        functions = λ k e on. elim (Contains-append_cases into.functions (map imaged (brought_functions from into)) e (contained_at (into.functions ++ map imaged (brought_functions from into)) k e on)) [ inl old ↦ old_function e old | inr new ↦ new_function e new ];
        distinct_types = joined_apart into.types (map typed (brought_types m from)) (valid.well_formed.owners.distinct_types f' into there)
            (distinct_map (merged_type m) (brought_types m from) (distinct_kept (λ (x : List ℕ × ℕ). moves_type m x.1) from.types (valid_other.well_formed.owners.distinct_types i from other_there))) types_apart;
        distinct_functions = joined_apart into.functions (map imaged (brought_functions from into)) (valid.well_formed.owners.distinct_functions f' into there)
            (distinct_map (function_image (merge_maps m)) (brought_functions from into)
            (distinct_kept (λ (x : List ℕ × Function). not (is_some (lookup (bytes_eq x.0) into.functions))) from.functions (valid_other.well_formed.owners.distinct_functions i from other_there))) functions_apart;
      }

    joined_comes : InterfaceComes at f' (joined_interface m (f', into))
    joined_comes = by (counterpart_of (counterpart_interface m) m.other.interfaces f') refl
      where
        by : (o : Option (ℕ × Interface)) → counterpart_of (counterpart_interface m) m.other.interfaces f' ≡ o → InterfaceComes at f' (option_map_or (λ (p : ℕ × Interface). with_interface m p.1 into) o into)
        by None is = alone_comes
        by (Some p) is = let from = counterpart_from (counterpart_interface m) m.other.interfaces f' p is in with_comes p.0 p.1 from.0 from.1

  -- each interface of the two graphs as one comes of interfaces of the two
  pub interfaces_come : (f' : ℕ) (new : Interface) → slice_get (joined_graph m).interfaces f' ≡ Some new → InterfaceComes at f' new
  interfaces_come f' new there = by (interface_at_from m f' new there)
    where
      by : InterfaceFrom m f' new → InterfaceComes at f' new
      by (of_graph old is same) = subst (InterfaceComes at f') same (joined_comes f' old is)
      by (of_other i old is goes place same) =
          subst (InterfaceComes at f') same
          (subst (λ (k : ℕ). InterfaceComes at k (interface_image (merge_maps m) old)) (sym place)
          (interface_image_comes at 1 i old (interface_at m.other valid_other (merge_maps m) i old is) (lt-ltb i (length m.other.interfaces) (slice_get_within m.other.interfaces i old is)) (types_within m.other valid_other i old is)
          ((good_things m.other valid_other).interfaces i old is)))
