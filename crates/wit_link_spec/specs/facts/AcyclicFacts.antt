-- The uses of interfaces and the references of types behind which a package is put are acyclic, whatever becomes of
-- its worlds: a new interface uses old ones and those that its old one used, and so does a new type refer.
use Rattle.std.proofs.Common.{◌≡◌, ◌∙◌, inl, inr, ℕ, zero, suc, ◌<◌, ◌≤◌, true, false, List, ◌++◌, map, length, Some, option_map, slice_get, sym, ap, subst, arith, Contains}
use Rattle.std.proofs.lemmas.Bool.{cases_Bool, false≢true, ltb-true}
use Rattle.std.proofs.lemmas.List.{length-append, length-map}
use Rattle.std.proofs.lemmas.Option.{slice_get_within}
use Rattle.wit_digraph.specs.Relation.{IsAcyclic}
use Rattle.wit_digraph.specs.PostOrder.{post_order}
use Rattle.wit_data.specs.Each.{Each, SomeAt}
use Rattle.wit_data.specs.Kind.{referred, type_references}
use Rattle.wit_data.specs.Shape.{IsShaped}
use Rattle.wit_data.specs.Uses.{alias_target, interface_uses, type_interface_dep, uses_of}
use Rattle.wit_data.specs.declared.interface.Interface.{Interface}
use Rattle.wit_data.specs.declared.types.TypeDef.{TypeDef}
use Rattle.wit_data.specs.declared.types.TypeOwner.TheVariants as owner
use Rattle.wit_elaboration.specs.facts.Filters.{Contains-filter}
use Rattle.wit_elaboration.specs.Valid.{IsValid}
use Rattle.wit_graph_data.specs.declared.graph.Graph.{Graph}
use Rattle.wit_remap_spec.specs.Kept.{cut_interface}
use Rattle.wit_remap_spec.specs.steps.Kept.{everything}
use Rattle.wit_graph_theory.specs.facts.DependencyFacts.{filter_map_from, filter_map_into}
use Rattle.wit_graph_theory.specs.facts.GoodIsValid.{good_things}
use Rattle.wit_graph_theory.specs.facts.Growth.{InterfacesGrow, TypesGrow}
use Rattle.wit_remap_spec.specs.Image.{interface_image, type_image}
use Rattle.wit_graph_theory.specs.facts.ListFacts.{at_below, contained_at, found_at, from_map, get_at, in_row, place_of, some_at}
use Rattle.wit_graph_theory.specs.facts.Referred.{RefersUnder}
use Rattle.wit_graph_theory.specs.facts.ReferredFacts.{alias_image, kind_refers}
use Rattle.wit_graph_theory.specs.facts.RowFacts.{post_order_shorter}
use Rattle.wit_graph_theory.specs.steps.Sources.{Carries, OwnerIsActive}
use Rattle.wit_graph_theory.specs.facts.Covered.{IsCovered}
use Rattle.wit_graph_theory.specs.facts.TypesAcyclic.{types_acyclic}
use Rattle.wit_graph_theory.specs.facts.GraphSource.{good_items}
use Rattle.wit_graph_theory.specs.facts.UsesAcyclic.{uses_acyclic}
use Rattle.wit_link_spec.specs.Addition.{Addition, addition_maps, own_interface, own_interfaces, own_type, remapped_interface, remapped_type, remap_of_addition}
use Rattle.wit_link_spec.specs.facts.ActivePart.{part}
use Rattle.wit_link_spec.specs.facts.ClosedCut.{closed_part}
use Rattle.wit_link_spec.specs.Gates.{interface_is_active, is_foreign_interface, type_is_active}
use Rattle.wit_link_spec.specs.Lookup.{is_foreign_type}
use Rattle.wit_link_spec.specs.facts.OwnThingFacts.{own_of_both}
use Rattle.wit_link_spec.specs.Reasons.{IsResolved}
use Rattle.wit_link_spec.specs.facts.Standing.{foreign_interface_remapped, foreign_type, listed_is}
use Rattle.wit_link_spec.specs.facts.ListedStage.{listed, stage_covered, stage_inherits}
use Rattle.wit_link_spec.specs.facts.Parts.{HasParts}
use Rattle.wit_link_spec.specs.facts.PartsStand.{own_interface_at, own_type_at}
use Rattle.wit_link_spec.specs.facts.SourcesGood.{sources, sources_good}
use Rattle.wit_remap_spec.specs.steps.Parts.{owns}
use Rattle.wit_link_spec.specs.steps.Parts.{own_types}

-- ---- what goes behind the old things is the package's own

module _ (a : Addition) (valid : IsValid a.graph) (shaped : IsShaped a.unresolved) (image : IsResolved a) where
  pub new_type_is_own : (t : ℕ) (def : TypeDef) → slice_get a.unresolved.types t ≡ Some def → type_is_active a.features a.unresolved.types t ≡ true → length a.graph.types ≤ remapped_type a t → own_type a t ≡ true
  new_type_is_own t def at active past = elim (cases_Bool (is_foreign_type a.unresolved t)) [
    | inl foreign ↦
        let is = foreign_type a valid shaped image t def at foreign active in
        let found = found_at (λ (there : TypeDef). (there.name ≡ Some is.name) × (there.owner ≡ owner.Interface (remapped_interface a is.i))) a.graph.types (remapped_type a t)
        (listed_is a.graph valid is.name (remapped_interface a is.i) (remapped_type a t) is.listed) in
        let within = slice_get_within a.graph.types (remapped_type a t) found.0 found.1 in
        absurd (omega arith)
    | inr own ↦ own_of_both (is_foreign_type a.unresolved t) (type_is_active a.features a.unresolved.types t) own active
  ]

  pub new_interface_is_own : (f : ℕ) (interface : Interface) → slice_get a.unresolved.interfaces f ≡ Some interface → interface_is_active a.features a.unresolved f ≡ true → length a.graph.interfaces ≤ remapped_interface a f
      → (is_foreign_interface a.unresolved f ≡ false) × (own_interface a f ≡ true)
  new_interface_is_own f interface at active past = elim (cases_Bool (is_foreign_interface a.unresolved f)) [
    | inl foreign ↦
        let goes = foreign_interface_remapped a valid shaped image f interface at foreign active in
        let found = found_at (λ (there : Interface). _) a.graph.interfaces (remapped_interface a f) goes.1 in
        let within = slice_get_within a.graph.interfaces (remapped_interface a f) found.0 found.1 in
        absurd (omega arith)
    | inr own ↦ (own, own_of_both (is_foreign_interface a.unresolved f) (interface_is_active a.features a.unresolved f) own active)
  ]

  -- a type of one of the package's own interfaces isn't foreign
  owner_own : (t : ℕ) (def : TypeDef) (f : ℕ) → slice_get a.unresolved.types t ≡ Some def → type_is_active a.features a.unresolved.types t ≡ true → def.owner ≡ owner.Interface f → is_foreign_interface a.unresolved f ≡ false → own_type a t ≡ true
  owner_own t def f at active by first = elim (cases_Bool (is_foreign_type a.unresolved t)) [
    | inl foreign ↦
        let is = foreign_type a valid shaped image t def at foreign active in
        let same : is.i ≡ f = owner_same is.i f (sym is.owner_is ∙ by) in
        absurd (false≢true (sym first ∙ ap (is_foreign_interface a.unresolved) (sym same) ∙ is.foreign))
    | inr own ↦ own_of_both (is_foreign_type a.unresolved t) (type_is_active a.features a.unresolved.types t) own active
  ]
    where
      owner_same : (i j : ℕ) → owner.Interface i ≡ owner.Interface j → i ≡ j
      owner_same i j h = cc

  -- what is left of an interface uses nothing but what all of it does
  cut_uses : (interface : Interface) (j : ℕ) → Contains (interface_uses a.unresolved.types (cut_interface (part a) interface)) j → Contains (interface_uses a.unresolved.types interface) j
  cut_uses interface j has =
      let from = filter_map_from (λ (e : List ℕ × ℕ). type_interface_dep a.unresolved.types e.1) (cut_interface (part a) interface).types j has in
      filter_map_into (λ (e : List ℕ × ℕ). type_interface_dep a.unresolved.types e.1) interface.types from.0 j (Contains-filter (λ (e : List ℕ × ℕ). (part a).types e.1) interface.types from.0 from.1).0 from.2

  -- ---- ranks: of an interface the length of its walk, of a type its place

  abbrev uses_rank : ℕ → ℕ → ℕ
  uses_rank k f = length (post_order (uses_of a.unresolved.types a.unresolved.interfaces) f)

  module _ (types : List TypeDef) (interfaces : List Interface) (are : HasParts a types interfaces) where
    abbrev g : Graph
    g = record (listed a) { types = types; interfaces = interfaces }

    -- the first stage of the addition
    stage_is : listed a ≡ g
    stage_is = λ i. record (listed a) { types = sym are.types_are i; interfaces = sym are.interfaces_are i }

    carries : (k : ℕ) → Carries (sources a k) g
    carries k = subst (Carries (sources a k)) stage_is (stage_inherits a valid shaped image k)

    covered : IsCovered everything (sources a) g
    covered = subst (IsCovered everything (sources a)) stage_is (stage_covered a valid shaped image)

    longer_types : length a.graph.types ≤ length types
    longer_types = let more = map (type_image (addition_maps a)) (own_types a) ++ owns (remap_of_addition a) in let long = ap length are.types_are in omega (arith, long, length-append a.graph.types more)

    pub kept_types : (i : ℕ) (def : TypeDef) → i < length a.graph.types → slice_get types i ≡ Some def → slice_get a.graph.types i ≡ Some def
    kept_types i def before at =
        at_below a.graph.types (map (type_image (addition_maps a)) (own_types a) ++ owns (remap_of_addition a)) i def before (subst (λ (ts : List TypeDef). slice_get ts i ≡ Some def) are.types_are at)

    pub kept_interfaces : (i : ℕ) (interface : Interface) → i < length a.graph.interfaces → slice_get interfaces i ≡ Some interface → slice_get a.graph.interfaces i ≡ Some interface
    kept_interfaces i interface before at =
        at_below a.graph.interfaces (map (interface_image (addition_maps a)) (own_interfaces a)) i interface before (subst (λ (is : List Interface). slice_get is i ≡ Some interface) are.interfaces_are at)

    longer_interfaces : length a.graph.interfaces ≤ length interfaces
    longer_interfaces = let more = map (interface_image (addition_maps a)) (own_interfaces a) in let long = ap length are.interfaces_are in omega (arith, long, length-append a.graph.interfaces more)

    abbrev ListsImages : ℕ → Interface → Interface → Type 0
    ListsImages k interface new =
        Each (λ (e : List ℕ × ℕ).
        (t : ℕ) × Contains interface.types (e.0, t) × ((sources a k).types t ≡ true)
        × (e.1 ≡ (sources a k).maps.types t)) new.types

    lists_images : (k f : ℕ) (interface : Interface) → slice_get (sources a k).graph.interfaces f ≡ Some interface → (sources a k).interfaces f ≡ true → length a.graph.interfaces ≤ (sources a k).maps.interfaces f
        → SomeAt interfaces ((sources a k).maps.interfaces f) (ListsImages k interface)
    lists_images zero f interface at takes past = let within = ltb-true f (length a.graph.interfaces) takes in absurd (omega arith)
    lists_images (suc k) f interface at takes past =
        let from = from_map (cut_interface (part a)) a.unresolved.interfaces f interface at in
        let own = new_interface_is_own f from.0 from.1 takes past in
        some_at (ListsImages (suc k) interface) interfaces (remapped_interface a f) (interface_image (addition_maps a) (cut_interface (part a) from.0)) (own_interface_at a valid shaped image types interfaces are f from.0 from.1 own.1)
        (λ i e on.
        let old = from_map (λ (e : List ℕ × ℕ). let r : List ℕ × ℕ = (e.0, remapped_type a e.1) in r) (cut_interface (part a) from.0).types i e on in
        let among = contained_at (cut_interface (part a) from.0).types i old.0 old.1 in
        let same : old.0.0 ≡ e.0 = ap (λ (p : List ℕ × ℕ). p.0) old.2 in
        let has : Contains (cut_interface (part a) from.0).types (e.0, old.0.1) = subst (λ (n : List ℕ). Contains (cut_interface (part a) from.0).types (n, old.0.1)) same among in (
          old.0.1,
          subst (λ (x : Interface). Contains x.types (e.0, old.0.1)) from.2 has,
          (Contains-filter (λ (e : List ℕ × ℕ). (part a).types e.1) from.0.types old.0 among).1,
          sym (ap (λ (p : List ℕ × ℕ). p.1) old.2),
        ))

    aliases : (k f t : ℕ) (def : TypeDef) → slice_get (sources a k).graph.types t ≡ Some def → (sources a k).types t ≡ true → def.owner ≡ owner.Interface f → length a.graph.interfaces ≤ (sources a k).maps.interfaces f
        → SomeAt types ((sources a k).maps.types t) (λ (new : TypeDef). alias_target new.kind ≡ option_map (sources a k).maps.types (alias_target def.kind))
    aliases zero f t def at takes by past =
        let within = ltb-true f (length a.graph.interfaces) (subst (OwnerIsActive (sources a 0)) by ((sources_good a valid shaped image 0).closed.owners t def at takes)) in
        absurd (omega arith)
    aliases (suc k) f t def at takes by past =
        let there = get_at a.unresolved.interfaces f ((closed_part a shaped image).interfaces_in_range f on) in
        let own = new_interface_is_own f there.0 there.1 on past in
        some_at (λ (new : TypeDef). alias_target new.kind ≡ option_map (remapped_type a) (alias_target def.kind)) types (remapped_type a t) (type_image (addition_maps a) def)
        (own_type_at a valid shaped image types interfaces are t def at (owner_own t def f at takes by own.0)) (alias_image (addition_maps a) def.kind)
      where
        on : interface_is_active a.features a.unresolved f ≡ true
        on = subst (OwnerIsActive (sources a 1)) by ((sources_good a valid shaped image 1).closed.owners t def at takes)

    falls : (k f j : ℕ) (interface : Interface) → slice_get (sources a k).graph.interfaces f ≡ Some interface → (sources a k).interfaces f ≡ true → length a.graph.interfaces ≤ (sources a k).maps.interfaces f
        → Contains (interface_uses (sources a k).graph.types interface) j → uses_rank k j < uses_rank k f
    falls zero f j interface at takes past has = let within = ltb-true f (length a.graph.interfaces) takes in absurd (omega arith)
    falls (suc k) f j interface at takes past has =
        let from = from_map (cut_interface (part a)) a.unresolved.interfaces f interface at in
        let used = cut_uses from.0 j (subst (λ (x : Interface). Contains (interface_uses a.unresolved.types x) j) (sym from.2) has) in
        let long = length-map a.unresolved.interfaces (interface_uses a.unresolved.types) in
        let within = slice_get_within a.unresolved.interfaces f from.0 from.1 in
        post_order_shorter (uses_of a.unresolved.types a.unresolved.interfaces) shaped.uses f j (omega arith) (in_row (interface_uses a.unresolved.types) a.unresolved.interfaces f from.0 j from.1 used)

    interfaces_grow : InterfacesGrow (sources a) uses_rank a.graph g
    interfaces_grow = record { longer = longer_interfaces; kept = kept_interfaces; kept_types = kept_types; listed = lists_images; aliases = aliases; falls = falls }

    -- no interface uses itself
    pub added_uses_acyclic : IsAcyclic (uses_of types interfaces)
    added_uses_acyclic =
        uses_acyclic (sources a) uses_rank a.graph g (good_items a.graph (good_things a.graph valid)) (sources_good a valid shaped image) carries covered interfaces_grow valid.no_cycles.uses

    carried : (k t : ℕ) (def : TypeDef) → slice_get (sources a k).graph.types t ≡ Some def → (sources a k).types t ≡ true → length a.graph.types ≤ (sources a k).maps.types t
        → SomeAt types ((sources a k).maps.types t) (λ (new : TypeDef). RefersUnder (sources a k).maps (referred def.kind) (referred new.kind))
    carried zero t def at takes past = let within = ltb-true t (length a.graph.types) takes in absurd (omega arith)
    carried (suc k) t def at takes past =
        some_at (λ (new : TypeDef). RefersUnder (addition_maps a) (referred def.kind) (referred new.kind)) types (remapped_type a t) (type_image (addition_maps a) def)
        (own_type_at a valid shaped image types interfaces are t def at (new_type_is_own t def at takes past)) (kind_refers (addition_maps a) def.kind)

    earlier : (k t u : ℕ) (def : TypeDef) → slice_get (sources a k).graph.types t ≡ Some def → (sources a k).types t ≡ true → length a.graph.types ≤ (sources a k).maps.types t → Contains (referred def.kind) u → u < t
    earlier zero t u def at takes past has = let within = ltb-true t (length a.graph.types) takes in absurd (omega arith)
    earlier (suc k) t u def at takes past has = let place = place_of (referred def.kind) u has in shaped.references.earlier t def at place.0 u place.1

    types_grow : TypesGrow (sources a) (λ k t. t) a.graph.types g
    types_grow = record { longer = longer_types; kept = kept_types; carried = carried; falls = earlier }

    -- and no type refers to itself
    pub added_types_acyclic : IsAcyclic (type_references types)
    added_types_acyclic =
        types_acyclic (sources a) (λ k t. t) a.graph.types g (λ k. (sources_good a valid shaped image k).closed) carries covered types_grow valid.no_cycles.types
