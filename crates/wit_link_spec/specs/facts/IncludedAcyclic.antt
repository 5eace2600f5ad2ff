-- Behind an include no type refers to itself and no interface uses itself: copies refer to what is copied and to what
-- stays as what they are of did, of which the walks are shorter.
use Rattle.std.proofs.Common.{◌≡◌, ◌∙◌, ℕ, ◌<◌, ◌≤◌, Bool, true, false, List, map, Some, option_map, length, slice_get, sym, ap, subst, arith, Contains}
use Rattle.std.proofs.lemmas.Bool.{ltb-true}
use Rattle.std.proofs.lemmas.List.{length-append, length-map}
use Rattle.std.proofs.lemmas.Option.{slice_get_within}
use Rattle.wit_digraph.specs.Relation.{IsAcyclic}
use Rattle.wit_digraph.specs.PostOrder.{post_order}
use Rattle.wit_data.specs.Each.{Each, SomeAt}
use Rattle.wit_data.specs.Kind.{referred, type_references}
use Rattle.wit_data.specs.Uses.{alias_target, interface_uses, type_interface_dep, uses_of}
use Rattle.wit_data.specs.declared.interface.Interface.{Interface}
use Rattle.wit_data.specs.declared.types.TypeDef.{TypeDef}
use Rattle.wit_data.specs.declared.types.TypeOwner.TheVariants as owner
use Rattle.wit_elaboration.specs.facts.Filters.{Contains-filter, Contains-filtered}
use Rattle.wit_graph_data.specs.declared.graph.Graph.{Graph}
use Rattle.wit_remap_spec.specs.Kept.{cut_interface}
use Rattle.wit_graph_theory.specs.facts.DependencyFacts.{filter_map_from, filter_map_into}
use Rattle.wit_graph_theory.specs.facts.Growth.{InterfacesGrow, TypesGrow}
use Rattle.wit_remap_spec.specs.Image.{interface_image, type_image}
use Rattle.wit_graph_theory.specs.facts.ListFacts.{at_below, contained_at, from_map, in_row, some_at}
use Rattle.wit_graph_theory.specs.facts.Referred.{RefersUnder}
use Rattle.wit_graph_theory.specs.facts.ReferredFacts.{alias_image, kind_refers}
use Rattle.wit_graph_theory.specs.facts.RowFacts.{post_order_shorter}
use Rattle.wit_graph_theory.specs.steps.Sources.{OwnerIsActive}
use Rattle.wit_graph_theory.specs.facts.TypesAcyclic.{types_acyclic}
use Rattle.wit_graph_theory.specs.facts.UsesAcyclic.{uses_acyclic}
use Rattle.wit_link_spec.specs.Include.{belongs_to, is_copied, owner_belongs_to, type_copy}
use Rattle.wit_remap_spec.specs.Selected.{selected}
use Rattle.wit_link_spec.specs.facts.Copies.{behind_copied, behind_goes, copy_at, interface_copy_at, owned_copied}
use Rattle.wit_link_spec.specs.facts.CopiedPart.{belonging_types, copied_part}
use Rattle.wit_link_spec.specs.facts.CopiesCarried.{IsUnshadowed}
use Rattle.wit_link_spec.specs.facts.IncludedCovered.{included_covered, included_inherits, sources, sources_good}
use Rattle.wit_link_spec.specs.facts.IncludedWorld.{Including, IsIncluded, maps}
use Rattle.wit_link_spec.specs.facts.Mentioned.{owned_is}
use Rattle.wit_link_spec.specs.facts.PartiallyLinked.{IsSoundSoFar}
use Rattle.wit_link_spec.specs.steps.Parts.{interface_copy}

module _ (g : Graph) (stands : IsSoundSoFar g) (i : Including g) (new : Graph) (are : IsIncluded g i new) where
  -- what stood in the graph stands in front
  longer_types : length g.types ≤ length new.types
  longer_types = let more = map (type_image (maps g i)) (selected (is_copied g i.from i.old) g.types) in let long = ap length are.types_are in omega (arith, long, length-append g.types more)

  kept_types : (t : ℕ) (def : TypeDef) → t < length g.types → slice_get new.types t ≡ Some def → slice_get g.types t ≡ Some def
  kept_types t def before at = at_below g.types (map (type_image (maps g i)) (selected (is_copied g i.from i.old) g.types)) t def before (subst (λ (ts : List TypeDef). slice_get ts t ≡ Some def) are.types_are at)

  longer_interfaces : length g.interfaces ≤ length new.interfaces
  longer_interfaces = let more = map (interface_image (maps g i)) (selected (belongs_to g i.old) g.interfaces) in let long = ap length are.interfaces_are in omega (arith, long, length-append g.interfaces more)

  kept_interfaces : (f : ℕ) (one : Interface) → f < length g.interfaces → slice_get new.interfaces f ≡ Some one → slice_get g.interfaces f ≡ Some one
  kept_interfaces f one before at =
      at_below g.interfaces (map (interface_image (maps g i)) (selected (belongs_to g i.old) g.interfaces)) f one before (subst (λ (is : List Interface). slice_get is f ≡ Some one) are.interfaces_are at)

  -- ---- types: the rank of one is the length of its walk

  abbrev rank : Bool → ℕ → ℕ
  rank b t = length (post_order (type_references g.types) t)

  carried : (b : Bool) (t : ℕ) (def : TypeDef) → slice_get (sources g stands i b).graph.types t ≡ Some def → (sources g stands i b).types t ≡ true → length g.types ≤ (sources g stands i b).maps.types t
      → SomeAt new.types ((sources g stands i b).maps.types t) (λ (there : TypeDef). RefersUnder (sources g stands i b).maps (referred def.kind) (referred there.kind))
  carried false t def at takes past = let within = ltb-true t (length g.types) takes in absurd (omega arith)
  carried true t def at takes past =
      let copied = behind_copied g stands i t (slice_get_within g.types t def at) past in
      some_at (λ (there : TypeDef). RefersUnder (maps g i) (referred def.kind) (referred there.kind)) new.types (type_copy g i.from i.old t) (type_image (maps g i) def) (copy_at g stands i new are t def at copied)
      (kind_refers (maps g i) def.kind)

  falls : (b : Bool) (t u : ℕ) (def : TypeDef) → slice_get (sources g stands i b).graph.types t ≡ Some def → (sources g stands i b).types t ≡ true → length g.types ≤ (sources g stands i b).maps.types t → Contains (referred def.kind) u → rank b u < rank b t
  falls false t u def at takes past has = let within = ltb-true t (length g.types) takes in absurd (omega arith)
  falls true t u def at takes past has =
      let row = λ (d : TypeDef). referred d.kind in
      let long = length-map g.types row in
      let within = slice_get_within g.types t def at in
      post_order_shorter (type_references g.types) stands.references t u (omega arith) (in_row row g.types t def u at has)

  types_grow : TypesGrow (sources g stands i) rank g.types new
  types_grow = record { longer = longer_types; kept = kept_types; carried = carried; falls = falls }

  -- ---- interfaces, so too

  abbrev uses_rank : Bool → ℕ → ℕ
  uses_rank b f = length (post_order (uses_of g.types g.interfaces) f)

  abbrev ListsImages : Bool → Interface → Interface → Type 0
  ListsImages b one there =
      Each (λ (e : List ℕ × ℕ).
      (t : ℕ) × Contains one.types (e.0, t) × ((sources g stands i b).types t ≡ true)
      × (e.1 ≡ (sources g stands i b).maps.types t)) there.types

  going : (f : ℕ) (one : Interface) → slice_get g.interfaces f ≡ Some one → length g.interfaces ≤ interface_copy g i.old f → belongs_to g i.old f ≡ true
  going f one at past = behind_goes g stands i f (slice_get_within g.interfaces f one at) past

  listed : (b : Bool) (f : ℕ) (one : Interface) → slice_get (sources g stands i b).graph.interfaces f ≡ Some one → (sources g stands i b).interfaces f ≡ true → length g.interfaces ≤ (sources g stands i b).maps.interfaces f
      → SomeAt new.interfaces ((sources g stands i b).maps.interfaces f) (ListsImages b one)
  listed false f one at takes past = let within = ltb-true f (length g.interfaces) takes in absurd (omega arith)
  listed true f one at takes past =
      let kept = copied_part g i.from i.old in
      let whole = from_map (cut_interface kept) g.interfaces f one at in
      let goes = going f whole.0 whole.1 past in
      some_at (ListsImages true one) new.interfaces (interface_copy g i.old f) (interface_image (maps g i) whole.0) (interface_copy_at g stands i new are f whole.0 whole.1 goes)
      (λ k e on.
      let old = from_map (λ (e : List ℕ × ℕ). let r : List ℕ × ℕ = (e.0, type_copy g i.from i.old e.1) in r) whole.0.types k e on in
      let among = contained_at whole.0.types k old.0 old.1 in
      let takes_too = belonging_types g stands i.from i.old i.old_at f whole.0 old.0 whole.1 goes among in
      let cut : Contains (cut_interface kept whole.0).types old.0 = Contains-filtered (λ (e : List ℕ × ℕ). kept.types e.1) whole.0.types old.0 among takes_too in
      let same : old.0.0 ≡ e.0 = ap (λ (p : List ℕ × ℕ). p.0) old.2 in
      let named : Contains (cut_interface kept whole.0).types (e.0, old.0.1) = subst (λ (n : List ℕ). Contains (cut_interface kept whole.0).types (n, old.0.1)) same cut in
      (old.0.1, subst (λ (x : Interface). Contains x.types (e.0, old.0.1)) whole.2 named, takes_too, sym (ap (λ (p : List ℕ × ℕ). p.1) old.2)))

  aliases : (b : Bool) (f t : ℕ) (def : TypeDef) → slice_get (sources g stands i b).graph.types t ≡ Some def → (sources g stands i b).types t ≡ true → def.owner ≡ owner.Interface f → length g.interfaces ≤ (sources g stands i b).maps.interfaces f
      → SomeAt new.types ((sources g stands i b).maps.types t) (λ (there : TypeDef). alias_target there.kind ≡ option_map (sources g stands i b).maps.types (alias_target def.kind))
  aliases false f t def at takes by past =
      let within = ltb-true f (length g.interfaces) (subst (OwnerIsActive (sources g stands i false)) by ((sources_good g stands i false).closed.owners t def at takes)) in
      absurd (omega arith)
  aliases true f t def at takes by past =
      let on : (sources g stands i true).interfaces f ≡ true = subst (OwnerIsActive (sources g stands i true)) by ((sources_good g stands i true).closed.owners t def at takes) in
      let within = (sources_good g stands i true).closed.interfaces_in_range f on in
      let long = length-map g.interfaces (cut_interface (copied_part g i.from i.old)) in
      let goes = behind_goes g stands i f (omega arith) past in
      let copied = owned_copied g stands i t (owned_is g stands i.from i.old t def at ∙ ap (owner_belongs_to g i.from i.old) by ∙ goes) in
      some_at (λ (there : TypeDef). alias_target there.kind ≡ option_map (type_copy g i.from i.old) (alias_target def.kind)) new.types (type_copy g i.from i.old t) (type_image (maps g i) def)
      (copy_at g stands i new are t def at copied) (alias_image (maps g i) def.kind)

  uses_fall : (b : Bool) (f j : ℕ) (one : Interface) → slice_get (sources g stands i b).graph.interfaces f ≡ Some one → (sources g stands i b).interfaces f ≡ true → length g.interfaces ≤ (sources g stands i b).maps.interfaces f
      → Contains (interface_uses (sources g stands i b).graph.types one) j → uses_rank b j < uses_rank b f
  uses_fall false f j one at takes past has = let within = ltb-true f (length g.interfaces) takes in absurd (omega arith)
  uses_fall true f j one at takes past has =
      let kept = copied_part g i.from i.old in
      let whole = from_map (cut_interface kept) g.interfaces f one at in
      let cut : Contains (interface_uses g.types (cut_interface kept whole.0)) j = subst (λ (x : Interface). Contains (interface_uses g.types x) j) (sym whole.2) has in
      let e = filter_map_from (λ (e : List ℕ × ℕ). type_interface_dep g.types e.1) (cut_interface kept whole.0).types j cut in
      let used = filter_map_into (λ (e : List ℕ × ℕ). type_interface_dep g.types e.1) whole.0.types e.0 j (Contains-filter (λ (e : List ℕ × ℕ). kept.types e.1) whole.0.types e.0 e.1).0 e.2 in
      let long = length-map g.interfaces (interface_uses g.types) in
      let within = slice_get_within g.interfaces f whole.0 whole.1 in
      post_order_shorter (uses_of g.types g.interfaces) stands.uses f j (omega arith) (in_row (interface_uses g.types) g.interfaces f whole.0 j whole.1 used)

  interfaces_grow : InterfacesGrow (sources g stands i) uses_rank g new
  interfaces_grow = record { longer = longer_interfaces; kept = kept_interfaces; kept_types = kept_types; listed = listed; aliases = aliases; falls = uses_fall }

  module _ (free : IsUnshadowed g i) where
    pub included_types_acyclic : IsAcyclic (type_references new.types)
    included_types_acyclic =
        types_acyclic (sources g stands i) rank g.types new (λ b. (sources_good g stands i b).closed) (included_inherits g stands i new are free) (included_covered g stands i new are free) types_grow stands.references

    pub included_uses_acyclic : IsAcyclic (uses_of new.types new.interfaces)
    included_uses_acyclic =
        uses_acyclic (sources g stands i) uses_rank g new stands.items (sources_good g stands i) (included_inherits g stands i new are free) (included_covered g stands i new are free) interfaces_grow stands.uses
