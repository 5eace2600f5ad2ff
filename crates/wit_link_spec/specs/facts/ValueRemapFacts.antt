-- What stands behind the types of a graph where a remap puts it, and where values go.
use Rattle.std.proofs.Common.{◌≡◌, ◌∙◌, ◌⊎◌, ◌<◌, ◌+◌, inl, inr, ℕ, Bool, true, false, List, ◌++◌, map, filter, length, nat_eq, Option, None, Some, IsSome, slice_get, refl, sym, ap, subst, arith, if◌then◌else◌}
use Rattle.std.specs.List.{list_any, range_with_len}
use Rattle.std.proofs.lemmas.Bool.{and_parts, cases_Bool, false≢true}
use Rattle.std.proofs.lemmas.List.{length-map}
use Rattle.std.proofs.lemmas.List.FromFn.{length-map-range_with_len}
use Rattle.wit_values.specs.facts.Lists.{slice_get-append}
use Rattle.wit_data.specs.Ownership.{IsPlain}
use Rattle.wit_data.specs.declared.types.Handle.TheVariants.{Own}
use Rattle.wit_data.specs.declared.types.TypeDef.{TypeDef}
use Rattle.wit_data.specs.declared.types.TypeDefKind.TheVariants as kind
use Rattle.wit_data.specs.declared.types.TypeOwner.TheVariants as owner
use Rattle.wit_elaboration.specs.facts.Filters.{Contains-filter}
use Rattle.wit_remap_spec.specs.Image.{type_image}
use Rattle.wit_graph_theory.specs.facts.ListFacts.{at_map, at_new, contained_at, from_map, old_or_new, some_at}
use Rattle.wit_graph_theory.specs.facts.ReferredFacts.{plain_image}
use Rattle.wit_graph_theory.specs.steps.Sources.{IsOwnOf}
use Rattle.wit_remap_spec.specs.Resources.{leads_to_resource, own_of}
use Rattle.wit_remap_spec.specs.Selected.{rank, selected_with_index}
use Rattle.wit_remap_spec.specs.ValueRemap.{ValueRemap, maps_with_owns, needs_own, positions, types_behind}
use Rattle.wit_link_spec.specs.facts.RangeFacts.{range-at, range_below}
use Rattle.wit_link_spec.specs.facts.RankFacts.{selected_with_index-at}
use Rattle.wit_link_spec.specs.facts.LeadFacts.{filtered_range, leads_nowhere}
use Rattle.wit_remap_spec.specs.steps.Parts.{types_without_owns, value_id, owns}

module _ (r : ValueRemap) where
  -- ---- where values go

  pub value_own : (t : ℕ) → needs_own r t ≡ true → value_id r t ≡ length r.graph_types + length r.new_types + rank (needs_own r) t
  value_own t needs = ap (λ (b : Bool). if b then length r.graph_types + length r.new_types + rank (needs_own r) t else r.ids.types t) needs

  pub value_plain : (t : ℕ) → needs_own r t ≡ false → value_id r t ≡ r.ids.types t
  value_plain t plain = ap (λ (b : Bool). if b then length r.graph_types + length r.new_types + rank (needs_own r) t else r.ids.types t) plain

  -- ---- what stands where

  abbrev images : List TypeDef
  images = map (type_image (maps_with_owns r)) r.new_types

  listed : (t : ℕ) → t < r.count → needs_own r t ≡ true → slice_get (filter (needs_own r) (range_with_len 0 r.count)) (rank (needs_own r) t) ≡ Some t
  listed t below needs =
      let xs : List ℕ = map (λ (i : ℕ). i) (range_with_len 0 r.count) in
      ap (λ (n : ℕ). slice_get (filter (needs_own r) (range_with_len 0 n)) (rank (needs_own r) t)) (sym (length-map-range_with_len (λ (i : ℕ). i) 0 r.count))
      ∙ (ap (λ (l : List ℕ). slice_get l (rank (needs_own r) t)) (filtered_range (needs_own r) xs 0)
      ∙ at_map (λ (e : ℕ × ℕ). e.0) (selected_with_index (needs_own r) xs) (rank (needs_own r) t) (t, t) (selected_with_index-at (needs_own r) xs t t (range-at (λ (i : ℕ). i) r.count t below) needs))

  module _ (front : List TypeDef) (long : length front ≡ length r.graph_types) where
    -- a new type stands as its image
    pub new_stands : (k t' : ℕ) (def : TypeDef) → slice_get r.new_types k ≡ Some def → t' ≡ length r.graph_types + k → slice_get (front ++ types_behind r) t' ≡ Some (type_image (maps_with_owns r) def)
    new_stands k t' def at place =
        at_new front (types_behind r) k t' (type_image (maps_with_owns r) def) (omega (arith, long, place))
        (slice_get-append images (owns r) k (type_image (maps_with_owns r) def) (at_map (type_image (maps_with_owns r)) r.new_types k def at))

    -- behind those the `own` of each that needs one
    pub own_stands : (t : ℕ) → t < r.count → needs_own r t ≡ true → slice_get (front ++ types_behind r) (value_id r t) ≡ Some (own_of (r.ids.types t))
    own_stands t below needs =
        let goes = value_own t needs in
        let many : length images ≡ length r.new_types = length-map r.new_types (type_image (maps_with_owns r)) in
        at_new front (types_behind r) (length r.new_types + rank (needs_own r) t) (value_id r t) (own_of (r.ids.types t)) (omega (arith, long, goes))
        (at_new images (owns r) (rank (needs_own r) t) (length r.new_types + rank (needs_own r) t) (own_of (r.ids.types t)) (omega (arith, many))
        (at_map (λ (t : ℕ). own_of (r.ids.types t)) (filter (needs_own r) (range_with_len 0 r.count)) (rank (needs_own r) t) t (listed t below needs)))

  -- and nothing else
  pub record IsNew (t' : ℕ) (def : TypeDef) : Type 0 where
    pub k : ℕ
    pub old : TypeDef
    pub there : slice_get r.new_types k ≡ Some old
    pub place : t' ≡ length r.graph_types + k
    pub is : type_image (maps_with_owns r) old ≡ def

  pub record IsOwn (def : TypeDef) : Type 0 where
    pub t : ℕ
    pub there : t < r.count
    pub needs : needs_own r t ≡ true
    pub is : own_of (r.ids.types t) ≡ def

  pub behind_from : (front : List TypeDef) → length front ≡ length r.graph_types → (t' : ℕ) (def : TypeDef) → slice_get (front ++ types_behind r) t' ≡ Some def → (slice_get front t' ≡ Some def) ⊎ (IsNew t' def ⊎ IsOwn def)
  behind_from front long t' def at = elim (old_or_new front (types_behind r) t' def at) [
    | inl before ↦ inl before
    | inr behind ↦ inr (elim (old_or_new images (owns r) behind.0 def behind.2) [
      | inl image ↦
          let from = from_map (type_image (maps_with_owns r)) r.new_types behind.0 def image in
          let n = behind.1 in
          inl (record { k = behind.0; old = from.0; there = from.1; place = omega (arith, n, long); is = from.2 })
      | inr own ↦
          let all = range_with_len 0 r.count in
          let from = from_map (λ (t : ℕ). own_of (r.ids.types t)) (filter (needs_own r) all) own.0 def own.2 in
          let among = Contains-filter (needs_own r) all from.0 (contained_at (filter (needs_own r) all) own.0 from.0 from.1) in
          inr (record { t = from.0; there = range_below r.count from.0 among.0; needs = among.1; is = from.2 })
    ])
  ]

  -- ---- which lead to resources

  -- a type that leads to a resource has a name, where it is plain if it has none
  pub leads_named : (t : ℕ) (def : TypeDef) → (def.name ≡ None → IsPlain def.kind × (slice_get (types_without_owns r) (r.ids.types t) ≡ Some (type_image r.ids def)))
      → leads_to_resource (types_without_owns r) (r.ids.types t) ≡ true → IsSome def.name
  leads_named t def unnamed leads = by def.name refl
    where
      by : (o : Option (List ℕ)) → def.name ≡ o → IsSome def.name
      by (Some n) called = subst (λ (o : Option (List ℕ)). IsSome o) (sym called) refl
      by None called =
          let plain = unnamed called in
          absurd (false≢true (sym (leads_nowhere (types_without_owns r) (r.ids.types t) (type_image r.ids def) plain.1 (plain_image r.ids def.kind plain.0)) ∙ leads))

  -- a value goes where its type does, or is an `own` of it, which has a name
  pub value_stands : (types : List TypeDef) (t : ℕ) (def : TypeDef) → (needs_own r t ≡ true → slice_get types (value_id r t) ≡ Some (own_of (r.ids.types t)))
      → (leads_to_resource (types_without_owns r) (r.ids.types t) ≡ true → IsSome def.name) → (value_id r t ≡ r.ids.types t) ⊎ (IsSome def.name × IsOwnOf types (value_id r t) (r.ids.types t))
  value_stands types t def stands named = elim (cases_Bool (needs_own r t)) [
    | inl needs ↦
        inr (
          named (and_parts (list_any (nat_eq t) (positions r)) (leads_to_resource (types_without_owns r) (r.ids.types t)) needs).1,
          some_at (λ (there : TypeDef). (there.name ≡ None) × (there.owner ≡ owner.None) × (there.kind ≡ kind.Handle (Own (r.ids.types t)))) types (value_id r t) (own_of (r.ids.types t)) (stands needs) (refl, refl, refl),
        )
    | inr plain ↦ inl (value_plain t plain)
  ]
