-- What the entries of a world mention, through whatever types: types that go with the world, types of interfaces with
-- names, and types without names that refer to nothing else.
use Rattle.std.proofs.Common.{◌≡◌, ◌∙◌, ◌⊎◌, ◌&&◌, inl, inr, ℕ, ◌<◌, Bool, true, false, List, [], ◌∷◌, ◌++◌, map, Option, None, Some, slice_get, refl, sym, ap, subst, arith, Contains, IsSome, length, is_some, nat_eq, if◌then◌else◌}
use Rattle.std.specs.List.{flat_map, list_any}
use Rattle.std.specs.Option.{option_map_or}
use Rattle.std.proofs.lemmas.List.{length-map}
use Rattle.std.proofs.lemmas.Bool.{cases_Bool, eq-eqb, false≢true}
use Rattle.std.proofs.lemmas.List.Elements.{Contains-append_cases}
use Rattle.wit_digraph.specs.facts.MemberFacts.{Contains-cons_cases, Contains-flat_map, Contains-flat_map_cases, Contains-nil}
use Rattle.wit_digraph.specs.Relation.{Reaches}
use Rattle.wit_digraph.specs.facts.PostOrderFacts.{Contains-post_order_end, Reaches-from_post_order, post_order-from_IsPath}
use Rattle.wit_digraph.specs.PostOrder.{post_order}
use Rattle.wit_data.specs.Entries.{Entry, IsImport, ItemUsesOwn, interfaces_in_worlds, is_unnamed}
use Rattle.wit_data.specs.Ownership.{IsListed, IsNamedInterface, IsOwn}
use Rattle.wit_data.specs.Kind.{function_references, referred, type_references}
use Rattle.wit_data.specs.declared.function.Function.{Function}
use Rattle.wit_data.specs.declared.interface.Interface.{Interface}
use Rattle.wit_data.specs.declared.types.TypeDef.{TypeDef}
use Rattle.wit_data.specs.declared.types.TypeOwner.{TypeOwner}
use Rattle.wit_data.specs.declared.world.World.{World}
use Rattle.wit_data.specs.declared.world.WorldItem.{WorldItem}
use Rattle.wit_data.specs.declared.world.WorldKey.{WorldKey}
use Rattle.wit_data.specs.declared.types.TypeOwner.TheVariants as owner
use Rattle.wit_data.specs.declared.world.WorldItem.TheVariants as item
use Rattle.wit_data.specs.declared.world.WorldKey.TheVariants as key
use Rattle.wit_graph_data.specs.declared.graph.Graph.{Graph}
use Rattle.wit_graph_theory.specs.facts.ListFacts.{Contains-map_cases, found_at, in_row, place_of}
use Rattle.wit_graph_theory.specs.facts.GoodWorlds.{import_from_export}
use Rattle.wit_graph_theory.specs.facts.UnnamedOnceCarried.{named_not}
use Rattle.wit_graph_theory.specs.facts.RowFacts.{Reaches-join, Reaches-use}
use Rattle.wit_link_spec.specs.Include.{belongs_to, entry_mentions, is_owned_within, named_types, owner_belongs_to}
use Rattle.wit_link_spec.specs.facts.Among.{IsAmong, among_reached, own_named, owner_of_own}
use Rattle.wit_link_spec.specs.facts.PartiallyLinked.{IsSoundSoFar}
use Rattle.wit_link_spec.specs.steps.Parts.{interface_mentions}

-- ---- what goes with a world

module _ (g : Graph) (stands : IsSoundSoFar g) (from : ℕ) (old : World) where
  -- an owner that goes with it isn't an interface with a name
  pub named_stays : (by : TypeOwner) → owner_belongs_to g from old by ≡ true → IsNamedInterface g.interfaces by → ⊥
  named_stays (owner.Interface f) goes named = named_not g.interfaces f named (first (is_unnamed g.interfaces f) (list_any (nat_eq f) (interfaces_in_worlds (old ∷ []))) goes)
    where
      first : (b c : Bool) → b && c ≡ true → b ≡ true
      first true c h = refl
      first false c h = cc
  named_stays (owner.World w) goes named = named
  named_stays owner.None goes named = named

  -- a type that goes with it, and that has an owner, has a name
  pub owned_has : (t : ℕ) → is_owned_within g from old t ≡ true → (def : TypeDef) × (slice_get g.types t ≡ Some def) × (owner_belongs_to g from old def.owner ≡ true) × IsSome def.name
  owned_has t owned = by (slice_get g.types t) refl owned
    where
      has_name : (name : Option (List ℕ)) (o : TypeOwner) → IsListed g.interfaces g.worlds t name o → owner_belongs_to g from old o ≡ true → IsSome name
      has_name (Some name) o listed goes = refl
      has_name None (owner.Interface f) listed goes = absurd listed
      has_name None (owner.World w) listed goes = absurd listed
      has_name None owner.None listed goes = cc

      by : (o : Option TypeDef) → slice_get g.types t ≡ o → option_map_or (λ (def : TypeDef). owner_belongs_to g from old def.owner) o false ≡ true
          → (def : TypeDef) × (slice_get g.types t ≡ Some def) × (owner_belongs_to g from old def.owner ≡ true) × IsSome def.name
      by None at h = cc
      by (Some def) at h = (def, at, h, has_name def.name def.owner (stands.items.types t def at).listed h)

  pub owned_is : (t : ℕ) (def : TypeDef) → slice_get g.types t ≡ Some def → is_owned_within g from old t ≡ owner_belongs_to g from old def.owner
  owned_is t def at = ap (λ (o : Option TypeDef). option_map_or (λ (d : TypeDef). owner_belongs_to g from old d.owner) o false) at

  -- a type with a name that doesn't go with the world refers to none that does
  pub apart : (t r : ℕ) (def : TypeDef) → slice_get g.types t ≡ Some def → IsSome def.name → is_owned_within g from old t ≡ false → Reaches (type_references g.types) t r
      → is_owned_within g from old r ≡ false
  apart t r def at named stays reaches = elim (cases_Bool (is_owned_within g from old r)) [
    | inl goes ↦
        let is = owned_has r goes in
        let among = among_reached g stands (λ (by : TypeOwner). (by ≡ def.owner) ⊎ IsNamedInterface g.interfaces by) (λ by other. inr other) t r reaches (record { by = def.owner; is = inl refl; own = own_named g stands t def at named }) in
        let by = owner_of_own g stands r is.0 among.by is.1 is.3 among.own in
        let goes_too : owner_belongs_to g from old among.by ≡ true = subst (λ (o : TypeOwner). owner_belongs_to g from old o ≡ true) by is.2 in
        elim among.is [
          | inl same ↦ absurd (false≢true (sym stays ∙ owned_is t def at ∙ ap (owner_belongs_to g from old) (sym same) ∙ goes_too))
          | inr other ↦ absurd (named_stays among.by goes_too other)
        ]
    | inr left ↦ left
  ]

  -- ---- what its entries name

  -- types of owners that go with it, or of interfaces with names
  abbrev pub BelongsOrNamed : TypeOwner → Type 0
  BelongsOrNamed by = (owner_belongs_to g from old by ≡ true) ⊎ IsNamedInterface g.interfaces by

  abbrev pub IsWith : ℕ → Type 0
  IsWith t = IsAmong g stands BelongsOrNamed t

  module _ (there : slice_get g.worlds from ≡ Some old) where
    world_remapped : owner_belongs_to g from old (owner.World from) ≡ true
    world_remapped = eq-eqb from from refl

    interface_names : (i : ℕ) → belongs_to g old i ≡ true → (t : ℕ) → Contains (option_map_or interface_mentions (slice_get g.interfaces i) []) t → IsWith t
    interface_names i goes t has = by (slice_get g.interfaces i) refl has
      where
        in_types : (interface : Interface) → slice_get g.interfaces i ≡ Some interface → Contains (map (λ (e : List ℕ × ℕ). e.1) interface.types) t → IsWith t
        in_types interface at has =
            let old_one = Contains-map_cases (λ (e : List ℕ × ℕ). e.1) interface.types t has in
            let place = place_of interface.types old_one.0 old_one.1 in
            let is = (stands.items.interfaces i interface at).own_types place.0 old_one.0 place.1 in
            let found = found_at (λ (def : TypeDef). (def.name ≡ Some old_one.0.0) × (def.owner ≡ owner.Interface i)) g.types old_one.0.1 is in
            subst IsWith old_one.2
            (record {
              by = owner.Interface i;
              is = inl goes;
              own = subst (λ (o : TypeOwner). IsOwn g.types o old_one.0.1) found.2.1 (own_named g stands old_one.0.1 found.0 found.1 (ap is_some found.2.0));
            })

        in_functions : (interface : Interface) → slice_get g.interfaces i ≡ Some interface → Contains (flat_map (λ (e : List ℕ × Function). function_references e.1) interface.functions) t → IsWith t
        in_functions interface at has =
            let part = Contains-flat_map_cases (λ (e : List ℕ × Function). function_references e.1) interface.functions t has in
            let place = place_of interface.functions part.0 part.1.0 in
            let spot = place_of (function_references part.0.1) t part.1.1 in
            record { by = owner.Interface i; is = inl goes; own = (stands.items.interfaces i interface at).own_functions place.0 part.0 place.1 spot.0 t spot.1 }

        by : (o : Option Interface) → slice_get g.interfaces i ≡ o → Contains (option_map_or interface_mentions o []) t → IsWith t
        by None at has = absurd (Contains-nil has)
        by (Some interface) at has =
            elim (Contains-append_cases (map (λ (e : List ℕ × ℕ). e.1) interface.types) (flat_map (λ (e : List ℕ × Function). function_references e.1) interface.functions) t has) [
              | inl listed ↦ in_types interface at listed
              | inr used ↦ in_functions interface at used
            ]

    entry_names : (e : Entry) → IsImport g.interfaces g.types from e.0 e.1 → ItemUsesOwn g.types from e.1 → (t : ℕ) → Contains (entry_mentions g old e) t → IsWith t
    entry_names e is own t has = by e.0 e.1 is own has
      where
        of_interface : (i : ℕ) (b : Bool) → belongs_to g old i ≡ b → Contains (if b then option_map_or interface_mentions (slice_get g.interfaces i) [] else []) t → IsWith t
        of_interface i true goes has = interface_names i goes t has
        of_interface i false goes has = absurd (Contains-nil has)

        by : (k : WorldKey) (held : WorldItem) → IsImport g.interfaces g.types from k held → ItemUsesOwn g.types from held → Contains (entry_mentions g old (k, held)) t → IsWith t
        by k (item.Interface i stability docs span external_id) is own has = of_interface i (belongs_to g old i) refl has
        by k (item.Function f) is own has =
            let place = place_of (function_references f) t has in
            record { by = owner.World from; is = inl world_remapped; own = own place.0 t place.1 }
        by (key.Interface f) (item.Type_ u span) is own has = absurd is
        by (key.Name name) (item.Type_ u span) is own has =
            let found = found_at (λ (def : TypeDef). (def.name ≡ Some name) × (def.owner ≡ owner.World from)) g.types u is in
            let here : IsWith u =
            record {
              by = owner.World from;
              is = inl world_remapped;
              own = subst (λ (o : TypeOwner). IsOwn g.types o u) found.2.1 (own_named g stands u found.0 found.1 (ap is_some found.2.0));
            } in
            elim (Contains-cons_cases u t [] has) [ inl same ↦ subst IsWith same here | inr none ↦ absurd (Contains-nil none) ]

    -- an entry of the world is an import or an export of it
    pub entry_is : (e : Entry) → Contains (old.imports ++ old.exports) e → IsImport g.interfaces g.types from e.0 e.1 × ItemUsesOwn g.types from e.1
    entry_is e has =
        let good = stands.items.worlds from old there in
        elim (Contains-append_cases old.imports old.exports e has) [
          | inl among ↦ let place = place_of old.imports e among in let is = good.imports place.0 e place.1 in (is.is, is.own)
          | inr among ↦ let place = place_of old.exports e among in let is = good.exports place.0 e place.1 in (import_from_export g.interfaces g.types from e.0 e.1 is.is, is.own)
        ]

    pub in_rows : (t : ℕ) → t < length g.types → t < length (type_references g.types)
    in_rows t within = omega (arith, within, length-map g.types (λ (d : TypeDef). referred d.kind))

    -- what they name, and all that it refers to
    pub mentioned_with : (t : ℕ) → Contains (named_types g old) t → IsWith t
    mentioned_with t has =
        let part = Contains-flat_map_cases (post_order (type_references g.types)) (flat_map (entry_mentions g old) (old.imports ++ old.exports)) t has in
        let entry = Contains-flat_map_cases (entry_mentions g old) (old.imports ++ old.exports) part.0 part.1.0 in
        let is = entry_is entry.0 entry.1.0 in
        let begins = entry_names entry.0 is.0 is.1 part.0 entry.1.1 in
        among_reached g stands BelongsOrNamed (λ by named. inr named) part.0 t (Reaches-from_post_order (type_references g.types) stands.references part.0 (in_rows part.0 begins.own.there) t part.1.1) begins

    -- what an entry names is mentioned
    pub entry_mentioned : (e : Entry) (t : ℕ) → Contains (old.imports ++ old.exports) e → Contains (entry_mentions g old e) t → Contains (named_types g old) t
    entry_mentioned e t has names =
        let is = entry_is e has in
        let begins = entry_names e is.0 is.1 t names in
        Contains-flat_map (post_order (type_references g.types)) (flat_map (entry_mentions g old) (old.imports ++ old.exports)) t t
        (Contains-flat_map (entry_mentions g old) (old.imports ++ old.exports) e t has names) (Contains-post_order_end (type_references g.types) stands.references t (in_rows t begins.own.there))

    -- and what is mentioned refers to what is
    pub mentioned_refers : (t u : ℕ) (def : TypeDef) → slice_get g.types t ≡ Some def → Contains (named_types g old) t → Contains (referred def.kind) u → Contains (named_types g old) u
    mentioned_refers t u def at has refers =
        let rows = type_references g.types in
        let part = Contains-flat_map_cases (post_order rows) (flat_map (entry_mentions g old) (old.imports ++ old.exports)) t has in
        let entry = Contains-flat_map_cases (entry_mentions g old) (old.imports ++ old.exports) part.0 part.1.0 in
        let is = entry_is entry.0 entry.1.0 in
        let within = in_rows part.0 (entry_names entry.0 is.0 is.1 part.0 entry.1.1).own.there in
        let reached = Reaches-from_post_order rows stands.references part.0 within t part.1.1 in
        let further = Reaches-join rows part.0 t u reached (Reaches-use rows t u (in_row (λ (d : TypeDef). referred d.kind) g.types t def u at refers)) in
        Contains-flat_map (post_order rows) (flat_map (entry_mentions g old) (old.imports ++ old.exports)) part.0 u part.1.0 (post_order-from_IsPath rows stands.references part.0 further.0 u within further.1)
