-- A type that leads to a resource still does where it is in two graphs that are one. What was there keeps its kind; what
-- moves is an alias of what it named, at its place; what is matched is with an alias of what that is matched with.
use Rattle.std.proofs.Common.{◌≡◌, ◌∙◌, inl, inr, ℕ, ◌<◌, ◌||◌, zero, suc, Bool, true, false, List, [], ◌∷◌, ◌++◌, map, length, option_to_list, Option, None, Some, option_map, slice_get, refl, sym, ap, subst, arith, Contains}
use Rattle.std.specs.List.{flat_map, list_any}
use Rattle.std.specs.Option.{option_map_or}
use Rattle.std.proofs.lemmas.Bool.{cases_Bool, false≢true}
use Rattle.std.proofs.lemmas.List.{length-map}
use Rattle.std.proofs.lemmas.Option.{slice_get_within}
use Rattle.wit_digraph.specs.facts.MemberFacts.{Contains-cons_cases, Contains-here, Contains-nil, Contains-there}
use Rattle.wit_digraph.specs.Relation.{IsAcyclic, IsPath, Reaches, direct}
use Rattle.wit_digraph.specs.facts.PostOrderFacts.{Reaches-from_post_order, post_order-from_IsPath}
use Rattle.wit_digraph.specs.PostOrder.{post_order, post_order_within}
use Rattle.wit_data.specs.Kind.{type_references, variant_of}
use Rattle.wit_data.specs.Uses.{alias_target, alias_rows}
use Rattle.wit_data.specs.declared.types.TypeDef.{TypeDef}
use Rattle.wit_data.specs.declared.types.TypeDefKind.{TypeDefKind}
use Rattle.wit_data.specs.declared.types.TypeDefKind.TheVariants as kind
use Rattle.wit_elaboration.specs.Valid.{IsValid}
use Rattle.wit_graph_theory.specs.facts.AliasFacts.{alias_acyclic}
use Rattle.wit_remap_spec.specs.Image.{type_image}
use Rattle.wit_graph_theory.specs.facts.ListFacts.{from_row, in_row}
use Rattle.wit_graph_theory.specs.facts.ReferredFacts.{alias_image}
use Rattle.wit_remap_spec.specs.Resources.{is_resource, is_resource_kind, leads_to_resource}
use Rattle.wit_merge_spec.specs.Merged.{joined_graph, merge_maps, merged_type}
use Rattle.wit_merge_spec.specs.Matches.{GraphMerge, counterpart_type}
use Rattle.wit_merge_spec.specs.Cause.{HasNoMismatch}
use Rattle.wit_merge_laws.specs.facts.MatchFacts.{goes_to, type_is}
use Rattle.wit_merge_laws.specs.facts.MatchedTypes.{alias_matched, variant_matched}
use Rattle.wit_merge_laws.specs.facts.NoCycles.{joined_types_acyclic}
use Rattle.wit_merge_laws.specs.laws.OrderLaws.{ResourcesStay}
use Rattle.wit_merge_laws.specs.facts.StructureHeads.{resource_variant}
use Rattle.wit_merge_laws.specs.facts.TypesStand.{joined_keeps, matched_some, new_type_at, old_type_at}
use Rattle.wit_remap_spec.specs.steps.Parts.{kind_image}
use Rattle.wit_merge_spec.specs.steps.Parts.{joined_type, moves_type}

-- ---- some pass a test

any_from : (p : ℕ → Bool) (xs : List ℕ) → list_any p xs ≡ true → (x : ℕ) × Contains xs x × (p x ≡ true)
any_from p [] some = absurd (false≢true some)
any_from p (x ∷ xs) some = by (p x) refl (any_from p xs) some
  where
    by : (b : Bool) → p x ≡ b → (list_any p xs ≡ true → (y : ℕ) × Contains xs y × (p y ≡ true)) → b || list_any p xs ≡ true → (y : ℕ) × Contains (x ∷ xs) y × (p y ≡ true)
    by true is rest some = (x, Contains-here x xs, is)
    by false is rest some = let later = rest some in (later.0, Contains-there x later.0 xs later.1, later.2)

any_into : (p : ℕ → Bool) (xs : List ℕ) (x : ℕ) → Contains xs x → p x ≡ true → list_any p xs ≡ true
any_into p [] x has is = absurd (Contains-nil has)
any_into p (y ∷ xs) x has is = by (p y) refl (λ there. any_into p xs x there is)
  where
    by : (b : Bool) → p y ≡ b → (Contains xs x → list_any p xs ≡ true) → b || list_any p xs ≡ true
    by true passes rest = refl
    by false fails rest =
        elim (Contains-cons_cases y x xs has) [
          | inl same ↦ absurd (false≢true (sym fails ∙ (ap p same ∙ is)))
          | inr there ↦ rest there
        ]

-- ---- what leads to a resource reaches one by aliases

-- what a type is an alias of
abbrev target_row : TypeDef → List ℕ
target_row def = option_to_list (alias_target def.kind)

target_from : (o : Option ℕ) (u : ℕ) → Contains (option_to_list o) u → o ≡ Some u
target_from None u has = absurd (Contains-nil has)
target_from (Some x) u has =
    elim (Contains-cons_cases x u [] has) [
      | inl same ↦ ap (λ (y : ℕ). Some y) same
      | inr none ↦ absurd (Contains-nil none)
    ]

target_into : (o : Option ℕ) (u : ℕ) → o ≡ Some u → Contains (option_to_list o) u
target_into o u is = subst (λ (p : Option ℕ). Contains (option_to_list p) u) (sym is) (Contains-here u [])

-- a resource is there, and is of that kind
resource_from : (types : List TypeDef) (t : ℕ) → is_resource types t ≡ true → (def : TypeDef) × (slice_get types t ≡ Some def) × (is_resource_kind def.kind ≡ true)
resource_from types t = by (slice_get types t) refl
  where
    by : (o : Option TypeDef) → slice_get types t ≡ o → option_map_or (λ (def : TypeDef). is_resource_kind def.kind) o false ≡ true → (def : TypeDef) × (slice_get types t ≡ Some def) × (is_resource_kind def.kind ≡ true)
    by None at is = absurd (false≢true is)
    by (Some def) at is = (def, at, is)

resource_into : (types : List TypeDef) (t : ℕ) (def : TypeDef) → slice_get types t ≡ Some def → is_resource_kind def.kind ≡ true → is_resource types t ≡ true
resource_into types t def at is = ap (λ (o : Option TypeDef). option_map_or (λ (d : TypeDef). is_resource_kind d.kind) o false) at ∙ is

resource_kind : (k : TypeDefKind) → is_resource_kind k ≡ true → k ≡ kind.Resource
resource_kind kind.Resource is = refl
resource_kind other is = absurd (false≢true is)

-- what isn't there leads to none
no_row : (types : List TypeDef) (t : ℕ) → slice_get types t ≡ None → direct (alias_rows types) t ≡ []
no_row [] t none = refl
no_row (x ∷ types) zero none = cc
no_row (x ∷ types) (suc t) none = no_row types t none

leads_no : (types : List TypeDef) (t : ℕ) → slice_get types t ≡ None → leads_to_resource types t ≡ false
unfolding post_order post_order_within
leads_no types t none = within (length (alias_rows types))
  where
    within : (members : ℕ) → list_any (is_resource types) (post_order_within (alias_rows types) members t) ≡ false
    within zero = refl
    within (suc members) =
        ap (λ (d : List ℕ). list_any (is_resource types) (flat_map (post_order_within (alias_rows types) members) d ++ t ∷ [])) (no_row types t none)
        ∙ ap (λ (o : Option TypeDef). option_map_or (λ (def : TypeDef). is_resource_kind def.kind) o false || false) none

module _ (types : List TypeDef) (acyclic : IsAcyclic (type_references types)) where
  abbrev rows : List (List ℕ)
  rows = alias_rows types

  -- there are as many rows as types
  there : (t : ℕ) (def : TypeDef) → slice_get types t ≡ Some def → t < length rows
  there t def at = let within = slice_get_within types t def at in let long = length-map types target_row in omega (arith, within, long)

  pub leads_from : (t : ℕ) → leads_to_resource types t ≡ true → (r : ℕ) × Reaches rows t r × (is_resource types r ≡ true)
  leads_from t leads = by (slice_get types t) refl
    where
      by : (o : Option TypeDef) → slice_get types t ≡ o → (r : ℕ) × Reaches rows t r × (is_resource types r ≡ true)
      by None none = absurd (false≢true (sym (leads_no types t none) ∙ leads))
      by (Some def) at = let some = any_from (is_resource types) (post_order rows t) leads in (some.0, Reaches-from_post_order rows (alias_acyclic types acyclic) t (there t def at) some.0 some.1, some.2)

  pub leads_into : (t r : ℕ) (path : List ℕ) → IsPath rows t path r → is_resource types r ≡ true → leads_to_resource types t ≡ true
  leads_into t r path leads is = any_into (is_resource types) (post_order rows t) r (post_order-from_IsPath rows (alias_acyclic types acyclic) t path r (begins path leads) leads) is
    where
      begins : (path : List ℕ) → IsPath rows t path r → t < length rows
      begins [] same = let def = resource_from types r is in subst (λ (x : ℕ). x < length rows) (sym same) (there r def.0 def.1)
      begins (k ∷ path) leads = let def = from_row target_row types t k leads.0 in there t def.0 def.1

-- ---- in two graphs that are one

module _ (m : GraphMerge) (valid : IsValid m.graph) (valid_other : IsValid m.other) (one : HasNoMismatch m) where
  abbrev joined : List TypeDef
  joined = (joined_graph m).types

  -- a type of the graph is of its kind
  old_step : (t u : ℕ) → Contains (direct (alias_rows m.graph.types) t) u → Contains (direct (alias_rows joined) t) u
  old_step t u has =
      let from = from_row target_row m.graph.types t u has in
      let keeps = joined_keeps m (t, from.0) in
      in_row target_row joined t (joined_type m (t, from.0)) u (old_type_at m t from.0 from.1) (subst (λ (k : TypeDefKind). Contains (option_to_list (alias_target k)) u) (sym keeps.kind) from.2)

  old_path : (t : ℕ) (path : List ℕ) (r : ℕ) → IsPath (alias_rows m.graph.types) t path r → IsPath (alias_rows joined) t path r
  old_path t [] r same = same
  old_path t (k ∷ path) r leads = (old_step t k leads.0, old_path k path r leads.1)

  old_resource : (t : ℕ) → is_resource m.graph.types t ≡ true → is_resource joined t ≡ true
  old_resource t is =
      let from = resource_from m.graph.types t is in
      let keeps = joined_keeps m (t, from.0) in
      resource_into joined t (joined_type m (t, from.0)) (old_type_at m t from.0 from.1) (ap is_resource_kind keeps.kind ∙ from.2)

  -- what an alias of the other graph names is named at its place
  alias_goes : (t u : ℕ) (def : TypeDef) → slice_get m.other.types t ≡ Some def → alias_target def.kind ≡ Some u → (new : TypeDef) × (slice_get joined (merged_type m t) ≡ Some new) × (alias_target new.kind ≡ Some (merged_type m u))
  alias_goes t u def at target =
      elim (cases_Bool (moves_type m t)) [
        | inl moves ↦ (type_image (merge_maps m) def, new_type_at m t def at moves, alias_image (merge_maps m) def.kind ∙ ap (option_map (merged_type m)) target)
        | inr stays ↦
            let found = matched_some (counterpart_type m t) stays in
            let is = type_is m valid t found.0 found.1 in
            let next = alias_matched m valid valid_other one t found.0 def is.into at is.into_is found.1 u target in
            let keeps = joined_keeps m (found.0, is.into) in (
              joined_type m (found.0, is.into),
              ap (slice_get joined) (goes_to (counterpart_type m t) _ found.0 found.1) ∙ old_type_at m found.0 is.into is.into_is,
              ap alias_target keeps.kind ∙ (next.1 ∙ ap (λ (x : ℕ). Some x) (sym (goes_to (counterpart_type m u) _ next.0 next.2))),
            )
      ]

  new_step : (t u : ℕ) → Contains (direct (alias_rows m.other.types) t) u → Contains (direct (alias_rows joined) (merged_type m t)) (merged_type m u)
  new_step t u has =
      let from = from_row target_row m.other.types t u has in
      let goes = alias_goes t u from.0 from.1 (target_from (alias_target from.0.kind) u from.2) in
      in_row target_row joined (merged_type m t) goes.0 (merged_type m u) goes.1 (target_into (alias_target goes.0.kind) (merged_type m u) goes.2)

  new_path : (t : ℕ) (path : List ℕ) (r : ℕ) → IsPath (alias_rows m.other.types) t path r → IsPath (alias_rows joined) (merged_type m t) (map (merged_type m) path) (merged_type m r)
  new_path t [] r same = ap (merged_type m) same
  new_path t (k ∷ path) r leads = (new_step t k leads.0, new_path k path r leads.1)

  -- and a resource is one there
  new_resource : (t : ℕ) → is_resource m.other.types t ≡ true → is_resource joined (merged_type m t) ≡ true
  new_resource t is =
      let from = resource_from m.other.types t is in
      let of_kind = resource_kind from.0.kind from.2 in
      elim (cases_Bool (moves_type m t)) [
        | inl moves ↦ resource_into joined (merged_type m t) (type_image (merge_maps m) from.0) (new_type_at m t from.0 from.1 moves) (ap (λ (k : TypeDefKind). is_resource_kind (kind_image (merge_maps m) k)) of_kind)
        | inr stays ↦
            let found = matched_some (counterpart_type m t) stays in
            let there = type_is m valid t found.0 found.1 in
            let same = variant_matched m valid valid_other one t found.0 from.0 there.into from.1 there.into_is found.1 in
            let keeps = joined_keeps m (found.0, there.into) in
            let resource : there.into.kind ≡ kind.Resource = resource_variant there.into.kind (sym same ∙ ap variant_of of_kind) in
            resource_into joined (merged_type m t) (joined_type m (found.0, there.into)) (ap (slice_get joined) (goes_to (counterpart_type m t) _ found.0 found.1) ∙ old_type_at m found.0 there.into there.into_is)
            (ap is_resource_kind (keeps.kind ∙ resource))
      ]

-- what leads to a resource in either graph does in the two as one
pub leads_stay : ResourcesStay
leads_stay m t valid valid_other one =
    let acyclic = joined_types_acyclic m valid valid_other one in (
      λ leads.
          let from = leads_from m.graph.types valid.no_cycles.types t leads in
          leads_into (joined_graph m).types acyclic t from.0 from.1.0 (old_path m valid valid_other one t from.1.0 from.0 from.1.1) (old_resource m valid valid_other one from.0 from.2),
      λ leads.
          let from = leads_from m.other.types valid_other.no_cycles.types t leads in
          leads_into (joined_graph m).types acyclic (merged_type m t) (merged_type m from.0) (map (merged_type m) from.1.0) (new_path m valid valid_other one t from.1.0 from.0 from.1.1) (new_resource m valid valid_other one from.0 from.2),
    )
