-- The types of a package that is added can come into the graph, and with its functions they are of the addition's remap.
use Rattle.std.proofs.Common.{◌≡◌, ◌∙◌, ◌⊎◌, ◌<◌, ◌+◌, inl, inr, ℕ, Bool, true, List, [], ◌++◌, length, Option, None, Some, slice_get, unwrap_or, refl, sym, ap, subst, Contains}
use Rattle.std.specs.List.{flat_map}
use Rattle.std.proofs.lemmas.Bool.{cases_Bool, false≢true}
use Rattle.std.proofs.lemmas.List.FromFn.{length-map-range_with_len}
use Rattle.std.proofs.lemmas.Option.{slice_get_within}
use Rattle.wit_digraph.specs.Relation.{IsAcyclic}
use Rattle.wit_digraph.specs.facts.EarlierFacts.{IsAcyclic-earlier}
use Rattle.wit_data.specs.Kind.{referred, type_references, signature_types}
use Rattle.wit_data.specs.Shape.{IsShaped}
use Rattle.wit_data.specs.Uses.{alias_target}
use Rattle.wit_data.specs.declared.function.Function.{Function}
use Rattle.wit_data.specs.declared.types.TypeDef.{TypeDef}
use Rattle.wit_elaboration.specs.Valid.{IsValid}
use Rattle.wit_graph_theory.specs.facts.ListFacts.{from_map}
use Rattle.wit_link_spec.specs.Addition.{Addition, own_functions, own_type, remap_of_addition}
use Rattle.wit_link_spec.specs.facts.ClosedCut.{there_where}
use Rattle.wit_link_spec.specs.facts.NewFacts.{foreign_type_id-below, new_types}
use Rattle.wit_link_spec.specs.facts.PositionFacts.{position_active}
use Rattle.wit_link_spec.specs.facts.RangeFacts.{range-at, range-read}
use Rattle.wit_link_spec.specs.facts.Standing.{own_type_remapped}
use Rattle.wit_link_spec.specs.Gates.{is_active, type_is_active}
use Rattle.wit_link_spec.specs.Lookup.{is_foreign_type}
use Rattle.wit_link_spec.specs.Reasons.{IsResolved}
use Rattle.wit_remap_spec.specs.Selected.{rank, selected}
use Rattle.wit_link_spec.specs.steps.AdditionRefs.{new_ids_of}
use Rattle.wit_link_spec.specs.steps.NewThings.{is_new}
use Rattle.wit_link_resources.specs.steps.Active.{active_functions}
use Rattle.wit_link_resources.specs.steps.IncomingTypes.{CanCome, IsRemapOf, IsRemapped}
use Rattle.wit_link_resources.specs.facts.IncomingLeads.{positions_same}
use Rattle.wit_link_resources.proofs.OwnFunctions.{active_own}
use Rattle.wit_link_resources.proofs.Where.{both, foreign_back, goes_there, nowhere, own_active, taken_is_active, target_active}
use Rattle.wit_remap_spec.specs.steps.Parts.{value_positions}
use Rattle.wit_link_spec.specs.steps.Parts.{active_type_id}

module _ (a : Addition) (valid : IsValid a.graph) (shaped : IsShaped a.unresolved) (image : IsResolved a) where
  abbrev types : List TypeDef
  types = a.unresolved.types

  abbrev all_ids : List (Option ℕ)
  all_ids = (new_ids_of a).types

  abbrev first : ℕ
  first = length a.graph.types

  -- a type refers to earlier ones
  types_acyclic : IsAcyclic (type_references types)
  types_acyclic =
      IsAcyclic-earlier (type_references types) (λ i row at k j there.
      let from = from_map (λ (def : TypeDef). referred def.kind) types i row at in
      shaped.references.earlier i from.0 from.1 k j (ap (λ (ids : List ℕ). slice_get ids k) from.2 ∙ there))

  -- what is active is remapped
  remapped : (t : ℕ) → type_is_active a.features types t ≡ true → IsRemapped all_ids t
  remapped t active = by (active_type_id a t) refl
    where
      below : t < length types
      below = let at = there_where (λ (def : TypeDef). is_active a.features def.stability) (slice_get types t) active in slice_get_within types t at.0 at.1

      by : (o : Option ℕ) → active_type_id a t ≡ o → IsRemapped all_ids t
      by None none = absurd (false≢true (sym (nowhere a valid shaped image t none) ∙ active))
      by (Some t') goes = (t', range-at (active_type_id a) (length types) t below ∙ ap (λ (o : Option ℕ). Some o) goes)

  next : (t t' : ℕ) → slice_get all_ids t ≡ Some (Some t') → (t' < first) ⊎ (t' ≡ first + rank (is_new first all_ids) t)
  next t t' at =
      let goes : active_type_id a t ≡ Some t' = sym (range-read (active_type_id a) (length types) t all_ids (Some t') refl at) in
      elim (cases_Bool (is_foreign_type a.unresolved t)) [
        | inl foreign ↦ inl (foreign_type_id-below a valid t t' (foreign_back a shaped t t' foreign goes).1)
        | inr its ↦
            let own : own_type a t ≡ true = both (is_foreign_type a.unresolved t) (type_is_active a.features types t) its (taken_is_active a shaped t t' goes) in
            inr (sym (goes_there a t t' goes) ∙ (own_type_remapped a t own ∙ ap (λ (kept : ℕ → Bool). first + rank kept t) (sym (new_types a valid shaped image))))
      ]

  aliases : (t u : ℕ) (def : TypeDef) → is_new first all_ids t ≡ true → slice_get types t ≡ Some def → alias_target def.kind ≡ Some u → IsRemapped all_ids u
  aliases t u def new at target =
      let own : own_type a t ≡ true = sym (ap (λ (kept : ℕ → Bool). kept t) (new_types a valid shaped image)) ∙ new in
      remapped u (target_active a valid shaped image t u def at (own_active a valid shaped image t own) target)

  all_come : CanCome a.graph.types types all_ids
  all_come = record {
    old_acyclic = valid.no_cycles.types;
    acyclic = types_acyclic;
    long = length-map-range_with_len (active_type_id a) 0 (length types);
    next = next;
    aliases = aliases;
  }

  all_remapped : IsRemapOf a.graph.types types all_ids (own_functions a) (remap_of_addition a)
  all_remapped = record {
    graph_types = refl;
    new_types = ap (λ (kept : ℕ → Bool). selected kept types) (sym (new_types a valid shaped image));
    new_functions = refl;
    count = refl;
    ids = λ t o at. ap (λ (o : Option ℕ). unwrap_or o t) (sym (range-read (active_type_id a) (length types) t all_ids o refl at));
  }

  -- so by the list of what they are remapped to, and the functions that are active
  module _ (new_ids : List (Option ℕ)) (ids_are : new_ids ≡ all_ids) (functions : List Function) (functions_are : functions ≡ active_functions a) where
    pub comes : CanCome a.graph.types types new_ids
    comes = subst (CanCome a.graph.types types) (sym ids_are) all_come

    pub is_remap : IsRemapOf a.graph.types types new_ids functions (remap_of_addition a)
    is_remap =
        subst (λ (ids : List (Option ℕ)). IsRemapOf a.graph.types types ids functions (remap_of_addition a)) (sym ids_are)
        (subst (λ (fs : List Function). IsRemapOf a.graph.types types all_ids fs (remap_of_addition a)) (sym (functions_are ∙ active_own a shaped)) all_remapped)

    pub positions_remapped : (t : ℕ) → Contains (flat_map (λ (def : TypeDef). value_positions def.kind) (selected (is_new first new_ids) types) ++ flat_map signature_types functions) t → IsRemapped new_ids t
    positions_remapped t has =
        subst (λ (ids : List (Option ℕ)). IsRemapped ids t) (sym ids_are)
        (remapped t (position_active a shaped image t (subst (λ (l : List ℕ). Contains l t) (positions_same a.graph.types types new_ids functions (remap_of_addition a) is_remap) has)))
