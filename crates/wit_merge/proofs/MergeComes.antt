-- The types of another graph can come into a graph, and with the functions that move they are of the merge's remap.
use Rattle.std.proofs.Common.{◌≡◌, ◌∙◌, ◌⊎◌, ◌<◌, ◌+◌, inl, inr, ℕ, not, is_some, List, ◌++◌, length, Option, None, Some, slice_get, unwrap_or, refl, sym, ap, subst, arith, Contains}
use Rattle.std.specs.Prelude.{nat_le, flat_map}
use Rattle.std.proofs.lemmas.Bool.{le-leb}
use Rattle.std.proofs.lemmas.List.FromFn.{length-map-range_with_len}
use Rattle.std.proofs.lemmas.Option.{slice_get_within}
use Rattle.wit_data.specs.declared.function.Function.{Function}
use Rattle.wit_data.specs.declared.types.TypeDef.{TypeDef}
use Rattle.wit_elaboration.specs.Valid.{IsValid}
use Rattle.wit_link_spec.specs.facts.NewFacts.{nothing_below}
use Rattle.wit_link_spec.specs.facts.RangeFacts.{range-at, range-read}
use Rattle.wit_link_spec.specs.facts.RankFacts.{rank-agree, selected-agree}
use Rattle.wit_remap_spec.specs.Selected.{rank, selected}
use Rattle.wit_link_spec.specs.steps.NewThings.{is_from, is_new}
use Rattle.wit_merge_spec.specs.Matches.{GraphMerge, counterpart_type}
use Rattle.wit_merge_spec.specs.Merged.{merged_type, moved_functions, value_remap}
use Rattle.wit_merge_laws.specs.facts.MatchFacts.{type_is}
use Rattle.wit_merge_match.specs.steps.Matched.{merge_ids_of}
use Rattle.wit_link_resources.specs.steps.IncomingTypes.{CanCome, IsRemapOf, IsRemapped}
use Rattle.wit_link_resources.specs.facts.IncomingLeads.{positions_same}
use Rattle.wit_link_resources.specs.facts.Leads.{target_there}
use Rattle.wit_merge.proofs.Positions.{position_there}
use Rattle.wit_data.specs.Kind.{signature_types}
use Rattle.wit_remap_spec.specs.steps.Parts.{value_positions}
use Rattle.wit_merge_spec.specs.steps.Parts.{moves_type}

module _ (m : GraphMerge) (valid : IsValid m.graph) (valid_other : IsValid m.other) where
  abbrev types : List TypeDef
  types = m.other.types

  abbrev all_ids : List (Option ℕ)
  all_ids = (merge_ids_of m).new_ids.types

  abbrev first : ℕ
  first = length m.graph.types

  abbrev id_of : ℕ → Option ℕ
  id_of t = Some (merged_type m t)

  long : length all_ids ≡ length types
  long = length-map-range_with_len id_of 0 (length types)

  -- a matched type goes to one of the graph
  matched_before : (t t' : ℕ) → counterpart_type m t ≡ Some t' → t' < first
  matched_before t t' found = let is = type_is m valid t t' found in slice_get_within m.graph.types t' is.into is.into_is

  -- what moves is new
  new_moves : (t : ℕ) → t < length types → is_new first all_ids t ≡ moves_type m t
  new_moves t below = ap (is_from first) (range-at id_of (length types) t below) ∙ by (counterpart_type m t) refl
    where
      by : (o : Option ℕ) → counterpart_type m t ≡ o → nat_le first (unwrap_or o (first + rank (moves_type m) t)) ≡ not (is_some o)
      by None found = le-leb first (first + rank (moves_type m) t) (omega arith)
      by (Some t') found = nothing_below first t' (matched_before t t' found)

  remapped : (t : ℕ) → t < length types → IsRemapped all_ids t
  remapped t below = (merged_type m t, range-at id_of (length types) t below)

  next : (t t' : ℕ) → slice_get all_ids t ≡ Some (Some t') → (t' < first) ⊎ (t' ≡ first + rank (is_new first all_ids) t)
  next t t' at = by (counterpart_type m t) refl (sym (some_same t' (merged_type m t) (range-read id_of (length types) t all_ids (Some t') refl at)))
    where
      some_same : (x y : ℕ) → Some x ≡ Some y → x ≡ y
      some_same x y same = cc

      below : t < length types
      below = let within = slice_get_within all_ids t (Some t') at in let all = long in omega (arith, within, all)

      by : (o : Option ℕ) → counterpart_type m t ≡ o → unwrap_or o (first + rank (moves_type m) t) ≡ t' → (t' < first) ⊎ (t' ≡ first + rank (is_new first all_ids) t)
      by (Some x) found goes = let before = matched_before t x found in inl (omega (arith, before, goes))
      by None found goes =
          let same : rank (is_new first all_ids) t ≡ rank (moves_type m) t = rank-agree (is_new first all_ids) (moves_type m) t (λ i low. new_moves i (omega (arith, low, below))) in
          inr (omega (arith, goes, same))

  all_come : CanCome m.graph.types types all_ids
  all_come = record {
    old_acyclic = valid.no_cycles.types;
    acyclic = valid_other.no_cycles.types;
    long = long;
    next = next;
    aliases = λ t u def new at target. remapped u (target_there types valid_other.no_cycles.types t u def at target);
  }

  all_remapped : IsRemapOf m.graph.types types all_ids (moved_functions m) (value_remap m)
  all_remapped = record {
    graph_types = refl;
    new_types = sym (selected-agree (is_new first all_ids) (moves_type m) types new_moves);
    new_functions = refl;
    count = refl;
    ids = λ t o at. ap (λ (o : Option ℕ). unwrap_or o t) (sym (range-read id_of (length types) t all_ids o refl at));
  }

  -- so by the list of what they are remapped to, and the functions that move
  module _ (new_ids : List (Option ℕ)) (ids_are : new_ids ≡ all_ids) (functions : List Function) (functions_are : functions ≡ moved_functions m) where
    pub comes : CanCome m.graph.types types new_ids
    comes = subst (CanCome m.graph.types types) (sym ids_are) all_come

    pub is_remap : IsRemapOf m.graph.types types new_ids functions (value_remap m)
    is_remap =
        subst (λ (ids : List (Option ℕ)). IsRemapOf m.graph.types types ids functions (value_remap m)) (sym ids_are)
        (subst (λ (fs : List Function). IsRemapOf m.graph.types types all_ids fs (value_remap m)) (sym functions_are) all_remapped)

    pub positions_remapped : (t : ℕ) → Contains (flat_map (λ (def : TypeDef). value_positions def.kind) (selected (is_new first new_ids) types) ++ flat_map signature_types functions) t → IsRemapped new_ids t
    positions_remapped t has =
        subst (λ (ids : List (Option ℕ)). IsRemapped ids t) (sym ids_are)
        (remapped t (position_there m valid_other t (subst (λ (l : List ℕ). Contains l t) (positions_same m.graph.types types new_ids functions (value_remap m) is_remap) has)))
