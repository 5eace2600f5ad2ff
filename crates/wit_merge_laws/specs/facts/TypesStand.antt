-- The types of two graphs that are one: those of the graph stay but for their stability, those of the other stand at
-- their places, and there are no others but the `own`s that values ask for.
use Rattle.std.proofs.Common.{◌≡◌, ◌∙◌, ℕ, ◌+◌, ◌<◌, true, false, not, List, ◌++◌, ◌⊎◌, inl, inr, map, length, is_some, Option, None, Some, option_map, unwrap_or, IsSome, slice_get, refl, sym, ap, subst, arith}
use Rattle.std.specs.List.{enumerate_from}
use Rattle.std.specs.Option.{option_map_or}
use Rattle.std.proofs.lemmas.Bool.{cases_Bool, lt-ltb}
use Rattle.std.proofs.lemmas.List.{length-map}
use Rattle.std.proofs.lemmas.Option.{slice_get_within}
use Rattle.wit_values.specs.facts.Lists.{slice_get-append}
use Rattle.wit_data.specs.Each.{SomeAt}
use Rattle.wit_data.specs.Ownership.{IsPlain}
use Rattle.wit_data.specs.Uses.{alias_target}
use Rattle.wit_data.specs.declared.types.TypeDef.{TypeDef}
use Rattle.wit_data.specs.declared.types.TypeDefKind.{TypeDefKind}
use Rattle.wit_data.specs.declared.types.TypeOwner.{TypeOwner}
use Rattle.wit_data.specs.declared.types.TypeDefKind.TheVariants as kind
use Rattle.wit_data.specs.declared.types.TypeOwner.TheVariants as owner
use Rattle.wit_elaboration.specs.Valid.{IsValid}
use Rattle.wit_graph_data.specs.declared.graph.Graph.{Graph}
use Rattle.wit_graph_theory.specs.facts.CarriedImages.{image_carried, image_stands, itself_carried}
use Rattle.wit_graph_theory.specs.facts.Covered.{IsOwnMade, TypeComes}
use Rattle.wit_graph_theory.specs.Cut.{graph_source}
use Rattle.wit_remap_spec.specs.Image.{name_image, owner_image, type_image}
use Rattle.wit_graph_theory.specs.facts.ListFacts.{at_map, at_new, from_map, some_at}
use Rattle.wit_graph_theory.specs.Operations.{merge_sources}
use Rattle.wit_graph_theory.specs.facts.PackagesAcyclic.{length-numbered, numbered_from, numbered_into}
use Rattle.wit_graph_theory.specs.facts.Referred.{RefersUnder}
use Rattle.wit_graph_theory.specs.steps.Sources.{IsCarriedType, IsOwnOf, Source, Stands}
use Rattle.wit_link_spec.specs.facts.RankFacts.{selected-at, selected_with_index-from}
use Rattle.wit_remap_spec.specs.Selected.{rank, selected_with_index}
use Rattle.wit_remap_spec.specs.Resources.{leads_to_resource, own_of}
use Rattle.wit_remap_spec.specs.ValueRemap.{needs_own}
use Rattle.wit_link_spec.specs.facts.ValueRemapFacts.{behind_from, leads_named, new_stands, own_stands, value_stands}
use Rattle.wit_merge_spec.specs.Merged.{joined_graph, merge_maps, merge_maps_without_owns, merged_type, value_remap}
use Rattle.wit_merge_spec.specs.Matches.{GraphMerge, counterpart_of, counterpart_type}
use Rattle.wit_merge_laws.specs.facts.MatchFacts.{goes_to, type_is}
use Rattle.wit_data.specs.steps.Parts.{parts}
use Rattle.wit_remap_spec.specs.steps.Parts.{types_without_owns, value_id, owns}
use Rattle.wit_merge_spec.specs.steps.Parts.{moved_types, with_type, joined_type, moves_type}

-- ---- what moves, and what is matched

-- what moves goes to the next id
pub moved_next : (o : Option ℕ) (next : ℕ) → not (is_some o) ≡ true → unwrap_or o next ≡ next
moved_next None next moves = refl
moved_next (Some x) next moves = cc

-- what doesn't move is matched
pub matched_some : (o : Option ℕ) → not (is_some o) ≡ false → (x : ℕ) × (o ≡ Some x)
matched_some None stays = cc
matched_some (Some x) stays = (x, refl)

-- ---- a type with a stability joined to it

-- a type that differs in nothing but what isn't asked
pub record KeepsType (def new : TypeDef) : Type 0 where
  pub name : new.name ≡ def.name
  pub kind : new.kind ≡ def.kind
  pub owner : new.owner ≡ def.owner

pub joined_keeps : (m : GraphMerge) (e : ℕ × TypeDef) → KeepsType e.1 (joined_type m e)
joined_keeps m e = by (counterpart_of (counterpart_type m) m.other.types e.0)
  where
    by : (o : Option (ℕ × TypeDef)) → KeepsType e.1 (option_map_or (λ (p : ℕ × TypeDef). with_type p.1 e.1) o e.1)
    by None = record { name = refl; kind = refl; owner = refl }
    by (Some p) = record { name = refl; kind = refl; owner = refl }

-- what is carried is carried so
carried_so : (s : Source) (g : Graph) (old def new : TypeDef) → KeepsType def new → IsCarriedType s g old def → IsCarriedType s g old new
carried_so s g old def new keeps carried = record {
  name = keeps.name ∙ carried.name;
  owner = keeps.owner ∙ carried.owner;
  parts = subst (λ (k : TypeDefKind). RefersUnder s.maps (parts old.kind) (parts k)) (sym keeps.kind) carried.parts;
  alias = λ t' target. carried.alias t' (sym (ap alias_target keeps.kind) ∙ target);
  plain = subst (λ (k : TypeDefKind). IsPlain old.kind → IsPlain k) (sym keeps.kind) carried.plain;
  known = subst (λ (k : TypeDefKind). k ≡ kind.Unknown → ⊥) (sym keeps.kind) carried.known;
}

-- ---- where types stand

module _ (m : GraphMerge) where
  abbrev pub old_types : List TypeDef
  old_types = map (joined_type m) (enumerate_from 0 m.graph.types)

  abbrev pub images : List TypeDef
  images = map (type_image (merge_maps m)) (moved_types m)

  pub long_old : length old_types ≡ length m.graph.types
  long_old = length-map (enumerate_from 0 m.graph.types) (joined_type m) ∙ length-numbered 0 m.graph.types

  -- a type of the graph stays at its place
  pub old_type_at : (t : ℕ) (def : TypeDef) → slice_get m.graph.types t ≡ Some def → slice_get (joined_graph m).types t ≡ Some (joined_type m (t, def))
  old_type_at t def at =
      let place : 0 + t ≡ t = omega arith in
      slice_get-append old_types (images ++ owns (value_remap m)) t (joined_type m (t, def))
      (at_map (joined_type m) (enumerate_from 0 m.graph.types) t (t, def) (numbered_into 0 m.graph.types t def at ∙ ap (λ (n : ℕ). Some (n, def)) place))

  pub moved_type_remapped : (t : ℕ) → moves_type m t ≡ true → merged_type m t ≡ length m.graph.types + rank (moves_type m) t
  moved_type_remapped t moves = moved_next (counterpart_type m t) _ moves

  -- one that moves stands at the next place, as its image
  pub new_type_at : (t : ℕ) (def : TypeDef) → slice_get m.other.types t ≡ Some def → moves_type m t ≡ true → slice_get (joined_graph m).types (merged_type m t) ≡ Some (type_image (merge_maps m) def)
  new_type_at t def at moves =
      new_stands (value_remap m) old_types long_old (rank (moves_type m) t) (merged_type m t) def (selected-at (moves_type m) m.other.types t def at moves) (moved_type_remapped t moves)

  -- the `own` of a type that needs one stands behind those
  pub own_at : (t : ℕ) (def : TypeDef) → slice_get m.other.types t ≡ Some def → needs_own (value_remap m) t ≡ true → slice_get (joined_graph m).types (value_id (value_remap m) t) ≡ Some (own_of (merged_type m t))
  own_at t def at needs = own_stands (value_remap m) old_types long_old t (slice_get_within m.other.types t def at) needs

  -- what stands there is one of these
  pub data TypeFrom (t' : ℕ) (new : TypeDef) : Type 0 where
    of_graph : (old : TypeDef) → slice_get m.graph.types t' ≡ Some old
        → joined_type m (t', old) ≡ new → TypeFrom t' new
    of_other : (t : ℕ) (old : TypeDef) → slice_get m.other.types t ≡ Some old
        → moves_type m t ≡ true → t' ≡ merged_type m t → type_image (merge_maps m) old ≡ new
        → TypeFrom t' new
    an_own : (t : ℕ) → t < length m.other.types → own_of (merged_type m t) ≡ new → TypeFrom t' new

  pub type_at_from : (t' : ℕ) (new : TypeDef) → slice_get (joined_graph m).types t' ≡ Some new → TypeFrom t' new
  type_at_from t' new at =
      elim (behind_from (value_remap m) old_types long_old t' new at) [
        | inl old ↦
            let from = from_map (joined_type m) (enumerate_from 0 m.graph.types) t' new old in
            let is = numbered_from 0 m.graph.types t' from.0 from.1 in
            let place : from.0.0 ≡ t' = let n = is.0 in omega (arith, n) in
            of_graph from.0.1 is.1 (ap (λ (k : ℕ). joined_type m (k, from.0.1)) (sym place) ∙ from.2)
        | inr behind ↦ elim behind [
          | inl image ↦
              let taken_from = from_map (λ (e : ℕ × TypeDef). e.1) (selected_with_index (moves_type m) m.other.types) image.k image.old image.there in
              let is = selected_with_index-from (moves_type m) m.other.types image.k taken_from.0 taken_from.1 in
              let goes = moved_type_remapped taken_from.0.0 is.1 in
              let n = image.place in
              let k = is.2 in
              of_other taken_from.0.0 image.old (is.0 ∙ ap (λ (d : TypeDef). Some d) taken_from.2) is.1 (omega (arith, goes, n, k)) image.is
          | inr own ↦ an_own own.t own.there own.is
        ]
      ]

-- ---- they stand, and come of the two

module _ (m : GraphMerge) (valid : IsValid m.graph) (valid_other : IsValid m.other) where
  -- each type of the other graph stands at its place
  pub type_stands : (t : ℕ) (def : TypeDef) → slice_get m.other.types t ≡ Some def → SomeAt (joined_graph m).types (merged_type m t) (Stands (merge_maps m) def)
  type_stands t def at = elim (cases_Bool (moves_type m t)) [
    | inl moves ↦ some_at (Stands (merge_maps m) def) (joined_graph m).types (merged_type m t) (type_image (merge_maps m) def) (new_type_at m t def at moves) (image_stands (merge_maps m) def)
    | inr stays ↦ matched (matched_some (counterpart_type m t) stays)
  ]
    where
      called : (by : TypeOwner) (name : Option (List ℕ)) → option_map (name_image (merge_maps m) by) name ≡ name
      called by None = refl
      called (owner.World w) (Some n) = refl
      called (owner.Interface i) (Some n) = refl
      called owner.None (Some n) = refl

      matched : (t' : ℕ) × (counterpart_type m t ≡ Some t') → SomeAt (joined_graph m).types (merged_type m t) (Stands (merge_maps m) def)
      matched (t', found) =
          let is = type_is m valid t t' found in
          let same : is.from ≡ def = let first = is.from_is in cc in
          let keeps = joined_keeps m (t', is.into) in
          let there : slice_get (joined_graph m).types (merged_type m t) ≡ Some (joined_type m (t', is.into)) = ap (slice_get (joined_graph m).types) (goes_to (counterpart_type m t) _ t' found) ∙ old_type_at m t' is.into is.into_is in
          some_at (Stands (merge_maps m) def) (joined_graph m).types (merged_type m t) (joined_type m (t', is.into)) there (record {
            name = keeps.name ∙ (is.called_so ∙ (sym is.called ∙ (ap (λ (d : TypeDef). d.name) same ∙ sym (called def.owner def.name))));
            owner = keeps.owner ∙ (is.owner_is ∙ ap (λ (d : TypeDef). owner_image (merge_maps m) d.owner) same);
            through = λ none. let named = is.called in let here = ap (λ (d : TypeDef). d.name) same in cc;
          })

  -- a type that leads to a resource has a name
  type_named : (t : ℕ) (def : TypeDef) → slice_get m.other.types t ≡ Some def → leads_to_resource (types_without_owns (value_remap m)) (merged_type m t) ≡ true → IsSome def.name
  type_named t def at leads = elim (cases_Bool (moves_type m t)) [
    | inr stays ↦
        let found = matched_some (counterpart_type m t) stays in
        let is = type_is m valid t found.0 found.1 in
        let same : is.from ≡ def = let first = is.from_is in cc in
        subst (λ (o : Option (List ℕ)). IsSome o) (sym (sym (ap (λ (d : TypeDef). d.name) same) ∙ is.called)) refl
    | inl moves ↦
        leads_named (value_remap m) t def (λ none. (
          valid_other.well_formed.references.unnamed t def at none,
          at_new m.graph.types (map (type_image (merge_maps_without_owns m)) (moved_types m)) (rank (moves_type m) t) (merged_type m t) (type_image (merge_maps_without_owns m) def) (moved_type_remapped m t moves)
              (at_map (type_image (merge_maps_without_owns m)) (moved_types m) (rank (moves_type m) t) def (selected-at (moves_type m) m.other.types t def at moves)),
        )) leads
  ]

  -- and where a value of it goes is that place or, of a named type, an `own` of it
  pub values_stand : (t : ℕ) (def : TypeDef) → slice_get m.other.types t ≡ Some def → (value_id (value_remap m) t ≡ merged_type m t) ⊎ (IsSome def.name × IsOwnOf (joined_graph m).types (value_id (value_remap m) t) (merged_type m t))
  values_stand t def at = value_stands (value_remap m) (joined_graph m).types t def (own_at m t def at) (type_named t def at)

  -- each type of the two graphs as one comes of a type of one of them, or is an `own`
  pub types_come : (g : Graph) (t' : ℕ) (new : TypeDef) → slice_get (joined_graph m).types t' ≡ Some new
      → TypeComes (merge_sources m.graph m.other (merge_maps m)) g t' new ⊎ IsOwnMade (merge_sources m.graph m.other (merge_maps m)) new
  types_come g t' new at = by (type_at_from m t' new at)
    where
      by : TypeFrom m t' new → TypeComes (merge_sources m.graph m.other (merge_maps m)) g t' new ⊎ IsOwnMade (merge_sources m.graph m.other (merge_maps m)) new
      by (of_graph old is same) = inl (record {
        source = 0;
        t = t';
        old = old;
        there = is;
        takes = lt-ltb t' (length m.graph.types) (slice_get_within m.graph.types t' old is);
        place = refl;
        carried = carried_so (graph_source m.graph) g old old new (subst (λ (d : TypeDef). KeepsType old d) same (joined_keeps m (t', old))) (itself_carried (graph_source m.graph) g old refl (valid.known t' old is));
      })
      by (of_other t old is moves place same) = inl (record {
        source = 1;
        t = t;
        old = old;
        there = is;
        takes = lt-ltb t (length m.other.types) (slice_get_within m.other.types t old is);
        place = place;
        carried = subst (λ (d : TypeDef). IsCarriedType (merge_sources m.graph m.other (merge_maps m) 1) g old d) same (image_carried (merge_sources m.graph m.other (merge_maps m) 1) g old (valid_other.known t old is));
      })
      by (an_own t within same) = inr (record {
        source = 1;
        t = t;
        takes = lt-ltb t (length m.other.types) within;
        name = ap (λ (d : TypeDef). d.name) (sym same);
        owner = ap (λ (d : TypeDef). d.owner) (sym same);
        kind = ap (λ (d : TypeDef). d.kind) (sym same);
      })
