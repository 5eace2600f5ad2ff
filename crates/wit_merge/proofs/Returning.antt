-- What functions that move return where they go.
use Rattle.std.proofs.Common.{◌≡◌, ◌∙◌, ◌<◌, inl, inr, ℕ, List, [], ◌∷◌, length, map, option_map, option_to_list, Option, None, Some, refl, sym, ap, subst, Contains}
use Rattle.std.specs.List.{flat_map}
use Rattle.std.proofs.lemmas.List.Elements.{Contains-append_right}
use Rattle.std.proofs.lemmas.Option.{slice_get_within}
use Rattle.wit_digraph.specs.facts.MemberFacts.{Contains-cons_cases, Contains-here, Contains-nil}
use Rattle.wit_data.specs.Function.{resource_of}
use Rattle.wit_data.specs.Kind.{named_option, named_type, signature_types}
use Rattle.wit_data.specs.declared.function.Function.{Function}
use Rattle.wit_data.specs.declared.function.Param.{Param}
use Rattle.wit_data.specs.declared.types.TypeDef.{TypeDef}
use Rattle.wit_data.specs.declared.types.Type_.{Type_}
use Rattle.wit_data.specs.declared.types.Handle.TheVariants.{Own}
use Rattle.wit_data.specs.declared.types.TypeDefKind.TheVariants as kind
use Rattle.wit_data.specs.declared.types.TypeOwner.TheVariants as owner
use Rattle.wit_data.specs.declared.types.Type_.TheVariants as type
use Rattle.wit_elaboration.specs.Valid.{IsValid}
use Rattle.wit_remap_spec.specs.Image.{Maps, function_image}
use Rattle.wit_graph_theory.specs.facts.ListFacts.{Contains-map_cases, found_at, get_at}
use Rattle.wit_graph_theory.specs.steps.Sources.{Stands}
use Rattle.wit_remap_spec.specs.Borrows.{borrow_text, HoldsBorrow}
use Rattle.wit_merge_spec.specs.Matches.{GraphMerge}
use Rattle.wit_merge_spec.specs.Merged.{merge_maps, merged_type, moved_functions, value_remap, joined_graph}
use Rattle.wit_merge_spec.specs.Cause.{MergeReturnsBorrow}
use Rattle.wit_merge_laws.specs.facts.TypesStand.{type_stands, values_stand}
use Rattle.wit_merge.specs.steps.MergeSteps.{ReturnsFree}
use Rattle.wit_merge_laws.specs.facts.FunctionsThere.{moved_refers}
use Rattle.wit_remap_spec.specs.steps.Parts.{value_image, value_id}

one_of : (x y : ℕ) → Contains (x ∷ []) y → x ≡ y
one_of x y has = elim (Contains-cons_cases x y [] has) [ inl same ↦ same | inr none ↦ absurd (Contains-nil none) ]

-- what an image of an option names
option_image : (maps : Maps) (o : Option Type_) → named_option (option_map (value_image maps) o) ≡ map maps.values (named_option o)
option_image maps None = refl
option_image maps (Some (type.Id t)) = refl
option_image maps (Some other) = refl

-- the type that a function returns, where it goes
returned_one : (m : GraphMerge) (f : Function) (o : Option ℕ) (t : ℕ) → option_to_list o ≡ named_option f.result_ → o ≡ Some t → named_option (function_image (merge_maps m) f).result_ ≡ value_id (value_remap m) t ∷ []
returned_one m f o t is some = option_image (merge_maps m) f.result_ ∙ (ap (map (value_id (value_remap m))) (sym is) ∙ ap (λ (x : Option ℕ). map (value_id (value_remap m)) (option_to_list x)) some)

module _ (m : GraphMerge) (valid : IsValid m.graph) (valid_other : IsValid m.other) where
  -- what a function that moves returns is there
  pub returned_there : (f : Function) → Contains (moved_functions m) f → (o : Option ℕ) (t : ℕ) → option_to_list o ≡ named_option f.result_ → o ≡ Some t → t < length m.other.types
  returned_there f moved o t is some =
      let values : List ℕ = flat_map (λ (p : Param). named_type p.ty) f.params in
      let one : t ∷ [] ≡ named_option f.result_ = ap (λ (x : Option ℕ). option_to_list x) (sym some) ∙ is in
      let has : Contains (named_option f.result_) t = subst (λ (ids : List ℕ). Contains ids t) one (Contains-here t []) in
      moved_refers m valid_other f moved t (Contains-append_right (option_to_list (resource_of f.kind)) (signature_types f) t (Contains-append_right values (named_option f.result_) t has))

  -- and where a value of it goes there is a type
  pub value_there : (t : ℕ) → t < length m.other.types → value_id (value_remap m) t < length (joined_graph m).types
  value_there t within =
      let def = get_at m.other.types t within in
      elim (values_stand m valid valid_other t def.0 def.1) [
        | inl same ↦
            let found = found_at (Stands (merge_maps m) def.0) (joined_graph m).types (merged_type m t) (type_stands m valid valid_other t def.0 def.1) in
            subst (λ (x : ℕ). x < length (joined_graph m).types) (sym same) (slice_get_within (joined_graph m).types (merged_type m t) found.0 found.1)
        | inr own ↦
            let found = found_at (λ (there : TypeDef). (there.name ≡ None) × (there.owner ≡ owner.None) × (there.kind ≡ kind.Handle (Own (merged_type m t)))) (joined_graph m).types (value_id (value_remap m) t) own.1 in
            slice_get_within (joined_graph m).types (value_id (value_remap m) t) found.0 found.1
      ]

  -- so what it returns where it goes is there
  pub image_returned_there : (f : Function) → Contains (moved_functions m) f → (t' : ℕ) → Contains (named_option (function_image (merge_maps m) f).result_) t' → t' < length (joined_graph m).types
  image_returned_there f moved t' names =
      let values : List ℕ = flat_map (λ (p : Param). named_type p.ty) f.params in
      let from = Contains-map_cases (value_id (value_remap m)) (named_option f.result_) t' (subst (λ (ids : List ℕ). Contains ids t') (option_image (merge_maps m) f.result_) names) in
      let within : from.0 < length m.other.types =
      moved_refers m valid_other f moved from.0 (Contains-append_right (option_to_list (resource_of f.kind)) (signature_types f) from.0 (Contains-append_right values (named_option f.result_) from.0 from.1)) in
      subst (λ (x : ℕ). x < length (joined_graph m).types) from.2 (value_there from.0 within)

-- ---- what is told of one function

module _ (m : GraphMerge) (f : Function) (o : Option ℕ) (t place : ℕ) (types : List TypeDef) (is : option_to_list o ≡ named_option f.result_) (some : o ≡ Some t) (place_is : place ≡ value_id (value_remap m) t)
    (types_are : types ≡ (joined_graph m).types) where
  -- one whose type holds none returns none
  pub returns_free : (HoldsBorrow types place → ⊥) → ReturnsFree m f
  returns_free free = record {
    none = λ t' has holds.
        let same : place ≡ t' = place_is ∙ one_of (value_id (value_remap m) t) t' (subst (λ (ids : List ℕ). Contains ids t') (returned_one m f o t is some) has) in
        free (subst (λ (x : ℕ). HoldsBorrow types x) (sym same) (subst (λ (ts : List TypeDef). HoldsBorrow ts t') (sym types_are) holds));
  }

  -- and one whose type holds one returns one
  pub returns_borrow : Contains (moved_functions m) f → HoldsBorrow types place → MergeReturnsBorrow m (borrow_text f.name)
  returns_borrow moved holds = record {
    f = f;
    t' = value_id (value_remap m) t;
    moved = moved;
    result_is = subst (λ (ids : List ℕ). Contains ids (value_id (value_remap m) t)) (sym (returned_one m f o t is some)) (Contains-here (value_id (value_remap m) t) []);
    holds = subst (λ (x : ℕ). HoldsBorrow (joined_graph m).types x) place_is (subst (λ (ts : List TypeDef). HoldsBorrow ts place) types_are holds);
    message_is = refl;
  }
