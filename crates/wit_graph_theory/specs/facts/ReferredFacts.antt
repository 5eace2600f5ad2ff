-- What images of types and functions refer to.
use Rattle.std.proofs.Common.{◌≡◌, ◌∙◌, ℕ, Bool, true, inl, inr, List, ◌++◌, map, Option, None, Some, option_map, option_to_list, refl, sym, ap, subst, Contains}
use Rattle.std.proofs.lemmas.List.{map-append}
use Rattle.std.proofs.lemmas.List.Elements.{Contains-append_cases, Contains-append_left, Contains-append_right}
use Rattle.std.specs.List.{flat_map}
use Rattle.wit_data.specs.Function.{resource_of}
use Rattle.wit_data.specs.Kind.{KindPart, kind_parts, map_type, variant_of, function_references, named_type, named_option, referred, referred_in}
use Rattle.wit_data.specs.facts.KindFacts.{parts_mapped, variant_mapped, map_part}
use Rattle.wit_data.specs.Ownership.{IsPlain, is_no_target}
use Rattle.wit_data.specs.facts.ReferenceFacts.{in_role, in_those}
use Rattle.wit_data.specs.Uses.{alias_target}
use Rattle.wit_data.specs.declared.function.Function.{Function}
use Rattle.wit_data.specs.declared.function.FunctionKind.{FunctionKind}
use Rattle.wit_data.specs.declared.function.Param.{Param}
use Rattle.wit_data.specs.declared.kind.PartRole.{PartRole}
use Rattle.wit_data.specs.declared.types.TypeDefKind.{TypeDefKind}
use Rattle.wit_data.specs.declared.types.Type_.{Type_}
use Rattle.wit_data.specs.declared.function.FunctionKind.TheVariants.{Freestanding, AsyncFreestanding, Method, AsyncMethod, Static, AsyncStatic, Constructor, Getter, Setter, MethodGetter, MethodSetter, StaticGetter, StaticSetter}
use Rattle.wit_data.specs.declared.kind.PartRole.TheVariants.{Value}
use Rattle.wit_data.specs.declared.types.TypeDefKind.TheVariants as kind
use Rattle.wit_data.specs.declared.types.Type_.TheVariants as type
use Rattle.wit_sources.specs.Span.{moved_by}
use Rattle.wit_remap_spec.specs.Image.{Maps, function_image, role_remap}
use Rattle.wit_graph_theory.specs.facts.Referred.{RefersUnder, RemapsTo}
use Rattle.wit_graph_theory.specs.facts.ListFacts.{Contains-map_cases, flat_map-placed}
use Rattle.wit_data.specs.steps.Parts.{parts}
use Rattle.wit_remap_spec.specs.steps.Parts.{value_image, kind_image, param_image, function_kind_image}

module _ (m : Maps) where
  named_type_image : (ty : Type_) → named_type (value_image m ty) ≡ map m.values (named_type ty)
  named_type_image (type.Id t) = refl
  named_type_image other = refl

  named_option_image : (o : Option Type_) → named_option (option_map (value_image m) o) ≡ map m.values (named_option o)
  named_option_image None = refl
  named_option_image (Some ty) = named_type_image ty

  joined : (xs ys ids more : List ℕ) → xs ≡ map m.values ids → ys ≡ map m.values more → xs ++ ys ≡ map m.values (ids ++ more)
  joined xs ys ids more first second = rw (first, second, map-append m.values ids more) refl

  named_mapped : (go : ℕ → ℕ) (o : Option Type_) → named_option (option_map (map_type go) o) ≡ map go (named_option o)
  named_mapped go None = refl
  named_mapped go (Some (type.Id t)) = refl
  named_mapped go (Some other) = refl

  goes_by_role : (role : PartRole) (t t' : ℕ) → role_remap m role t ≡ t' → RemapsTo m t t'
  goes_by_role Value t t' same = inr (sym same)
  goes_by_role other t t' same = inl (sym same)

  -- what the image of a kind refers to by parts in some roles is where what the kind refers to by them goes
  pub roles_refer : (roles : PartRole → Bool) (k : TypeDefKind) → RefersUnder m (referred_in roles k) (referred_in roles (kind_image m k))
  roles_refer roles k t' has =
      let change = map_part (role_remap m) (moved_by m.offset) in
      let new = in_role roles (kind_image m k) t' has in
      let old = Contains-map_cases change (kind_parts k) new.0 (subst (λ (ps : List KindPart). Contains ps new.0) (parts_mapped (role_remap m) (moved_by m.offset) k) new.1.0) in
      let names = subst (λ (p : KindPart). Contains (named_option p.ty) t') (sym old.2) new.1.1.1 in
      let from = Contains-map_cases (role_remap m old.0.role) (named_option old.0.ty) t' (subst (λ (ids : List ℕ). Contains ids t') (named_mapped (role_remap m old.0.role) old.0.ty) names) in
      let among : Contains (referred_in roles k) from.0 = in_those roles k old.0 from.0 old.1 (ap (λ (p : KindPart). roles p.role) old.2 ∙ new.1.1.0) from.1 in
      (from.0, among, goes_by_role old.0.role from.0 t' from.2)

  pub kind_refers : (k : TypeDefKind) → RefersUnder m (referred k) (referred (kind_image m k))
  kind_refers k = roles_refer (λ role. true) k

  pub parts_refer : (k : TypeDefKind) → RefersUnder m (parts k) (parts (kind_image m k))
  parts_refer k = roles_refer is_no_target k

  -- it is of the same variant
  pub variant_image : (k : TypeDefKind) → variant_of (kind_image m k) ≡ variant_of k
  variant_image k = variant_mapped (role_remap m) (moved_by m.offset) k

  -- the type that an alias names
  pub alias_image : (k : TypeDefKind) → alias_target (kind_image m k) ≡ option_map m.types (alias_target k)
  alias_image (kind.Type_ (type.Id t)) = refl
  alias_image (kind.Type_ other) = refl
  alias_image other = refl

  pub plain_image : (k : TypeDefKind) → IsPlain k → IsPlain (kind_image m k)
  plain_image (kind.Type_ ty) plain = plain
  plain_image kind.Resource plain = plain
  plain_image other plain = tt

  pub known_image : (k : TypeDefKind) → (k ≡ kind.Unknown → ⊥) → kind_image m k ≡ kind.Unknown → ⊥
  known_image kind.Unknown known same = known refl
  known_image other known same = cc

  resource_image : (k : FunctionKind) → option_to_list (resource_of (function_kind_image m k)) ≡ map m.types (option_to_list (resource_of k))
  resource_image Freestanding = refl
  resource_image AsyncFreestanding = refl
  resource_image (Method r) = refl
  resource_image (AsyncMethod r) = refl
  resource_image (Static r) = refl
  resource_image (AsyncStatic r) = refl
  resource_image (Constructor r) = refl
  resource_image Getter = refl
  resource_image Setter = refl
  resource_image (MethodGetter r) = refl
  resource_image (MethodSetter r) = refl
  resource_image (StaticGetter r) = refl
  resource_image (StaticSetter r) = refl

  -- ---- functions

  pub function_refers : (f : Function) → RefersUnder m (function_references f) (function_references (function_image m f))
  function_refers f t' has =
      let old : List ℕ = flat_map (λ (param : Param). named_type param.ty) f.params in
      let values =
      joined (flat_map (λ (param : Param). named_type param.ty) (map (param_image m) f.params)) (named_option (option_map (value_image m) f.result_)) old (named_option f.result_)
      (flat_map-placed (param_image m) (λ (param : Param). named_type param.ty) (λ (param : Param). named_type param.ty) m.values (λ param. named_type_image param.ty) f.params)
      (named_option_image f.result_) in
      let resource : List ℕ = option_to_list (resource_of f.kind) in
      elim (Contains-append_cases (option_to_list (resource_of (function_kind_image m f.kind))) _ t' has) [
        | inl one ↦
            let from = Contains-map_cases m.types resource t' (subst (λ (ids : List ℕ). Contains ids t') (resource_image f.kind) one) in
            (from.0, Contains-append_left resource (old ++ named_option f.result_) from.0 from.1, inl (sym from.2))
        | inr many ↦
            let from = Contains-map_cases m.values (old ++ named_option f.result_) t' (subst (λ (ids : List ℕ). Contains ids t') values many) in
            (from.0, Contains-append_right resource (old ++ named_option f.result_) from.0 from.1, inr (sym from.2))
      ]
