-- A type of the incoming graph holds a borrow in two graphs that are one only if it does in its own: what moves holds
-- what it held, at its place or by an `own` of it, and what is matched holds what its counterpart does, since the two
-- have one structure.
use Rattle.std.proofs.Common.{◌≡◌, ◌∙◌, ◌⊎◌, inl, inr, ℕ, ◌<◌, true, false, List, [], ◌∷◌, ◌++◌, length, Option, None, Some, option_map, option_to_list, slice_get, refl, sym, ap, subst, Contains}
use Rattle.std.specs.List.{flat_map}
use Rattle.std.proofs.lemmas.Bool.{cases_Bool}
use Rattle.std.proofs.lemmas.List.Elements.{Contains-append_right}
use Rattle.std.proofs.lemmas.Option.{slice_get_within}
use Rattle.wit_digraph.specs.facts.MemberFacts.{Contains-cons_cases, Contains-flat_map_cases, Contains-here, Contains-nil}
use Rattle.wit_digraph.specs.Relation.{IsPath}
use Rattle.wit_data.specs.Function.{resource_of}
use Rattle.wit_data.specs.Kind.{KindPart, kind_parts, variant_of, function_references, named_option, named_type, referred}
use Rattle.wit_data.specs.facts.KindFacts.{roles_are, variant_role}
use Rattle.wit_data.specs.facts.ReferenceFacts.{all_referred, in_role}
use Rattle.wit_data.specs.declared.function.Function.{Function}
use Rattle.wit_data.specs.declared.function.Param.{Param}
use Rattle.wit_data.specs.declared.types.TypeDef.{TypeDef}
use Rattle.wit_data.specs.declared.types.TypeDefKind.{TypeDefKind}
use Rattle.wit_data.specs.declared.types.Type_.{Type_}
use Rattle.wit_data.specs.declared.kind.Variant.{Variant}
use Rattle.wit_data.specs.declared.kind.Variant.TheVariants as variants
use Rattle.wit_data.specs.declared.types.Handle.TheVariants as handle
use Rattle.wit_data.specs.declared.types.TypeDefKind.TheVariants as kind
use Rattle.wit_data.specs.declared.types.Type_.TheVariants as type
use Rattle.wit_elaboration.specs.Valid.{IsValid}
use Rattle.wit_graph_data.specs.facts.ContentFacts.{held_among}
use Rattle.wit_graph_data.specs.Queries.{is_held, type_contents}
use Rattle.wit_remap_spec.specs.Image.{Maps, type_image}
use Rattle.wit_graph_theory.specs.facts.ListFacts.{found_at, from_row, get_at, in_row, place_of, same_at, some_at}
use Rattle.wit_graph_theory.specs.facts.Referred.{RemapsTo}
use Rattle.wit_graph_theory.specs.facts.ReferredFacts.{kind_refers, variant_image}
use Rattle.wit_remap_spec.specs.Borrows.{HoldsBorrow}
use Rattle.wit_remap_spec.specs.Resources.{own_of}
use Rattle.wit_remap_spec.specs.ValueRemap.{needs_own}
use Rattle.wit_merge_spec.specs.Structure.{held_features, structure}
use Rattle.wit_merge_spec.specs.facts.StructureFacts.{part_refers}
use Rattle.wit_merge_spec.specs.Merged.{joined_graph, merge_maps, merged_type, value_remap}
use Rattle.wit_merge_spec.specs.Matches.{GraphMerge, counterpart_type}
use Rattle.wit_merge_spec.specs.Cause.{HasNoMismatch}
use Rattle.wit_merge_laws.specs.laws.BorrowLaws.{MergesMakeNoBorrow}
use Rattle.wit_merge_laws.specs.facts.FunctionsThere.{moved_refers}
use Rattle.wit_merge_laws.specs.facts.MatchFacts.{goes_to, type_is}
use Rattle.wit_merge_laws.specs.facts.MatchedTypes.{no_difference}
use Rattle.wit_merge_laws.specs.facts.StructuresRead.{kinds_alike, refers_within, same_structure, type_alike}
use Rattle.wit_link_spec.specs.facts.ValueRemapFacts.{value_plain}
use Rattle.wit_merge_laws.specs.facts.TypesStand.{joined_keeps, matched_some, new_type_at, old_type_at, own_at}
use Rattle.wit_graph_data.specs.steps.Parts.{content_types}
use Rattle.wit_remap_spec.specs.steps.Parts.{value_image, kind_image, value_id, IsBorrow}
use Rattle.wit_merge_spec.specs.steps.Parts.{joined_type, moves_type}

-- ---- kinds

-- what a kind holds it refers to
held_refers : (k : TypeDefKind) (t : ℕ) → Contains (content_types k) t → Contains (referred k) t
held_refers k t has = held_among k t has

-- a kind that holds something is of a variant whose parts are held, and holds all that it refers to
held_variant : (l : TypeDefKind) (u : ℕ) → Contains (content_types l) u → is_held (variant_role (variant_of l)) ≡ true
held_variant l u held =
    let at = in_role is_held l u held in
    let place = place_of (kind_parts l) at.0 at.1.0 in
    sym (ap is_held (roles_are l place.0 at.0 place.1)) ∙ at.1.1.0

all_held : (k : TypeDefKind) → is_held (variant_role (variant_of k)) ≡ true → (t : ℕ) → Contains (referred k) t → Contains (content_types k) t
all_held k held t has = subst (λ (ids : List ℕ). Contains ids t) (sym (all_referred is_held k (variant_role (variant_of k)) (roles_are k) held)) has

-- what a kind refers to it holds, where one of its variant holds something
refers_held : (k l : TypeDefKind) (t u : ℕ) → variant_of k ≡ variant_of l → Contains (content_types l) u → Contains (referred k) t → Contains (content_types k) t
refers_held k l t u same held has = all_held k (ap (λ (v : Variant). is_held (variant_role v)) same ∙ held_variant l u held) t has

borrow_variant : (k : TypeDefKind) → variant_of k ≡ variants.Borrow → (r : ℕ) × (k ≡ kind.Handle (handle.Borrow r))
borrow_variant (kind.Handle (handle.Borrow r)) is = (r, refl)
borrow_variant (kind.Handle (handle.Own r)) is = cc
borrow_variant other is = cc

-- a part holds what a kind refers to
named_part : (k : TypeDefKind) (u : ℕ) → Contains (referred k) u → (p : KindPart) × Contains (kind_parts k) p × (p.ty ≡ Some (type.Id u))
named_part k u has =
    let from = Contains-flat_map_cases (λ (p : KindPart). named_option p.ty) (kind_parts k) u has in
    (from.0, from.1.0, by from.0.ty from.1.1)
  where
    by : (ty : Option Type_) → Contains (named_option ty) u → ty ≡ Some (type.Id u)
    by None named = absurd (Contains-nil named)
    by (Some (type.Id x)) named = elim (Contains-cons_cases x u [] named) [ inl same ↦ ap (λ (y : ℕ). Some (type.Id y)) same | inr none ↦ absurd (Contains-nil none) ]
    by (Some other) named = absurd (Contains-nil named)

named_there : (ty : Option Type_) (u : ℕ) → ty ≡ Some (type.Id u) → Contains (named_option ty) u
named_there ty u is = subst (λ (o : Option Type_). Contains (named_option o) u) (sym is) (Contains-here u [])

-- images of handles are handles
borrow_image : (m : Maps) (k : TypeDefKind) (r' : ℕ) → kind_image m k ≡ kind.Handle (handle.Borrow r') → (r : ℕ) × (k ≡ kind.Handle (handle.Borrow r))
borrow_image m (kind.Handle (handle.Borrow r)) r' is = (r, refl)
borrow_image m (kind.Handle (handle.Own r)) r' is = cc
borrow_image m other r' is = cc

held_image : (m : Maps) (k : TypeDefKind) (t u' : ℕ) → Contains (content_types (kind_image m k)) u' → Contains (referred k) t → Contains (content_types k) t
held_image m k t u' held has = refers_held k (kind_image m k) t u' (sym (variant_image m k)) held has

abbrev content_row : TypeDef → List ℕ
content_row def = content_types def.kind

-- a borrow further on
holds_on : (types : List TypeDef) (t u : ℕ) (def : TypeDef) → slice_get types t ≡ Some def → Contains (content_types def.kind) u → HoldsBorrow types u → HoldsBorrow types t
holds_on types t u def at has holds = (holds.0, (u ∷ holds.1.0, (in_row content_row types t def u at has, holds.1.1)), holds.2)

holds_here : (types : List TypeDef) (t : ℕ) (def : TypeDef) (r : ℕ) → slice_get types t ≡ Some def → def.kind ≡ kind.Handle (handle.Borrow r) → HoldsBorrow types t
holds_here types t def r at is = (t, ([], refl), some_at (λ (d : TypeDef). (x : ℕ) × (d.kind ≡ kind.Handle (handle.Borrow x))) types t def at (r, is))

-- ---- two graphs that are one

module _ (m : GraphMerge) (valid : IsValid m.graph) (valid_other : IsValid m.other) (one : HasNoMismatch m) where
  abbrev others : List TypeDef
  others = m.other.types

  abbrev ours : List TypeDef
  ours = m.graph.types

  abbrev HaveOneStructure : ℕ → ℕ → Type 0
  HaveOneStructure t t' = structure others (counterpart_type m) t ≡ structure ours Some t'

  -- matched types have one structure
  pub matched_same : (t t' : ℕ) → counterpart_type m t ≡ Some t' → HaveOneStructure t t'
  matched_same t t' found =
      let is = type_is m valid t t' found in
      same_structure others ours (counterpart_type m) Some valid_other.no_cycles.types valid.no_cycles.types t t' (slice_get_within others t is.from is.from_is) (slice_get_within ours t' is.into is.into_is)
      (λ x y first. no_difference m valid valid_other one t t' x y found first)

  -- so a type of the incoming graph holds a borrow where one of the graph does that has its structure
  structure_holds : (t t' : ℕ) (path : List ℕ) (b : ℕ) → t < length others → t' < length ours → HaveOneStructure t t' → IsPath (type_contents ours) t' path b → IsBorrow ours b → HoldsBorrow others t
  structure_holds t t' [] b within within' same leads is =
      let at = get_at others t within in
      let there = found_at (λ (d : TypeDef). (x : ℕ) × (d.kind ≡ kind.Handle (handle.Borrow x))) ours t' (subst (IsBorrow ours) (sym leads) is) in
      let alike = kinds_alike others ours (counterpart_type m) Some valid_other.no_cycles.types valid.no_cycles.types t t' at.0 there.0 at.1 there.1 same in
      let borrow = borrow_variant at.0.kind (alike.same ∙ ap variant_of there.2.1) in
      holds_here others t at.0 borrow.0 at.1 borrow.1
  structure_holds t t' (u' ∷ path) b within within' same leads is =
      let at = get_at others t within in
      let there = from_row content_row ours t' u' leads.0 in
      let alike = kinds_alike others ours (counterpart_type m) Some valid_other.no_cycles.types valid.no_cycles.types t t' at.0 there.0 at.1 there.1 same in
      let theirs = named_part there.0.kind u' (held_refers there.0.kind u' there.2) in
      let mine = alike.parts theirs.0 theirs.1 in
      let inside = (refers_within ours valid.no_cycles.types t' there.0 theirs.0 u' there.1 theirs.1 (named_there theirs.0.ty u' theirs.2)).1 in
      let like =
      type_alike others ours (counterpart_type m) Some valid_other.no_cycles.types valid.no_cycles.types mine.0.ty u'
      (λ x has. (refers_within others valid_other.no_cycles.types t at.0 mine.0 x at.1 mine.1 has).1) inside
      (mine.2 ∙ ap (held_features ours Some (structure ours Some)) theirs.2) in
      let refers = part_refers at.0.kind mine.0 like.u mine.1 like.has in
      let here = (refers_within others valid_other.no_cycles.types t at.0 mine.0 like.u at.1 mine.1 like.has).1 in
      let next : HaveOneStructure like.u u' = elim like.like [ inl found ↦ matched_same like.u u' found | inr structures ↦ structures ] in
      holds_on others t like.u at.0 at.1 (refers_held at.0.kind there.0.kind like.u u' alike.same there.2 refers) (structure_holds like.u u' path b here inside next leads.1 is)

  abbrev joined : List TypeDef
  joined = (joined_graph m).types

  -- a type of the graph keeps its kind
  old_kind : (t' : ℕ) (old new : TypeDef) → slice_get ours t' ≡ Some old → slice_get joined t' ≡ Some new → new.kind ≡ old.kind
  old_kind t' old new at there =
      let keeps = joined_keeps m (t', old) in
      let same : joined_type m (t', old) ≡ new = same_at joined t' t' (joined_type m (t', old)) new refl (old_type_at m t' old at) there in
      ap (λ (d : TypeDef). d.kind) (sym same) ∙ keeps.kind

  -- what a type of the graph holds in the two as one it held
  old_holds : (t' : ℕ) (path : List ℕ) (b : ℕ) → t' < length ours → IsPath (type_contents joined) t' path b → IsBorrow joined b → IsPath (type_contents ours) t' path b × IsBorrow ours b
  old_holds t' [] b within same is =
      let at = get_at ours t' within in
      let there = found_at (λ (d : TypeDef). (x : ℕ) × (d.kind ≡ kind.Handle (handle.Borrow x))) joined t' (subst (IsBorrow joined) (sym same) is) in
      let borrow = sym (old_kind t' at.0 there.0 at.1 there.1) ∙ there.2.1 in
      (same, subst (IsBorrow ours) same (some_at (λ (d : TypeDef). (x : ℕ) × (d.kind ≡ kind.Handle (handle.Borrow x))) ours t' at.0 at.1 (there.2.0, borrow)))
  old_holds t' (u' ∷ path) b within leads is =
      let at = get_at ours t' within in
      let there = from_row content_row joined t' u' leads.0 in
      let has : Contains (content_types at.0.kind) u' = subst (λ (k : TypeDefKind). Contains (content_types k) u') (old_kind t' at.0 there.0 at.1 there.1) there.2 in
      let part = named_part at.0.kind u' (held_refers at.0.kind u' has) in
      let inside = (refers_within ours valid.no_cycles.types t' at.0 part.0 u' at.1 part.1 (named_there part.0.ty u' part.2)).1 in
      let rest = old_holds u' path b inside leads.1 is in
      ((in_row content_row ours t' at.0 u' at.1 has, rest.0), rest.1)

  -- an `own` holds none
  own_holds : (t : ℕ) (def : TypeDef) (path : List ℕ) (b : ℕ) → slice_get others t ≡ Some def → needs_own (value_remap m) t ≡ true → IsPath (type_contents joined) (value_id (value_remap m) t) path b → IsBorrow joined b → ⊥
  own_holds t def [] b at needs same is =
      let there = found_at (λ (d : TypeDef). (x : ℕ) × (d.kind ≡ kind.Handle (handle.Borrow x))) joined (value_id (value_remap m) t) (subst (IsBorrow joined) (sym same) is) in
      let own : own_of (merged_type m t) ≡ there.0 = same_at joined (value_id (value_remap m) t) (value_id (value_remap m) t) (own_of (merged_type m t)) there.0 refl (own_at m t def at needs) there.1 in
      let borrow = ap (λ (d : TypeDef). d.kind) own ∙ there.2.1 in
      apart borrow
    where
      apart : {r r' : ℕ} → kind.Handle (handle.Own r) ≡ kind.Handle (handle.Borrow r') → ⊥
      apart same = cc
  own_holds t def (u' ∷ path) b at needs leads is =
      let there = from_row content_row joined (value_id (value_remap m) t) u' leads.0 in
      let own : own_of (merged_type m t) ≡ there.0 = same_at joined (value_id (value_remap m) t) (value_id (value_remap m) t) (own_of (merged_type m t)) there.0 refl (own_at m t def at needs) there.1 in
      Contains-nil (subst (λ (d : TypeDef). Contains (content_types d.kind) u') (sym own) there.2)

  value_goes : (t : ℕ) → needs_own (value_remap m) t ≡ false → value_id (value_remap m) t ≡ merged_type m t
  value_goes t plain = value_plain (value_remap m) t plain

  -- what a type is remapped to is its place, or an `own` of it
  place_or_own : (t t' : ℕ) → RemapsTo (merge_maps m) t t' → (t' ≡ merged_type m t) ⊎ ((needs_own (value_remap m) t ≡ true) × (t' ≡ value_id (value_remap m) t))
  place_or_own t t' (inl place) = inl place
  place_or_own t t' (inr value) =
      elim (cases_Bool (needs_own (value_remap m) t)) [
        | inl needs ↦ inr (needs, value)
        | inr plain ↦ inl (value ∙ value_goes t plain)
      ]

  -- a matched type that holds a borrow at its place held one
  matched_holds : (t t' : ℕ) (path : List ℕ) (b : ℕ) → moves_type m t ≡ false → t < length others → t' ≡ merged_type m t → IsPath (type_contents joined) t' path b → IsBorrow joined b → HoldsBorrow others t
  matched_holds t t' path b stays within place leads is =
      let found = matched_some (counterpart_type m t) stays in
      let matched = type_is m valid t found.0 found.1 in
      let inside = slice_get_within ours found.0 matched.into matched.into_is in
      let goes : t' ≡ found.0 = place ∙ goes_to (counterpart_type m t) _ found.0 found.1 in
      let old = old_holds found.0 path b inside (subst (λ (x : ℕ). IsPath (type_contents joined) x path b) goes leads) is in
      structure_holds t found.0 path b within inside (matched_same t found.0 found.1) old.0 old.1

  -- the image of one that moves
  moved_at : (t t' : ℕ) (new : TypeDef) (within : t < length others) → moves_type m t ≡ true → t' ≡ merged_type m t → slice_get joined t' ≡ Some new → type_image (merge_maps m) (get_at others t within).0 ≡ new
  moved_at t t' new within moves place there =
      let at = get_at others t within in
      same_at joined (merged_type m t) t' (type_image (merge_maps m) at.0) new (sym place) (new_type_at m t at.0 at.1 moves) there

  -- a type that holds a borrow where it goes held one
  holds_back : (t t' : ℕ) (path : List ℕ) (b : ℕ) → t < length others → RemapsTo (merge_maps m) t t' → IsPath (type_contents joined) t' path b → IsBorrow joined b → HoldsBorrow others t
  holds_back t t' [] b within goes same is =
      elim (place_or_own t t' goes) [
        | inr own ↦ let at = get_at others t within in absurd (own_holds t at.0 [] b at.1 own.0 (sym own.1 ∙ same) is)
        | inl place ↦ elim (cases_Bool (moves_type m t)) [
          | inr stays ↦ matched_holds t t' [] b stays within place same is
          | inl moves ↦
              let at = get_at others t within in
              let there = found_at (λ (d : TypeDef). (x : ℕ) × (d.kind ≡ kind.Handle (handle.Borrow x))) joined t' (subst (IsBorrow joined) (sym same) is) in
              let image = moved_at t t' there.0 within moves place there.1 in
              let borrow = borrow_image (merge_maps m) at.0.kind there.2.0 (ap (λ (d : TypeDef). d.kind) image ∙ there.2.1) in
              holds_here others t at.0 borrow.0 at.1 borrow.1
        ]
      ]
  holds_back t t' (u' ∷ path) b within goes leads is =
      elim (place_or_own t t' goes) [
        | inr own ↦ let at = get_at others t within in absurd (own_holds t at.0 (u' ∷ path) b at.1 own.0 (subst (λ (x : ℕ). IsPath (type_contents joined) x (u' ∷ path) b) own.1 leads) is)
        | inl place ↦ elim (cases_Bool (moves_type m t)) [
          | inr stays ↦ matched_holds t t' (u' ∷ path) b stays within place leads is
          | inl moves ↦
              let at = get_at others t within in
              let there = from_row content_row joined t' u' leads.0 in
              let image = moved_at t t' there.0 within moves place there.1 in
              let has : Contains (content_types (kind_image (merge_maps m) at.0.kind)) u' = subst (λ (d : TypeDef). Contains (content_types d.kind) u') (sym image) there.2 in
              let from = kind_refers (merge_maps m) at.0.kind u' (held_refers (kind_image (merge_maps m) at.0.kind) u' has) in
              let part = named_part at.0.kind from.0 from.1 in
              let inside = (refers_within others valid_other.no_cycles.types t at.0 part.0 from.0 at.1 part.1 (named_there part.0.ty from.0 part.2)).1 in
              holds_on others t from.0 at.0 at.1 (held_image (merge_maps m) at.0.kind from.0 u' has from.1) (holds_back from.0 u' path b inside from.2 leads.1 is)
        ]
      ]

-- ---- results

-- what the image of a result names is named by the result, where its values go
result_from : (m : Maps) (o : Option Type_) (t' : ℕ) → Contains (named_option (option_map (value_image m) o)) t' → (t : ℕ) × Contains (named_option o) t × (t' ≡ m.values t)
result_from m None t' has = absurd (Contains-nil has)
result_from m (Some (type.Id t)) t' has =
    elim (Contains-cons_cases (m.values t) t' [] has) [
      | inl same ↦ (t, Contains-here t [], sym same)
      | inr none ↦ absurd (Contains-nil none)
    ]
result_from m (Some other) t' has = absurd (Contains-nil has)

-- what a result names the function refers to
result_refers : (f : Function) (t : ℕ) → Contains (named_option f.result_) t → Contains (function_references f) t
result_refers f t has =
    Contains-append_right (option_to_list (resource_of f.kind)) (flat_map (λ (p : Param). named_type p.ty) f.params ++ named_option f.result_) t
    (Contains-append_right (flat_map (λ (p : Param). named_type p.ty) f.params) (named_option f.result_) t has)

-- a result that holds a borrow in the two as one did
pub borrows_back : MergesMakeNoBorrow
borrows_back m message valid valid_other one returns =
    let from = result_from (merge_maps m) returns.f.result_ returns.t' returns.result_is in
    let within = moved_refers m valid_other returns.f returns.moved from.0 (result_refers returns.f from.0 from.1) in
    record {
      f = returns.f;
      t = from.0;
      moved = returns.moved;
      result_is = from.1;
      holds = holds_back m valid valid_other one from.0 returns.t' returns.holds.1.0 returns.holds.0 within (inr from.2) returns.holds.1.1 returns.holds.2;
    }
