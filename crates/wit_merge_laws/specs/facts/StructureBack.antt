-- Where two types differ in structure one way, they do the other way: what types with names are matched with is all in
-- which the two comparisons differ, and that is the same both ways.
use Rattle.std.proofs.Common.{◌≡◌, ◌∙◌, inl, inr, ℕ, zero, suc, Bool, true, false, List, [], ◌∷◌, ◌++◌, length, map, Option, None, Some, slice_get, refl, sym, ap, subst, Contains, if◌then◌else◌}
use Rattle.std.specs.List.{flat_map}
use Rattle.std.specs.Option.{option_map_or}
use Rattle.std.proofs.lemmas.List.{map-append}
use Rattle.std.proofs.lemmas.List.Elements.{Contains-append_cases, Contains-append_left, Contains-append_right}
use Rattle.wit_digraph.specs.facts.MemberFacts.{Contains-cons_cases, Contains-flat_map_cases, Contains-here, Contains-nil, Contains-there}
use Rattle.wit_data.specs.declared.types.TypeDef.{TypeDef}
use Rattle.wit_data.specs.declared.types.TypeDefKind.{TypeDefKind}
use Rattle.wit_data.specs.declared.types.Type_.{Type_}
use Rattle.wit_data.specs.declared.types.Type_.TheVariants as type
use Rattle.wit_graph_theory.specs.facts.ListFacts.{Contains-map_cases}
use Rattle.wit_data.specs.Kind.{fixed_length, kind_parts, KindPart, variant_of}
use Rattle.wit_merge_spec.specs.Structure.{Content, DifferInStructure, Feature, FirstDifference, absent, fixed, head_features, held_features, here, is_named, kind_features, named, names, primitive, structure, structure_within, variant, within}
use Rattle.wit_merge_spec.specs.steps.Parts.{part_features}

-- ---- what stands for a type with a name

-- a content, where a type with a name stands for that with which it is matched
abbrev content_with : (ℕ → Option ℕ) → Content → Content
content_with matched (named (Some t)) = named (matched t)
content_with matched c = c

abbrev with_matched : (ℕ → Option ℕ) → Feature → Feature
with_matched matched f = record { path = f.path; content = content_with matched f.content }

-- a type with a name stands for some type
abbrev IsFirm : Feature → Type 0
IsFirm f = f.content ≡ named None → ⊥

map-flat_map : {X A B : Type 0} (f : A → B) (q : X → List A) (q' : X → List B) → ((x : X) → q' x ≡ map f (q x)) → (xs : List X) → flat_map q' xs ≡ map f (flat_map q xs)
map-flat_map f q q' each [] = refl
map-flat_map f q q' each (x ∷ xs) = (λ i. each x i ++ map-flat_map f q q' each xs i) ∙ sym (map-append f (q x) (flat_map q xs))

map-map : {X Y Z W : Type 0} (f : X → Y) (g : Y → W) (h : X → Z) (k : Z → W) → ((x : X) → g (f x) ≡ k (h x)) → (xs : List X) → map g (map f xs) ≡ map k (map h xs)
map-map f g h k each [] = refl
map-map f g h k each (x ∷ xs) = λ i. each x i ∷ map-map f g h k each xs i

module _ (types : List TypeDef) (matched : ℕ → Option ℕ) where
  head-with : (k : TypeDefKind) → head_features k ≡ map (with_matched matched) (head_features k)
  head-with k = by (fixed_length k)
    where
      by : (o : Option ℕ) → here (variant (variant_of k)) ∷ here (names (map (λ (p : KindPart). p.step) (kind_parts k))) ∷ option_map_or (λ len. here (fixed len) ∷ []) o []
          ≡ map (with_matched matched) (here (variant (variant_of k)) ∷ here (names (map (λ (p : KindPart). p.step) (kind_parts k))) ∷ option_map_or (λ len. here (fixed len) ∷ []) o [])
      by None = refl
      by (Some len) = refl

  module _ (inner inner' : ℕ → List Feature) (same : (t : ℕ) → inner t ≡ map (with_matched matched) (inner' t)) where
    held-with : (ty : Option Type_) → held_features types matched inner ty ≡ map (with_matched matched) (held_features types Some inner' ty)
    held-with None = refl
    held-with (Some (type.Id t)) = by (is_named types t)
      where
        by : (b : Bool) → (if b then here (named (matched t)) ∷ [] else inner t) ≡ map (with_matched matched) (if b then here (named (Some t)) ∷ [] else inner' t)
        by true = refl
        by false = same t
    held-with (Some ty) = refl

    part-with : (p : KindPart) → part_features types matched inner p ≡ map (with_matched matched) (part_features types Some inner' p)
    part-with p =
        ap (map (within p.step)) (held-with p.ty)
        ∙ map-map (with_matched matched) (within p.step) (within p.step) (with_matched matched) (λ f. refl) (held_features types Some inner' p.ty)

    kind-with : (k : TypeDefKind) → kind_features types matched inner k ≡ map (with_matched matched) (kind_features types Some inner' k)
    kind-with k =
        (λ i. head-with k i ++ map-flat_map (with_matched matched) (part_features types Some inner') (part_features types matched inner) part-with (kind_parts k) i)
        ∙ sym (map-append (with_matched matched) (head_features k) (flat_map (part_features types Some inner') (kind_parts k)))

  option-with : (o : Option TypeDef) (inner inner' : ℕ → List Feature) → ((t : ℕ) → inner t ≡ map (with_matched matched) (inner' t))
      → option_map_or (λ (def : TypeDef). kind_features types matched inner def.kind) o [] ≡ map (with_matched matched) (option_map_or (λ (def : TypeDef). kind_features types Some inner' def.kind) o [])
  option-with None inner inner' same = refl
  option-with (Some def) inner inner' same = kind-with inner inner' same def.kind

  within-with : (members t : ℕ) → structure_within types matched members t ≡ map (with_matched matched) (structure_within types Some members t)
  unfolding structure_within
  within-with zero t = refl
  within-with (suc members) t = option-with (slice_get types t) (structure_within types matched members) (structure_within types Some members) (λ k. within-with members k)

  -- the structure with what is matched is the one without, with what is matched put in
  pub structure-with : (t : ℕ) → structure types matched t ≡ map (with_matched matched) (structure types Some t)
  unfolding structure
  structure-with t = within-with (length types) t

-- ---- the one without stands for some type wherever a type has a name

module _ (types : List TypeDef) where
  one_firm : (c : Content) (f : Feature) (more : List Feature) → (c ≡ named None → ⊥) → (Contains more f → IsFirm f) → Contains (here c ∷ more) f → IsFirm f
  one_firm c f more firm rest has = elim (Contains-cons_cases (here c) f more has) [
    | inl same ↦ λ none. firm (ap (λ (x : Feature). x.content) same ∙ none)
    | inr behind ↦ rest behind
  ]

  nil_firm : (f : Feature) → Contains [] f → IsFirm f
  nil_firm f has = absurd (Contains-nil has)

  head_firm : (k : TypeDefKind) (f : Feature) → Contains (head_features k) f → IsFirm f
  head_firm k f has = by (fixed_length k) has
    where
      by : (o : Option ℕ) → Contains (here (variant (variant_of k)) ∷ here (names (map (λ (p : KindPart). p.step) (kind_parts k))) ∷ option_map_or (λ len. here (fixed len) ∷ []) o []) f → IsFirm f
      by None has =
          one_firm (variant (variant_of k)) f (here (names (map (λ (p : KindPart). p.step) (kind_parts k))) ∷ []) (λ never. cc) (one_firm (names (map (λ (p : KindPart). p.step) (kind_parts k))) f [] (λ never. cc) (nil_firm f)) has
      by (Some len) has =
          one_firm (variant (variant_of k)) f (here (names (map (λ (p : KindPart). p.step) (kind_parts k))) ∷ here (fixed len) ∷ []) (λ never. cc)
          (one_firm (names (map (λ (p : KindPart). p.step) (kind_parts k))) f (here (fixed len) ∷ []) (λ never. cc) (one_firm (fixed len) f [] (λ never. cc) (nil_firm f))) has

  module _ (inner : ℕ → List Feature) (each : (t : ℕ) (f : Feature) → Contains (inner t) f → IsFirm f) where
    held_firm : (ty : Option Type_) (f : Feature) → Contains (held_features types Some inner ty) f → IsFirm f
    held_firm None f has = one_firm absent f [] (λ never. cc) (nil_firm f) has
    held_firm (Some (type.Id t)) f has = by (is_named types t) has
      where
        by : (b : Bool) → Contains (if b then here (named (Some t)) ∷ [] else inner t) f → IsFirm f
        by true has = one_firm (named (Some t)) f [] (λ never. cc) (nil_firm f) has
        by false has = each t f has
    held_firm (Some ty) f has = one_firm (primitive ty) f [] (λ never. cc) (nil_firm f) has

    kind_firm : (k : TypeDefKind) (f : Feature) → Contains (kind_features types Some inner k) f → IsFirm f
    kind_firm k f has = elim (Contains-append_cases (head_features k) (flat_map (part_features types Some inner) (kind_parts k)) f has) [
      | inl front ↦ head_firm k f front
      | inr of_parts ↦
          let from = Contains-flat_map_cases (part_features types Some inner) (kind_parts k) f of_parts in
          let held = Contains-map_cases (within from.0.step) (held_features types Some inner from.0.ty) f from.1.1 in
          λ none. held_firm from.0.ty held.0 held.1 (ap (λ (x : Feature). x.content) held.2 ∙ none)
    ]

  option_firm : (o : Option TypeDef) (inner : ℕ → List Feature) → ((t : ℕ) (f : Feature) → Contains (inner t) f → IsFirm f) → (f : Feature)
      → Contains (option_map_or (λ (def : TypeDef). kind_features types Some inner def.kind) o []) f → IsFirm f
  option_firm None inner each f has = absurd (Contains-nil has)
  option_firm (Some def) inner each f has = kind_firm inner each def.kind f has

  within_firm : (members t : ℕ) (f : Feature) → Contains (structure_within types Some members t) f → IsFirm f
  unfolding structure_within
  within_firm zero t f has = absurd (Contains-nil has)
  within_firm (suc members) t f has = option_firm (slice_get types t) (structure_within types Some members) (λ k g. within_firm members k g) f has

  structure_firm : (t : ℕ) (f : Feature) → Contains (structure types Some t) f → IsFirm f
  unfolding structure
  structure_firm t f has = within_firm (length types) t f has

-- ---- back

module _ (found found' : ℕ → Option ℕ) (inverse : (t t' : ℕ) → found' t' ≡ Some t → found t ≡ Some t') where
  content_back : (c d : Content) → content_with found' c ≡ d → (d ≡ named None → ⊥) → content_with found d ≡ c
  content_back (named (Some t')) d same firm = by (found' t') refl same
    where
      by : (o : Option ℕ) → found' t' ≡ o → named o ≡ d → content_with found d ≡ named (Some t')
      by None at same = absurd (firm (sym same))
      by (Some t) at same = ap (content_with found) (sym same) ∙ ap named (inverse t t' at)
  content_back (named None) d same firm = absurd (firm (sym same))
  content_back (variant v) d same firm = ap (content_with found) (sym same)
  content_back (names steps) d same firm = ap (content_with found) (sym same)
  content_back (fixed len) d same firm = ap (content_with found) (sym same)
  content_back absent d same firm = ap (content_with found) (sym same)
  content_back (primitive ty) d same firm = ap (content_with found) (sym same)

  -- a feature that is another with what is matched put in, is put back so
  feature_back : (x y : Feature) → with_matched found' x ≡ y → IsFirm y → with_matched found y ≡ x
  feature_back x y same firm =
      let paths : x.path ≡ y.path = ap (λ (f : Feature). f.path) same in
      let contents : content_with found y.content ≡ x.content = content_back x.content y.content (ap (λ (f : Feature). f.content) same) firm in
      λ i. record { path = sym paths i; content = contents i }

  all_back : (xs ys : List Feature) → map (with_matched found') xs ≡ ys → ((f : Feature) → Contains ys f → IsFirm f) → map (with_matched found) ys ≡ xs
  all_back [] ys same firm = ap (map (with_matched found)) (sym same)
  all_back (x ∷ xs) [] same firm = cc
  all_back (x ∷ xs) (y ∷ ys) same firm =
      let heads : with_matched found' x ≡ y = cc in
      let tails : map (with_matched found') xs ≡ ys = cc in
      let one = feature_back x y heads (firm y (Contains-here y ys)) in
      let more = all_back xs ys tails (λ f has. firm f (Contains-there y f ys has)) in
      λ i. one i ∷ more i

-- what a list with a function is taken apart into comes of parts of it
record Parts {X Y : Type 0} (f : X → Y) (xs : List X) (front : List Y) (y : Y) (rest : List Y) :
    Type 0 where
  before : List X
  at : X
  after : List X
  xs_are : xs ≡ before ++ (at ∷ after)
  before_is : map f before ≡ front
  at_is : f at ≡ y

map_parts : {X Y : Type 0} (f : X → Y) (xs : List X) (front : List Y) (y : Y) (rest : List Y) → map f xs ≡ front ++ (y ∷ rest) → Parts f xs front y rest
map_parts f [] [] y rest same = cc
map_parts f [] (z ∷ front) y rest same = cc
map_parts f (x ∷ xs) [] y rest same = let heads : f x ≡ y = cc in record { before = []; at = x; after = xs; xs_are = refl; before_is = refl; at_is = heads }
map_parts f (x ∷ xs) (z ∷ front) y rest same =
    let heads : f x ≡ z = cc in
    let tails : map f xs ≡ front ++ (y ∷ rest) = cc in
    let more = map_parts f xs front y rest tails in
    record { before = x ∷ more.before; at = more.at; after = more.after; xs_are = ap (λ (l : List _). x ∷ l) more.xs_are; before_is = λ i. heads i ∷ more.before_is i; at_is = more.at_is }

-- types that differ in structure one way do so the other way
pub differ_back : (others ours : List TypeDef) (found found' : ℕ → Option ℕ) → ((t t' : ℕ) → found t ≡ Some t' → found' t' ≡ Some t) → ((t t' : ℕ) → found' t' ≡ Some t → found t ≡ Some t')
    → (t t' : ℕ) (text : List ℕ) → DifferInStructure ours others found' t' t text → (text' : List ℕ) × DifferInStructure others ours found t t' text'
differ_back others ours found found' into inverse t t' text d =
    let B = structure ours Some t' in
    let first = d.first in
    let parts = map_parts (with_matched found') B first.before d.x first.after (sym (structure-with ours found' t') ∙ first.xs_are) in
    let firm : (f : Feature) → Contains first.before f → IsFirm f = λ f has. structure_firm others t f (subst (λ (l : List Feature). Contains l f) (sym first.ys_are) (front_has first.before (d.y ∷ first.after') f has)) in
    let y_firm : IsFirm d.y = structure_firm others t d.y (subst (λ (l : List Feature). Contains l d.y) (sym first.ys_are) (Contains-append_right first.before (d.y ∷ first.after') d.y (Contains-here d.y first.after'))) in
    let at_firm : IsFirm parts.at = structure_firm ours t' parts.at (subst (λ (l : List Feature). Contains l parts.at) (sym parts.xs_are) (Contains-append_right parts.before (parts.at ∷ parts.after) parts.at (Contains-here parts.at parts.after))) in
    let other_way : FirstDifference (structure others found t) (structure ours Some t') (with_matched found d.y) parts.at = record {
      before = parts.before;
      after = map (with_matched found) first.after';
      after' = parts.after;
      xs_are =
          structure-with others found t
          ∙ (ap (map (with_matched found)) first.ys_are
          ∙ (map-append (with_matched found) first.before (d.y ∷ first.after')
          ∙ ap (λ (l : List Feature). l ++ (with_matched found d.y ∷ map (with_matched found) first.after')) (all_back found found' inverse parts.before first.before parts.before_is firm)));
      ys_are = parts.xs_are;
      apart = λ same. first.apart (sym parts.at_is ∙ feature_back found' found (λ a b. into b a) d.y parts.at same at_firm);
    } in
    (_, record { x = with_matched found d.y; y = parts.at; first = other_way; text_is = refl })
  where
    front_has : (xs ys : List Feature) (f : Feature) → Contains xs f → Contains (xs ++ ys) f
    front_has xs ys f has = Contains-append_left xs ys f has
