-- A structure is read in one way: none stands in front of another. So two types of which no first difference is told
-- have one structure, and each part of the one holds what that of the other does.
use Rattle.std.proofs.Common.{◌≡◌, ◌∙◌, ◌⊎◌, inl, inr, ℕ, ◌<◌, Bool, true, false, List, [], ◌∷◌, ◌++◌, map, length, append_assoc, Option, None, Some, slice_get, refl, sym, ap, subst, arith, Contains, if◌then◌else◌}
use Rattle.std.specs.List.{flat_map}
use Rattle.std.specs.Option.{option_map_or}
use Rattle.std.proofs.lemmas.List.{append-nil, map-append, map-id}
use Rattle.std.proofs.lemmas.List.Elements.{All-contains}
use Rattle.std.proofs.lemmas.Option.{slice_get_within}
use Rattle.wit_digraph.specs.facts.MemberFacts.{Contains-cons_cases, Contains-here, Contains-nil, Contains-there}
use Rattle.wit_digraph.specs.Relation.{IsAcyclic, direct}
use Rattle.wit_digraph.specs.facts.PostOrderFacts.{uses_ind}
use Rattle.wit_data.specs.Kind.{named_option, type_references, fixed_length, kind_parts, KindPart, variant_of}
use Rattle.wit_data.specs.facts.ReferenceFacts.{length-references, references_at}
use Rattle.wit_data.specs.declared.types.Handle.TheVariants as handle
use Rattle.wit_data.specs.declared.types.TypeDef.{TypeDef}
use Rattle.wit_data.specs.declared.types.TypeDefKind.{TypeDefKind}
use Rattle.wit_data.specs.declared.types.Type_.{Type_}
use Rattle.wit_data.specs.declared.kind.Variant.{Variant}
use Rattle.wit_data.specs.declared.types.TypeDefKind.TheVariants as kind
use Rattle.wit_data.specs.declared.types.Type_.TheVariants as type
use Rattle.wit_merge_spec.specs.Structure.{Content, Feature, FirstDifference, absent, fixed, head_features, held_features, here, is_named, kind_features, named, names, primitive, structure, variant, within}
use Rattle.wit_merge_spec.specs.facts.StructureFacts.{part_refers, structure_at}
use Rattle.wit_data.specs.declared.kind.Variant.TheVariants as variants
use Rattle.wit_merge_laws.specs.facts.FeaturesTold.{front_of}
use Rattle.wit_graph_theory.specs.facts.ListFacts.{get_at}
use Rattle.wit_merge_spec.specs.steps.Parts.{part_features}

-- ---- lists that are read alike

-- a map of features that keeps what they hold
abbrev Keeps : (Feature → Feature) → Type 0
Keeps f = (x : Feature) → (f x).content ≡ x.content

-- at whatever path they stand, and whatever comes after them, where lists begin with these two the two are the same
abbrev pub AreRead : List Feature → List Feature → Type 0
AreRead fs gs =
    (f : Feature → Feature) (xs ys : List Feature) → Keeps f → map f fs ++ xs ≡ map f gs ++ ys
    → (fs ≡ gs) × (xs ≡ ys)

same_heads : (x y : Feature) (xs ys : List Feature) → x ∷ xs ≡ y ∷ ys → (x ≡ y) × (xs ≡ ys)
same_heads x y xs ys same = (cc, cc)

contents_same : (f : Feature → Feature) → Keeps f → (c d : Content) → f (here c) ≡ f (here d) → c ≡ d
contents_same f keeps c d same = sym (keeps (here c)) ∙ (ap (λ (x : Feature). x.content) same ∙ keeps (here d))

read_nothing : AreRead [] []
read_nothing f xs ys keeps same = (refl, same)

read_one : (c d : Content) → AreRead (here c ∷ []) (here d ∷ [])
read_one c d f xs ys keeps same =
    let heads = same_heads (f (here c)) (f (here d)) xs ys same in
    (ap (λ (e : Content). here e ∷ []) (contents_same f keeps c d heads.0), heads.1)

-- two that begin apart
read_apart : (c d : Content) (fs gs : List Feature) → (c ≡ d → ⊥) → AreRead (here c ∷ fs) (here d ∷ gs)
read_apart c d fs gs apart f xs ys keeps same =
    absurd (apart (contents_same f keeps c d (same_heads (f (here c)) (f (here d)) (map f fs ++ xs) (map f gs ++ ys) same).0))

-- one after another
read_then : (fs gs more more' : List Feature) → AreRead fs gs → (fs ≡ gs → AreRead more more') → AreRead (fs ++ more) (gs ++ more')
read_then fs gs more more' first after f xs ys keeps same =
    let parted : map f fs ++ (map f more ++ xs) ≡ map f gs ++ (map f more' ++ ys) =
    sym (append_assoc (map f fs) (map f more) xs) ∙ (ap (λ (l : List Feature). l ++ xs) (sym (map-append f fs more)) ∙ (same ∙ (ap (λ (l : List Feature). l ++ ys) (map-append f gs more') ∙ append_assoc (map f gs) (map f more') ys))) in
    let one = first f (map f more ++ xs) (map f more' ++ ys) keeps parted in
    let two = after one.0 f xs ys keeps one.1 in
    (λ i. one.0 i ++ two.0 i, two.1)

map-within : (f : Feature → Feature) (step : List ℕ) (fs : List Feature) → map f (map (within step) fs) ≡ map (λ (x : Feature). f (within step x)) fs
map-within f step [] = refl
map-within f step (a ∷ fs) = ap (λ (l : List Feature). f (within step a) ∷ l) (map-within f step fs)

-- a step further in
read_within_held : (step : List ℕ) (fs gs : List Feature) → AreRead fs gs → (f : Feature → Feature) (xs ys : List Feature) → Keeps f → map f (map (within step) fs) ++ xs ≡ map f (map (within step) gs) ++ ys → (fs ≡ gs) × (xs ≡ ys)
read_within_held step fs gs read f xs ys keeps same =
    read (λ (x : Feature). f (within step x)) xs ys (λ x. keeps (within step x))
    (ap (λ (l : List Feature). l ++ xs) (sym (map-within f step fs)) ∙ (same ∙ ap (λ (l : List Feature). l ++ ys) (map-within f step gs)))

read_within : (step : List ℕ) (fs gs : List Feature) → AreRead fs gs → AreRead (map (within step) fs) (map (within step) gs)
read_within step fs gs read f xs ys keeps same = let held = read_within_held step fs gs read f xs ys keeps same in (ap (map (within step)) held.0, held.1)

-- ---- heads of kinds

-- a length that is fixed
abbrev length_features : TypeDefKind → List Feature
length_features k = option_map_or (λ len. here (fixed len) ∷ []) (fixed_length k) []

fixed_variant : (k : TypeDefKind) (len : ℕ) → fixed_length k ≡ Some len → variant_of k ≡ variants.FixedLengthList
fixed_variant (kind.FixedLengthList ty n) len is = refl
fixed_variant other len is = cc

variant_fixed : (k : TypeDefKind) → variant_of k ≡ variants.FixedLengthList → fixed_length k ≡ None → ⊥
variant_fixed (kind.FixedLengthList ty n) is none = cc
variant_fixed (kind.Handle (handle.Own t)) is none = cc
variant_fixed (kind.Handle (handle.Borrow t)) is none = cc
variant_fixed other is none = cc

read_lengths : (k l : TypeDefKind) → variant_of k ≡ variant_of l → AreRead (length_features k) (length_features l)
read_lengths k l same = by (fixed_length k) (fixed_length l) refl refl
  where
    by : (o p : Option ℕ) → fixed_length k ≡ o → fixed_length l ≡ p → AreRead (option_map_or (λ len. here (fixed len) ∷ []) o []) (option_map_or (λ len. here (fixed len) ∷ []) p [])
    by None None is is' = read_nothing
    by (Some m) (Some n) is is' = read_one (fixed m) (fixed n)
    by None (Some n) is is' = absurd (variant_fixed k (same ∙ fixed_variant l n is') is)
    by (Some m) None is is' = absurd (variant_fixed l (sym same ∙ fixed_variant k m is) is')

abbrev steps_of : TypeDefKind → List (List ℕ)
steps_of k = map (λ (p : KindPart). p.step) (kind_parts k)

one_content : {c d : Content} → here c ∷ [] ≡ here d ∷ [] → c ≡ d
one_content {c} {d} same = ap (λ (x : Feature). x.content) (same_heads (here c) (here d) [] [] same).0

one_variant : {v w : Variant} → variant v ≡ variant w → v ≡ w
one_variant same = cc

one_names : {a b : List (List ℕ)} → names a ≡ names b → a ≡ b
one_names same = cc

-- what heads that are the same tell
heads_variant : (k l : TypeDefKind) (xs ys : List Feature) → head_features k ++ xs ≡ head_features l ++ ys → (variant_of k ≡ variant_of l) × (steps_of k ≡ steps_of l)
heads_variant k l xs ys same =
    let one = same_heads (here (variant (variant_of k))) (here (variant (variant_of l))) (here (names (steps_of k)) ∷ (length_features k ++ xs)) (here (names (steps_of l)) ∷ (length_features l ++ ys)) same in
    let two = same_heads (here (names (steps_of k))) (here (names (steps_of l))) (length_features k ++ xs) (length_features l ++ ys) one.1 in
    (one_variant (ap (λ (x : Feature). x.content) one.0), one_names (ap (λ (x : Feature). x.content) two.0))

read_heads : (k l : TypeDefKind) → AreRead (head_features k) (head_features l)
read_heads k l =
    read_then (here (variant (variant_of k)) ∷ []) (here (variant (variant_of l)) ∷ []) (here (names (steps_of k)) ∷ length_features k) (here (names (steps_of l)) ∷ length_features l)
    (read_one (variant (variant_of k)) (variant (variant_of l)))
    (λ same.
    read_then (here (names (steps_of k)) ∷ []) (here (names (steps_of l)) ∷ []) (length_features k) (length_features l) (read_one (names (steps_of k)) (names (steps_of l)))
    (λ steps. read_lengths k l (one_variant (one_content same))))

-- ---- structures

-- what a type refers to is there
pub refers_within : (types : List TypeDef) → IsAcyclic (type_references types) → (t : ℕ) (def : TypeDef) (p : KindPart) (u : ℕ) → slice_get types t ≡ Some def → Contains (kind_parts def.kind) p → Contains (named_option p.ty) u
    → Contains (direct (type_references types) t) u × (u < length types)
refers_within types acyclic t def p u at among has =
    let edge : Contains (direct (type_references types) t) u = subst (λ (ids : List ℕ). Contains ids u) (sym (references_at types t def at)) (part_refers def.kind p u among has) in
    let within = All-contains (λ j. j < length (type_references types)) (direct (type_references types) t) u (acyclic.in_range t) edge in
    let long = length-references types in
    (edge, omega (arith, within, long))

module _ (others ours : List TypeDef) (found back : ℕ → Option ℕ) (acyclic : IsAcyclic (type_references others)) (acyclic' : IsAcyclic (type_references ours)) where
  abbrev mine : ℕ → List Feature
  mine = structure others found

  abbrev theirs : ℕ → List Feature
  theirs = structure ours back

  -- a type is read, whatever the other is
  abbrev IsRead : ℕ → Type 0
  IsRead t = (t' : ℕ) → t' < length ours → AreRead (mine t) (theirs t')

  -- what a part may hold: nothing, a primitive or a type with a name is one feature, which is no variant
  abbrev is_leaf : Content → Bool
  is_leaf (variant v) = false
  is_leaf other = true

  leaf_apart : (c : Content) (v : Variant) → is_leaf c ≡ true → c ≡ variant v → ⊥
  leaf_apart c v leaf is = let no : false ≡ true = sym (ap is_leaf is) ∙ leaf in cc

  data Holds (types : List TypeDef) (inner : ℕ → List Feature) (ty : Option Type_)
      (fs : List Feature) : Type 0 where
    a_leaf : (c : Content) → is_leaf c ≡ true → fs ≡ here c ∷ [] → Holds types inner ty fs
    a_type : (t : ℕ) → Contains (named_option ty) t → fs ≡ inner t → Holds types inner ty fs

  holds : (types : List TypeDef) (matched : ℕ → Option ℕ) (inner : ℕ → List Feature) (ty : Option Type_) → Holds types inner ty (held_features types matched inner ty)
  holds types matched inner None = a_leaf absent refl refl
  holds types matched inner (Some (type.Id t)) = by (is_named types t)
    where
      by : (b : Bool) → Holds types inner (Some (type.Id t)) (if b then here (named (matched t)) ∷ [] else inner t)
      by true = a_leaf (named (matched t)) refl refl
      by false = a_type t (Contains-here t []) refl
  holds types matched inner (Some ty) = a_leaf (primitive ty) refl refl

  -- a structure begins with a variant
  begins : (types : List TypeDef) (matched : ℕ → Option ℕ) → IsAcyclic (type_references types) → (t : ℕ) → t < length types → (v : Variant) × (rest : List Feature) × (structure types matched t ≡ here (variant v) ∷ rest)
  begins types matched acyclic t within =
      let at = get_at types t within in
      (variant_of at.0.kind, here (names (steps_of at.0.kind)) ∷ (length_features at.0.kind ++ flat_map (part_features types matched (structure types matched)) (kind_parts at.0.kind)), structure_at types matched acyclic t at.0 within at.1)

  read_held : (ty ty' : Option Type_) → ((t : ℕ) → Contains (named_option ty) t → IsRead t × (t < length others)) → ((t' : ℕ) → Contains (named_option ty') t' → t' < length ours)
      → AreRead (held_features others found mine ty) (held_features ours back theirs ty')
  read_held ty ty' read within = by (held_features others found mine ty) (held_features ours back theirs ty') (holds others found mine ty) (holds ours back theirs ty')
    where
      by : (fs gs : List Feature) → Holds others mine ty fs → Holds ours theirs ty' gs → AreRead fs gs
      by fs gs (a_leaf c leaf is) (a_leaf d leaf' is') = subst (λ (l : List Feature). AreRead l gs) (sym is) (subst (AreRead (here c ∷ [])) (sym is') (read_one c d))
      by fs gs (a_leaf c leaf is) (a_type t' has' is') =
          let start = begins ours back acyclic' t' (within t' has') in
          subst (λ (l : List Feature). AreRead l gs) (sym is) (subst (AreRead (here c ∷ [])) (sym (is' ∙ start.2)) (read_apart c (variant start.0) [] start.1 (leaf_apart c start.0 leaf)))
      by fs gs (a_type t has is) (a_leaf d leaf' is') =
          let start = begins others found acyclic t (read t has).1 in
          subst (λ (l : List Feature). AreRead l gs) (sym (is ∙ start.2)) (subst (AreRead (here (variant start.0) ∷ start.1)) (sym is') (read_apart (variant start.0) d start.1 [] (λ same. leaf_apart d start.0 leaf' (sym same))))
      by fs gs (a_type t has is) (a_type t' has' is') = subst (λ (l : List Feature). AreRead l gs) (sym is) (subst (AreRead (mine t)) (sym is') ((read t has).0 t' (within t' has')))

  -- the parts of two kinds
  abbrev AreNamedSo : List KindPart → List KindPart → Type 0
  AreNamedSo ps ps' = map (λ (p : KindPart). p.step) ps ≡ map (λ (p : KindPart). p.step) ps'

  abbrev my_part : KindPart → List Feature
  my_part = part_features others found mine

  abbrev their_part : KindPart → List Feature
  their_part = part_features ours back theirs

  record PartsRead (ps ps' : List KindPart) : Type 0 where
    read : (p : KindPart) → Contains ps p → (t : ℕ) → Contains (named_option p.ty) t
        → IsRead t × (t < length others)
    inside : (p : KindPart) → Contains ps' p → (t : ℕ) → Contains (named_option p.ty) t
        → t < length ours

  later : (p p' : KindPart) (ps ps' : List KindPart) → PartsRead (p ∷ ps) (p' ∷ ps') → PartsRead ps ps'
  later p p' ps ps' told = record { read = λ q has. told.read q (Contains-there p q ps has); inside = λ q has. told.inside q (Contains-there p' q ps' has) }

  one_step : (p p' : KindPart) (ps ps' : List KindPart) → AreNamedSo (p ∷ ps) (p' ∷ ps') → (p.step ≡ p'.step) × AreNamedSo ps ps'
  one_step p p' ps ps' same = let steps : p.step ∷ map (λ (q : KindPart). q.step) ps ≡ p'.step ∷ map (λ (q : KindPart). q.step) ps' = same in (cc, cc)

  no_names : (s : List ℕ) (more : List (List ℕ)) → [] ≡ s ∷ more → ⊥
  no_names s more same = cc

  read_first : (p p' : KindPart) (ps ps' : List KindPart) → PartsRead (p ∷ ps) (p' ∷ ps') → AreRead (held_features others found mine p.ty) (held_features ours back theirs p'.ty)
  read_first p p' ps ps' told = read_held p.ty p'.ty (told.read p (Contains-here p ps)) (told.inside p' (Contains-here p' ps'))

  read_part : (p p' : KindPart) → p.step ≡ p'.step → AreRead (held_features others found mine p.ty) (held_features ours back theirs p'.ty) → AreRead (my_part p) (their_part p')
  read_part p p' step held =
      subst (λ (s : List ℕ). AreRead (my_part p) (map (within s) (held_features ours back theirs p'.ty))) step (read_within p.step (held_features others found mine p.ty) (held_features ours back theirs p'.ty) held)

  read_parts : (ps ps' : List KindPart) → AreNamedSo ps ps' → PartsRead ps ps' → AreRead (flat_map my_part ps) (flat_map their_part ps')
  read_parts [] [] same told = read_nothing
  read_parts [] (p' ∷ ps') same told = absurd (no_names p'.step (map (λ (q : KindPart). q.step) ps') same)
  read_parts (p ∷ ps) [] same told = absurd (no_names p.step (map (λ (q : KindPart). q.step) ps) (sym same))
  read_parts (p ∷ ps) (p' ∷ ps') same told =
      let steps = one_step p p' ps ps' same in
      read_then (my_part p) (their_part p') (flat_map my_part ps) (flat_map their_part ps') (read_part p p' steps.0 (read_first p p' ps ps' told)) (λ _. read_parts ps ps' steps.1 (later p p' ps ps' told))

  -- two kinds
  read_kinds : (k l : TypeDefKind) → PartsRead (kind_parts k) (kind_parts l) → AreRead (kind_features others found mine k) (kind_features ours back theirs l)
  read_kinds k l told =
      read_then (head_features k) (head_features l) (flat_map my_part (kind_parts k)) (flat_map their_part (kind_parts l)) (read_heads k l)
      (λ same. read_parts (kind_parts k) (kind_parts l) (heads_variant k l [] [] (ap (λ (fs : List Feature). fs ++ []) same)).1 told)

  -- each type is read
  read_all : (t : ℕ) → t < length others → IsRead t
  read_all t within = let long = length-references others in uses_ind (type_references others) acyclic IsRead by t (omega (arith, within, long))
    where
      by : (i : ℕ) → i < length (type_references others) → ((j : ℕ) → Contains (direct (type_references others) i) j → IsRead j) → IsRead i
      by i here below t' within' =
          let long = length-references others in
          let inside : i < length others = omega (arith, here, long) in
          let at = get_at others i inside in
          let at' = get_at ours t' within' in
          subst (λ (l : List Feature). AreRead l (theirs t')) (sym (structure_at others found acyclic i at.0 inside at.1))
          (subst (AreRead (kind_features others found mine at.0.kind)) (sym (structure_at ours back acyclic' t' at'.0 within' at'.1))
          (read_kinds at.0.kind at'.0.kind
          (record {
            read = λ p has u holds. let refers = refers_within others acyclic i at.0 p u at.1 has holds in (below u refers.0, refers.1);
            inside = λ p has u holds. (refers_within ours acyclic' t' at'.0 p u at'.1 has holds).1;
          })))

  itself : (fs more : List Feature) → map (λ (x : Feature). x) fs ++ more ≡ fs ++ more
  itself fs more = ap (λ (l : List Feature). l ++ more) (map-id fs)

  -- types of which no first difference is told have one structure
  pub same_structure : (t t' : ℕ) → t < length others → t' < length ours → ((x y : Feature) → FirstDifference (mine t) (theirs t') x y → ⊥) → mine t ≡ theirs t'
  same_structure t t' within within' none =
      elim (front_of (mine t) (theirs t') none) [
        | inl longer ↦ (read_all t within t' within' (λ x. x) [] longer.0 (λ x. refl) (itself (mine t) [] ∙ (append-nil (mine t) ∙ (longer.1 ∙ sym (itself (theirs t') longer.0))))).0
        | inr shorter ↦ (read_all t within t' within' (λ x. x) shorter.0 [] (λ x. refl) (itself (mine t) shorter.0 ∙ (sym shorter.1 ∙ (sym (append-nil (theirs t')) ∙ sym (itself (theirs t') []))))).0
      ]

  -- ---- what two types of one structure have in common

  -- a part of the one holds what a part of the other does
  abbrev IsLike : List KindPart → KindPart → Type 0
  IsLike ps p' =
      (p : KindPart) × Contains ps p
      × (held_features others found mine p.ty ≡ held_features ours back theirs p'.ty)

  parts_alike : (ps ps' : List KindPart) → AreNamedSo ps ps' → PartsRead ps ps' → flat_map my_part ps ≡ flat_map their_part ps' → (p' : KindPart) → Contains ps' p' → IsLike ps p'
  parts_alike ps [] called told same q has = absurd (Contains-nil has)
  parts_alike [] (p' ∷ ps') called told same q has = absurd (no_names p'.step (map (λ (x : KindPart). x.step) ps') called)
  parts_alike (p ∷ ps) (p' ∷ ps') called told same q has =
      let steps = one_step p p' ps ps' called in
      let within_one : my_part p ++ flat_map my_part ps ≡ map (within p.step) (held_features ours back theirs p'.ty) ++ flat_map their_part ps' =
      same ∙ ap (λ (s : List ℕ). map (within s) (held_features ours back theirs p'.ty) ++ flat_map their_part ps') (sym steps.0) in
      let first = read_within_held p.step (held_features others found mine p.ty) (held_features ours back theirs p'.ty) (read_first p p' ps ps' told) (λ x. x) (flat_map my_part ps) (flat_map their_part ps') (λ x. refl)
      (itself (my_part p) (flat_map my_part ps) ∙ (within_one ∙ sym (itself (map (within p.step) (held_features ours back theirs p'.ty)) (flat_map their_part ps')))) in
      elim (Contains-cons_cases p' q ps' has) [
        | inl is ↦ (p, Contains-here p ps, first.0 ∙ ap (λ (x : KindPart). held_features ours back theirs x.ty) is)
        | inr there ↦ let rest = parts_alike ps ps' steps.1 (later p p' ps ps' told) first.1 q there in (rest.0, Contains-there p rest.0 ps rest.1, rest.2)
      ]

  pub record KindsAreAlike (k l : TypeDefKind) : Type 0 where
    pub same : variant_of k ≡ variant_of l
    pub parts : (p' : KindPart) → Contains (kind_parts l) p' → IsLike (kind_parts k) p'

  pub kinds_alike : (t t' : ℕ) (def def' : TypeDef) → slice_get others t ≡ Some def → slice_get ours t' ≡ Some def' → mine t ≡ theirs t' → KindsAreAlike def.kind def'.kind
  kinds_alike t t' def def' at at' same =
      let within = slice_get_within others t def at in
      let within' = slice_get_within ours t' def' at' in
      let kinds : kind_features others found mine def.kind ≡ kind_features ours back theirs def'.kind = sym (structure_at others found acyclic t def within at) ∙ (same ∙ structure_at ours back acyclic' t' def' within' at') in
      let heads = heads_variant def.kind def'.kind (flat_map my_part (kind_parts def.kind)) (flat_map their_part (kind_parts def'.kind)) kinds in
      let tails = read_heads def.kind def'.kind (λ x. x) (flat_map my_part (kind_parts def.kind)) (flat_map their_part (kind_parts def'.kind)) (λ x. refl)
      (itself (head_features def.kind) (flat_map my_part (kind_parts def.kind)) ∙ (kinds ∙ sym (itself (head_features def'.kind) (flat_map their_part (kind_parts def'.kind))))) in
      let told : PartsRead (kind_parts def.kind) (kind_parts def'.kind) = record {
        read = λ p has u holds. let refers = refers_within others acyclic t def p u at has holds in (read_all u refers.1, refers.1);
        inside = λ p has u holds. (refers_within ours acyclic' t' def' p u at' has holds).1;
      } in
      record { same = heads.0; parts = parts_alike (kind_parts def.kind) (kind_parts def'.kind) heads.1 told tails.1 }

  -- where the one holds a type, the other holds one that is matched with what that is, or is of its structure
  pub record IsTypeLike (ty : Option Type_) (u' : ℕ) : Type 0 where
    pub u : ℕ
    pub has : Contains (named_option ty) u
    pub like : (found u ≡ back u') ⊎ (mine u ≡ theirs u')

  held_as : (types : List TypeDef) (matched : ℕ → Option ℕ) (inner : ℕ → List Feature) (t : ℕ) (b : Bool) → is_named types t ≡ b
      → held_features types matched inner (Some (type.Id t)) ≡ (if b then here (named (matched t)) ∷ [] else inner t)
  held_as types matched inner t b is = ap (λ (c : Bool). if c then here (named (matched t)) ∷ [] else inner t) is

  data HeldBy (ty : Option Type_) : Type 0 where
    no_type : (c : Content) → ((o : Option ℕ) → c ≡ named o → ⊥) → is_leaf c ≡ true
        → held_features others found mine ty ≡ here c ∷ [] → HeldBy ty
    a_name : (t : ℕ) → Contains (named_option ty) t
        → held_features others found mine ty ≡ here (named (found t)) ∷ [] → HeldBy ty
    a_structure : (t : ℕ) → Contains (named_option ty) t
        → held_features others found mine ty ≡ mine t → HeldBy ty

  held_by : (ty : Option Type_) → HeldBy ty
  held_by None = no_type absent (λ o is. cc) refl refl
  held_by (Some (type.Id t)) = by (is_named others t) refl
    where
      by : (b : Bool) → is_named others t ≡ b → HeldBy (Some (type.Id t))
      by true is = a_name t (Contains-here t []) (held_as others found mine t true is)
      by false is = a_structure t (Contains-here t []) (held_as others found mine t false is)
  held_by (Some ty) = no_type (primitive ty) (λ o is. cc) refl refl

  one_named : {o p : Option ℕ} → named o ≡ named p → o ≡ p
  one_named same = cc

  pub type_alike : (ty : Option Type_) (u' : ℕ) → ((t : ℕ) → Contains (named_option ty) t → t < length others) → u' < length ours → held_features others found mine ty ≡ held_features ours back theirs (Some (type.Id u')) → IsTypeLike ty u'
  type_alike ty u' there within' same = by (is_named ours u') refl (held_by ty)
    where
      by : (b : Bool) → is_named ours u' ≡ b → HeldBy ty → IsTypeLike ty u'
      by true is (no_type c other leaf holds) = absurd (other (back u') (one_content (sym holds ∙ (same ∙ held_as ours back theirs u' true is))))
      by true is (a_name t has holds) = record { u = t; has = has; like = inl (one_named (one_content (sym holds ∙ (same ∙ held_as ours back theirs u' true is)))) }
      by true is (a_structure t has holds) =
          let start = begins others found acyclic t (there t has) in
          absurd
          (leaf_apart (named (back u')) start.0 refl
          (sym (ap (λ (x : Feature). x.content) (same_heads (here (variant start.0)) (here (named (back u'))) start.1 [] (sym start.2 ∙ (sym holds ∙ (same ∙ held_as ours back theirs u' true is)))).0)))
      by false is (no_type c other leaf holds) =
          let start = begins ours back acyclic' u' within' in
          absurd (leaf_apart c start.0 leaf (ap (λ (x : Feature). x.content) (same_heads (here c) (here (variant start.0)) [] start.1 (sym holds ∙ (same ∙ (held_as ours back theirs u' false is ∙ start.2)))).0))
      by false is (a_name t has holds) =
          let start = begins ours back acyclic' u' within' in
          absurd (leaf_apart (named (found t)) start.0 refl (ap (λ (x : Feature). x.content) (same_heads (here (named (found t))) (here (variant start.0)) [] start.1 (sym holds ∙ (same ∙ (held_as ours back theirs u' false is ∙ start.2)))).0))
      by false is (a_structure t has holds) = record { u = t; has = has; like = inr (sym holds ∙ (same ∙ held_as ours back theirs u' false is)) }
