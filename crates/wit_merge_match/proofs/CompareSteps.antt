-- How what two parts hold compares, by what their types are.
use Rattle.std.proofs.Common.{◌≡◌, ◌∙◌, ℕ, ◌<◌, ◌+◌, ◌-◌, zero, suc, Bool, true, false, List, [], ◌∷◌, ◌++◌, length, is_some, nat_lt, Option, Some, None, refl, sym, ap, subst, arith, Contains, if◌then◌else◌}
use Rattle.std.specs.List.{flat_map}
use Rattle.std.proofs.lemmas.Bool.{false≢true}
use Rattle.std.proofs.lemmas.Bool.Decides.{Decides-ltb}
use Rattle.wit_data.specs.declared.types.TypeDef.{TypeDef}
use Rattle.wit_data.specs.declared.types.Type_.{Type_}
use Rattle.wit_data.specs.declared.types.Type_.TheVariants as type
use Rattle.wit_digraph.specs.Relation.{IsAcyclic}
use Rattle.wit_data.specs.Kind.{type_references, variant_of}
use Rattle.wit_merge_match.specs.steps.ComparisonSteps.{AreSides, AreThere, DifferHere, from_held, from_structure, id_of, into_held, into_structure, kind_at, matched_by, structure_of}
use Rattle.wit_merge_spec.specs.facts.DifferenceFacts.{first_front, first_here}
use Rattle.wit_merge_match.specs.steps.Kinds.{HeadsDiffer, ending_text}
use Rattle.wit_merge_spec.specs.Structure.{Content, Feature, FirstDifference, absent, difference_text, head_features, held_features, here, is_named, kind_features, named, primitive, structure, variant}
use Rattle.wit_merge_match.specs.declared.comparison.Sides.{Sides}
use Rattle.wit_merge_match.specs.declared.heads.Ending.{Ending}
use Rattle.wit_merge_match.specs.declared.heads.Ending.TheVariants.{Kinds, Types}
use Rattle.wit_merge_match.proofs.WalkSteps.{structure_is}
use Rattle.wit_merge_spec.specs.steps.Parts.{part_features}

content_same : (a b : Content) → here a ≡ here b → a ≡ b
content_same a b same = ap (λ (f : Feature). f.content) same

-- two lists that begin with different contents
begin_apart : (xs ys : List Feature) (a b : Content) (rest rest' : List Feature) (e : Ending) → xs ≡ here a ∷ rest → ys ≡ here b ∷ rest' → (a ≡ b → ⊥) → ending_text e ≡ difference_text a b → DifferHere xs ys e
begin_apart xs ys a b rest rest' e xs_are ys_are apart text = record {
  a = a;
  b = b;
  first =
      subst (λ (l : List Feature). FirstDifference l ys (here a) (here b)) (sym xs_are)
      (subst (λ (l : List Feature). FirstDifference (here a ∷ rest) l (here a) (here b)) (sym ys_are) (first_here (here a) (here b) rest rest' (λ same. apart (content_same a b same))));
  text_is = text;
}

module _ (types : List TypeDef) (matched : ℕ → Option ℕ) where
  named_held : (t : ℕ) → is_named types t ≡ true → held_features types matched (structure types matched) (Some (type.Id t)) ≡ here (named (matched t)) ∷ []
  named_held t is = ap (λ (b : Bool). if b then here (named (matched t)) ∷ [] else structure types matched t) is

  unnamed_held : (t : ℕ) → is_named types t ≡ false → held_features types matched (structure types matched) (Some (type.Id t)) ≡ structure types matched t
  unnamed_held t is = ap (λ (b : Bool). if b then here (named (matched t)) ∷ [] else structure types matched t) is

  primitive_held : (ty : Type_) → id_of ty ≡ None → held_features types matched (structure types matched) (Some ty) ≡ here (primitive ty) ∷ []
  primitive_held (type.Id t) none = cc
  primitive_held ty none = refl

  -- what a type's structure begins with
  structure_begins : IsAcyclic (type_references types) → (t : ℕ) → t < length types → (rest : List Feature) × (structure types matched t ≡ here (variant (variant_of (kind_at types t))) ∷ rest)
  structure_begins acyclic t below = (_, structure_is types acyclic matched t below)

  -- what a part with a type begins with: never with nothing
  pub record Begins (ty : Type_) : Type 0 where
    pub first : Content
    pub rest : List Feature
    pub held_is : held_features types matched (structure types matched) (Some ty) ≡ here first ∷ rest
    pub some : first ≡ absent → ⊥
    pub before : difference_text absent first ≡ ending_text Kinds
    pub behind : difference_text first absent ≡ ending_text Kinds

  -- that of a type of the list is no primitive
  pub record BeginsId (t : ℕ) : Type 0 where
    pub first : Content
    pub rest : List Feature
    pub held_is : held_features types matched (structure types matched) (Some (type.Id t)) ≡ here first ∷ rest
    pub other : (p : Type_) → first ≡ primitive p → ⊥
    pub some : first ≡ absent → ⊥
    pub before : (p : Type_) → difference_text (primitive p) first ≡ ending_text Kinds
    pub behind : (p : Type_) → difference_text first (primitive p) ≡ ending_text Kinds
    pub before_none : difference_text absent first ≡ ending_text Kinds
    pub behind_none : difference_text first absent ≡ ending_text Kinds

  begins_id : IsAcyclic (type_references types) → (t : ℕ) → t < length types → BeginsId t
  begins_id acyclic t below = by (is_named types t) refl
    where
      by : (b : Bool) → is_named types t ≡ b → BeginsId t
      by true is = record {
        first = named (matched t);
        rest = [];
        held_is = named_held t is;
        other = λ p same. (cc);
        some = λ same. (cc);
        before = λ p. refl;
        behind = λ p. refl;
        before_none = refl;
        behind_none = refl;
      }
      by false is = let begin = structure_begins acyclic t below in record {
        first = variant (variant_of (kind_at types t));
        rest = begin.0;
        held_is = unnamed_held t is ∙ begin.1;
        other = λ p same. (cc);
        some = λ same. (cc);
        before = λ p. refl;
        behind = λ p. refl;
        before_none = refl;
        behind_none = refl;
      }

  begins : IsAcyclic (type_references types) → (ty : Type_) → AreThere types (Some ty) → Begins ty
  begins acyclic (type.Id t) there = let b = begins_id acyclic t (there t (0, omega arith, refl)) in record { first = b.first; rest = b.rest; held_is = b.held_is; some = b.some; before = b.before_none; behind = b.behind_none }
  begins acyclic ty there = record { first = primitive ty; rest = []; held_is = refl; some = λ same. (cc); before = refl; behind = refl }

pub id_is : (ty : Type_) (t : ℕ) → id_of ty ≡ Some t → ty ≡ type.Id t
id_is (type.Id u) t is = let same : u ≡ t = cc in ap (λ (v : ℕ). type.Id v) same
id_is ty t is = cc

-- what a part names is there
pub there_of : (types : List TypeDef) (ty : Type_) (t : ℕ) → AreThere types (Some ty) → id_of ty ≡ Some t → t < length types
there_of types ty t there is = subst (λ (r : Type_). AreThere types (Some r)) (id_is ty t is) there t (0, omega arith, refl)

module _ (s : Sides) (sides : AreSides s) where
  -- ---- a part without a type

  pub none_some : (ty : Type_) → AreThere s.into.now (Some ty) → DifferHere (from_held s None) (into_held s (Some ty)) Kinds
  none_some ty there = let b = begins s.into.now Some sides.into ty there in begin_apart _ _ absent b.first [] b.rest Kinds refl b.held_is (λ same. b.some (sym same)) (sym b.before)

  pub some_none : (ty : Type_) → AreThere s.from.now (Some ty) → DifferHere (from_held s (Some ty)) (into_held s None) Kinds
  some_none ty there = let b = begins s.from.now (matched_by s) sides.from ty there in begin_apart _ _ b.first absent b.rest [] Kinds b.held_is refl b.some (sym b.behind)

  -- ---- primitives

  pub primitives_same : (p q : Type_) → id_of p ≡ None → p ≡ q → from_held s (Some p) ≡ into_held s (Some q)
  primitives_same p q none same =
      primitive_held s.from.now (matched_by s) p none ∙ (ap (λ (r : Type_). here (primitive r) ∷ []) same ∙ sym (primitive_held s.into.now Some q (sym (ap id_of same) ∙ none)))

  pub primitives_apart : (p q : Type_) → id_of p ≡ None → id_of q ≡ None → (p ≡ q → ⊥) → DifferHere (from_held s (Some p)) (into_held s (Some q)) Kinds
  primitives_apart p q none none' apart =
      begin_apart _ _ (primitive p) (primitive q) [] [] Kinds (primitive_held s.from.now (matched_by s) p none) (primitive_held s.into.now Some q none') (λ same. apart (cc)) refl

  pub primitive_id : (p q : Type_) (t : ℕ) → id_of p ≡ None → id_of q ≡ Some t → AreThere s.into.now (Some q) → DifferHere (from_held s (Some p)) (into_held s (Some q)) Kinds
  primitive_id p q t none is there =
      let q_is = id_is q t is in
      let b = begins_id s.into.now Some sides.into t (subst (λ (r : Type_). AreThere s.into.now (Some r)) q_is there t (0, omega arith, refl)) in
      subst (λ (r : Type_). DifferHere (from_held s (Some p)) (into_held s (Some r)) Kinds) (sym q_is)
      (begin_apart _ _ (primitive p) b.first [] b.rest Kinds (primitive_held s.from.now (matched_by s) p none) b.held_is (λ same. b.other p (sym same)) (sym (b.before p)))

  pub id_primitive : (p q : Type_) (t : ℕ) → id_of p ≡ Some t → id_of q ≡ None → AreThere s.from.now (Some p) → DifferHere (from_held s (Some p)) (into_held s (Some q)) Kinds
  id_primitive p q t is none there =
      let p_is = id_is p t is in
      let b = begins_id s.from.now (matched_by s) sides.from t (subst (λ (r : Type_). AreThere s.from.now (Some r)) p_is there t (0, omega arith, refl)) in
      subst (λ (r : Type_). DifferHere (from_held s (Some r)) (into_held s (Some q)) Kinds) (sym p_is)
      (begin_apart _ _ b.first (primitive q) b.rest [] Kinds b.held_is (primitive_held s.into.now Some q none) (b.other q) (sym (b.behind q)))

  -- so by what is known of the two
  pub id_primitive_by : (p q : Type_) → is_some (id_of p) ≡ true → id_of q ≡ None → AreThere s.from.now (Some p) → DifferHere (from_held s (Some p)) (into_held s (Some q)) Kinds
  id_primitive_by p q some none there = by (id_of p) refl
    where
      by : (o : Option ℕ) → id_of p ≡ o → DifferHere (from_held s (Some p)) (into_held s (Some q)) Kinds
      by None is = absurd (false≢true (sym (ap is_some is) ∙ some))
      by (Some t) is = id_primitive p q t is none there

  pub primitive_id_by : (p q : Type_) → id_of p ≡ None → is_some (id_of q) ≡ true → AreThere s.into.now (Some q) → DifferHere (from_held s (Some p)) (into_held s (Some q)) Kinds
  primitive_id_by p q none some there = by (id_of q) refl
    where
      by : (o : Option ℕ) → id_of q ≡ o → DifferHere (from_held s (Some p)) (into_held s (Some q)) Kinds
      by None is = absurd (false≢true (sym (ap is_some is) ∙ some))
      by (Some t) is = primitive_id p q t none is there

  pub some_none_by : (one other : Option Type_) → is_some one ≡ true → other ≡ None → AreThere s.from.now one → DifferHere (from_held s one) (into_held s other) Kinds
  some_none_by None other some none there = absurd (false≢true some)
  some_none_by (Some ty) other some none there = subst (λ (o : Option Type_). DifferHere (from_held s (Some ty)) (into_held s o) Kinds) (sym none) (some_none ty there)

  pub none_some_by : (one other : Option Type_) → one ≡ None → is_some other ≡ true → AreThere s.into.now other → DifferHere (from_held s one) (into_held s other) Kinds
  none_some_by one None none some there = absurd (false≢true some)
  none_some_by one (Some ty) none some there = subst (λ (o : Option Type_). DifferHere (from_held s o) (into_held s (Some ty)) Kinds) (sym none) (none_some ty there)

  -- ---- types of the lists

  module _ (t t' : ℕ) where
    pub names_same : is_named s.from.now t ≡ true → is_named s.into.now t' ≡ true → matched_by s t ≡ Some t' → from_held s (Some (type.Id t)) ≡ into_held s (Some (type.Id t'))
    names_same is is' same = named_held s.from.now (matched_by s) t is ∙ (ap (λ (o : Option ℕ). here (named o) ∷ []) same ∙ sym (named_held s.into.now Some t' is'))

    pub names_apart : is_named s.from.now t ≡ true → is_named s.into.now t' ≡ true → (matched_by s t ≡ Some t' → ⊥) → DifferHere (from_held s (Some (type.Id t))) (into_held s (Some (type.Id t'))) Types
    names_apart is is' apart =
        begin_apart _ _ (named (matched_by s t)) (named (Some t')) [] [] Types (named_held s.from.now (matched_by s) t is) (named_held s.into.now Some t' is') (λ same. apart (cc)) refl

    pub name_alone : is_named s.from.now t ≡ true → is_named s.into.now t' ≡ false → t' < length s.into.now → DifferHere (from_held s (Some (type.Id t))) (into_held s (Some (type.Id t'))) Kinds
    name_alone is is' below =
        let begin = structure_begins s.into.now Some sides.into t' below in
        begin_apart _ _ (named (matched_by s t)) (variant (variant_of (kind_at s.into.now t'))) [] begin.0 Kinds (named_held s.from.now (matched_by s) t is) (unnamed_held s.into.now Some t' is' ∙ begin.1) (λ same. (cc)) refl

    pub name_there : is_named s.from.now t ≡ false → is_named s.into.now t' ≡ true → t < length s.from.now → DifferHere (from_held s (Some (type.Id t))) (into_held s (Some (type.Id t'))) Kinds
    name_there is is' below =
        let begin = structure_begins s.from.now (matched_by s) sides.from t below in
        begin_apart _ _ (variant (variant_of (kind_at s.from.now t))) (named (Some t')) begin.0 [] Kinds (unnamed_held s.from.now (matched_by s) t is ∙ begin.1) (named_held s.into.now Some t' is') (λ same. (cc)) refl

    -- ---- without names

    pub from_is : is_named s.from.now t ≡ false → from_held s (Some (type.Id t)) ≡ from_structure s t
    from_is = unnamed_held s.from.now (matched_by s) t

    pub into_is : is_named s.into.now t' ≡ false → into_held s (Some (type.Id t')) ≡ into_structure s t'
    into_is = unnamed_held s.into.now Some t'

    pub kinds_apart : is_named s.from.now t ≡ false → is_named s.into.now t' ≡ false → t < length s.from.now → t' < length s.into.now → (e : Ending) → HeadsDiffer (kind_at s.from.now t) (kind_at s.into.now t') e
        → DifferHere (from_held s (Some (type.Id t))) (into_held s (Some (type.Id t'))) e
    kinds_apart is is' below below' e heads = record {
      a = heads.a;
      b = heads.b;
      first =
          subst (λ (l : List Feature). FirstDifference l (into_held s (Some (type.Id t'))) (here heads.a) (here heads.b)) (sym (from_is is ∙ structure_is s.from.now sides.from (matched_by s) t below))
          (subst (λ (l : List Feature). FirstDifference (kind_features s.from.now (matched_by s) (from_structure s) (kind_at s.from.now t)) l (here heads.a) (here heads.b)) (sym (into_is is' ∙ structure_is s.into.now sides.into Some t' below'))
          (first_front (head_features (kind_at s.from.now t)) (head_features (kind_at s.into.now t')) _ _ (here heads.a) (here heads.b) heads.first));
      text_is = heads.text_is;
    }

    -- the structures by their numbers
    pub of_from : t < length s.from.now → structure_of s t ≡ from_structure s t
    of_from below = ap (λ (b : Bool). if b then from_structure s t else into_structure s (t - length s.from.now)) ((Decides-ltb t (length s.from.now)).1 below)

    pub of_into : structure_of s (length s.from.now + t') ≡ into_structure s t'
    of_into = by (nat_lt (length s.from.now + t') (length s.from.now)) refl
      where
        by : (b : Bool) → nat_lt (length s.from.now + t') (length s.from.now) ≡ b
            → (if b then from_structure s (length s.from.now + t') else into_structure s (length s.from.now + t' - length s.from.now)) ≡ into_structure s t'
        by true is = absurd (omega (arith, (Decides-ltb (length s.from.now + t') (length s.from.now)).0 is))
        by false is = ap (into_structure s) (omega arith)
