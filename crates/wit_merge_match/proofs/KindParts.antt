-- The parts of kinds by their variants and their names.
use Rattle.std.proofs.Common.{◌≡◌, ◌∙◌, ℕ, ◌<◌, ◌+◌, zero, suc, Bool, true, false, List, [], ◌∷◌, ◌++◌, length, map, Option, Some, None, slice_get, is_some, unwrap_or, option_and_then, refl, sym, ap, subst, arith, decimal, if◌then◌else◌}
use Rattle.std.specs.List.{enumerate_from, range_with_len}
use Rattle.std.specs.Option.{option_map_or}
use Rattle.std.proofs.lemmas.Bool.{false≢true}
use Rattle.std.proofs.lemmas.List.{length-map}
use Rattle.wit_data.specs.declared.types.Case.{Case}
use Rattle.wit_data.specs.declared.types.EnumCase.{EnumCase}
use Rattle.wit_data.specs.declared.types.Field.{Field}
use Rattle.wit_data.specs.declared.types.Flag.{Flag}
use Rattle.wit_data.specs.declared.types.TypeDefKind.{TypeDefKind}
use Rattle.wit_data.specs.declared.types.Type_.{Type_}
use Rattle.wit_data.specs.declared.kind.Variant.{Variant}
use Rattle.wit_data.specs.declared.types.Handle.TheVariants as handle
use Rattle.wit_data.specs.declared.types.TypeDefKind.TheVariants as kind
use Rattle.wit_merge_spec.specs.facts.DifferenceFacts.{first_behind, first_here}
use Rattle.wit_merge_match.specs.steps.Kinds.{HeadsDiffer, name_at, step_at, steps_of}
use Rattle.wit_data.specs.Kind.{KindPart, fixed_length, kind_parts, named_part, plain_part, variant_of}
use Rattle.wit_data.specs.steps.Kind.{part_name, plain_step}
use Rattle.wit_data.specs.facts.KindFacts.{plain_read}
use Rattle.wit_data.specs.declared.kind.PartRole.TheVariants.{Value}
use Rattle.wit_merge_spec.specs.Structure.{Content, Feature, FirstDifference, fixed, head_features, here, names, variant}
use Rattle.wit_merge_match.specs.declared.heads.Ending.TheVariants.{Kinds, Lengths, Names}
use Rattle.wit_data.specs.declared.kind.Variant.TheVariants as variants

-- have the parts of such kinds names?
abbrev pub has_names : Variant → Bool
has_names variants.Record = true
has_names variants.Flags = true
has_names variants.Variant_ = true
has_names variants.Enum = true
has_names other = false

-- ---- parts without names

abbrev tuple_parts : ℕ → List Type_ → List KindPart
tuple_parts n types = map (λ (e : ℕ × Type_). plain_part Value (decimal e.0) (Some e.1)) (enumerate_from n types)

tuple_steps : (n : ℕ) (types : List Type_) → map (λ (p : KindPart). p.step) (tuple_parts n types) ≡ map (plain_step variants.Tuple) (range_with_len n (length (tuple_parts n types)))
tuple_steps n [] = refl
tuple_steps n (ty ∷ types) = ap (λ (steps : List (List ℕ)). decimal n ∷ steps) (tuple_steps (n + 1) types)

-- what they are called
steps_plain : (k : TypeDefKind) → has_names (variant_of k) ≡ false → steps_of k ≡ map (plain_step (variant_of k)) (range_with_len 0 (length (kind_parts k)))
steps_plain (kind.Record fields) plain = absurd (false≢true (sym plain))
steps_plain (kind.Handle (handle.Own t)) plain = refl
steps_plain (kind.Handle (handle.Borrow t)) plain = refl
steps_plain (kind.Flags flags) plain = absurd (false≢true (sym plain))
steps_plain (kind.Tuple types) plain = tuple_steps 0 types
steps_plain (kind.Variant cases) plain = absurd (false≢true (sym plain))
steps_plain (kind.Enum cases) plain = absurd (false≢true (sym plain))
steps_plain other plain = refl

range_at : (a n i : ℕ) → i < n → slice_get (range_with_len a n) i ≡ Some (a + i)
range_at a zero i below = absurd (omega (arith, below))
range_at a (suc n) zero below = ap (λ (k : ℕ). Some k) (omega arith)
range_at a (suc n) (suc i) below = range_at (a + 1) n i (omega (arith, below)) ∙ ap (λ (k : ℕ). Some k) (omega arith)

mapped_at : (f : ℕ → List ℕ) (a n i : ℕ) → i < n → slice_get (map f (range_with_len a n)) i ≡ Some (f (a + i))
mapped_at f a zero i below = absurd (omega (arith, below))
mapped_at f a (suc n) zero below = ap (λ (k : ℕ). Some (f k)) (omega arith)
mapped_at f a (suc n) (suc i) below = mapped_at f (a + 1) n i (omega (arith, below)) ∙ ap (λ (k : ℕ). Some (f k)) (omega arith)

-- and one of them
pub step_plain : (k : TypeDefKind) (i : ℕ) → has_names (variant_of k) ≡ false → i < length (kind_parts k) → step_at k i ≡ plain_step (variant_of k) i
step_plain k i plain below =
    let at : slice_get (steps_of k) i ≡ Some (plain_step (variant_of k) (0 + i)) =
    ap (λ (steps : List (List ℕ)). slice_get steps i) (steps_plain k plain) ∙ mapped_at (plain_step (variant_of k)) 0 (length (kind_parts k)) i below in
    unwrapped (slice_get (steps_of k) i) (plain_step (variant_of k) (0 + i)) at ∙ ap (plain_step (variant_of k)) (omega arith)
  where
    unwrapped : (o : Option (List ℕ)) (step : List ℕ) → o ≡ Some step → unwrap_or o [] ≡ step
    unwrapped o step is = ap (λ (p : Option (List ℕ)). unwrap_or p []) is

-- ---- names

-- parts that have names are called by them
named_steps : {X : Type 0} (make : X → KindPart) → ((x : X) → part_name (make x) ≡ Some (make x).step) → (xs : List X) (i : ℕ)
    → option_and_then part_name (slice_get (map make xs) i) ≡ slice_get (map (λ (p : KindPart). p.step) (map make xs)) i
named_steps make named [] i = refl
named_steps make named (x ∷ xs) zero = named x
named_steps make named (x ∷ xs) (suc i) = named_steps make named xs i

-- the variant tells whether parts have names
name_is : (k : TypeDefKind) (i : ℕ) → name_at k i ≡ (if has_names (variant_of k) then slice_get (steps_of k) i else None)
name_is (kind.Record fields) i = named_steps (λ (f : Field). named_part f.name (Some f.ty) f.span) (λ f. refl) fields i
name_is (kind.Flags flags) i = named_steps (λ (f : Flag). named_part f.name None f.span) (λ f. refl) flags i
name_is (kind.Variant cases) i = named_steps (λ (c : Case). named_part c.name c.ty c.span) (λ c. refl) cases i
name_is (kind.Enum cases) i = named_steps (λ (c : EnumCase). named_part c.name None c.span) (λ c. refl) cases i
name_is (kind.Handle (handle.Own t)) i = sym (plain_read part_name (λ role step ty. refl) (kind.Handle (handle.Own t)) (λ xs is. cc) (λ xs is. cc) (λ xs is. cc) (λ xs is. cc) i)
name_is (kind.Handle (handle.Borrow t)) i = sym (plain_read part_name (λ role step ty. refl) (kind.Handle (handle.Borrow t)) (λ xs is. cc) (λ xs is. cc) (λ xs is. cc) (λ xs is. cc) i)
name_is other i = sym (plain_read part_name (λ role step ty. refl) other (λ xs is. cc) (λ xs is. cc) (λ xs is. cc) (λ xs is. cc) i)

-- a part with a name is called by it
pub step_named : (k : TypeDefKind) (i : ℕ) (name : List ℕ) → name_at k i ≡ Some name → step_at k i ≡ name
step_named k i name is = by (has_names (variant_of k)) (sym (name_is k i) ∙ is)
  where
    by : (b : Bool) → (if b then slice_get (steps_of k) i else None) ≡ Some name → unwrap_or (slice_get (steps_of k) i) [] ≡ name
    by true is = ap (λ (o : Option (List ℕ)). unwrap_or o []) is
    by false is = cc

-- a part that is there and has no name is one of a kind without names
step_there : (xs : List (List ℕ)) (i : ℕ) → i < length xs → slice_get xs i ≡ None → ⊥
step_there [] i below none = absurd (omega (arith, below))
step_there (x ∷ xs) zero below none = cc
step_there (x ∷ xs) (suc i) below none = step_there xs i (omega (arith, below)) none

pub no_name : (k : TypeDefKind) (i : ℕ) → i < length (kind_parts k) → name_at k i ≡ None → has_names (variant_of k) ≡ false
no_name k i below is = by (has_names (variant_of k)) (sym (name_is k i) ∙ is)
  where
    by : (b : Bool) → (if b then slice_get (steps_of k) i else None) ≡ None → b ≡ false
    by true is = absurd (step_there (steps_of k) i (omega (arith, below, length-map (kind_parts k) (λ (p : KindPart). p.step))) is)
    by false is = refl

-- ---- the same parts

lists_same : (xs ys : List (List ℕ)) → length xs ≡ length ys → ((i : ℕ) → i < length xs → slice_get xs i ≡ slice_get ys i) → xs ≡ ys
lists_same [] [] long each = refl
lists_same [] (y ∷ ys) long each = absurd (omega (arith, long))
lists_same (x ∷ xs) [] long each = absurd (omega (arith, long))
lists_same (x ∷ xs) (y ∷ ys) long each =
    let first : Some x ≡ Some y = each 0 (omega arith) in
    let rest : xs ≡ ys = lists_same xs ys (omega (arith, long)) (λ i below. each (suc i) (omega (arith, below))) in
    cc

module _ (k k' : TypeDefKind) (one : variant_of k ≡ variant_of k') where
  -- of kinds with the same steps parts have the same names
  pub same_names : steps_of k ≡ steps_of k' → (i : ℕ) → name_at k i ≡ name_at k' i
  same_names same i =
      name_is k i
      ∙ (ap (λ (v : Variant). if has_names v then slice_get (steps_of k) i else None) one
      ∙ (ap (λ (steps : List (List ℕ)). if has_names (variant_of k') then slice_get steps i else None) same ∙ sym (name_is k' i)))

  steps_long : (j : TypeDefKind) → length (steps_of j) ≡ length (kind_parts j)
  steps_long j = length-map (kind_parts j) (λ (p : KindPart). p.step)

  steps_by : (b : Bool) → has_names (variant_of k) ≡ b → length (kind_parts k) ≡ length (kind_parts k') → ((i : ℕ) → i < length (kind_parts k) → name_at k i ≡ name_at k' i) → steps_of k ≡ steps_of k'
  steps_by true named long each =
      lists_same (steps_of k) (steps_of k') (steps_long k ∙ (long ∙ sym (steps_long k')))
      (λ i below.
      let from : (if has_names (variant_of k) then slice_get (steps_of k) i else None) ≡ slice_get (steps_of k) i = ap (λ (b : Bool). if b then slice_get (steps_of k) i else None) named in
      let into : (if has_names (variant_of k') then slice_get (steps_of k') i else None) ≡ slice_get (steps_of k') i = ap (λ (b : Bool). if b then slice_get (steps_of k') i else None) (sym (ap has_names one) ∙ named) in
      sym from ∙ ((sym (name_is k i) ∙ (each i (omega (arith, below, steps_long k)) ∙ name_is k' i)) ∙ into))
  steps_by false plain long each =
      steps_plain k plain
      ∙ (ap (λ (v : Variant). map (plain_step v) (range_with_len 0 (length (kind_parts k)))) one
      ∙ (ap (λ (n : ℕ). map (plain_step (variant_of k')) (range_with_len 0 n)) long ∙ sym (steps_plain k' (sym (ap has_names one) ∙ plain))))

  -- and where as many have the same names, they have the same steps
  pub same_steps : length (kind_parts k) ≡ length (kind_parts k') → ((i : ℕ) → i < length (kind_parts k) → name_at k i ≡ name_at k' i) → steps_of k ≡ steps_of k'
  same_steps long each = steps_by (has_names (variant_of k)) refl long each

  pub same_count : steps_of k ≡ steps_of k' → length (kind_parts k) ≡ length (kind_parts k')
  same_count same = sym (steps_long k) ∙ (ap (λ (steps : List (List ℕ)). length steps) same ∙ steps_long k')

-- ---- heads

abbrev length_feature : Option ℕ → List Feature
length_feature o = option_map_or (λ len. here (fixed len) ∷ []) o []

pub heads_same : (k k' : TypeDefKind) → variant_of k ≡ variant_of k' → steps_of k ≡ steps_of k' → fixed_length k ≡ fixed_length k' → head_features k ≡ head_features k'
heads_same k k' one steps lengths =
    ap (λ (v : Variant). here (variant v) ∷ here (names (steps_of k)) ∷ length_feature (fixed_length k)) one
    ∙ (ap (λ (s : List (List ℕ)). here (variant (variant_of k')) ∷ here (names s) ∷ length_feature (fixed_length k)) steps
    ∙ ap (λ (o : Option ℕ). here (variant (variant_of k')) ∷ here (names (steps_of k')) ∷ length_feature o) lengths)

content_same : (a b : Content) → here a ≡ here b → a ≡ b
content_same a b same = ap (λ (f : Feature). f.content) same

pub variants_differ : (k k' : TypeDefKind) → (variant_of k ≡ variant_of k' → ⊥) → HeadsDiffer k k' Kinds
variants_differ k k' apart = record {
  a = variant (variant_of k);
  b = variant (variant_of k');
  first = first_here (here (variant (variant_of k))) (here (variant (variant_of k'))) _ _
      (λ same. let contents = content_same (variant (variant_of k)) (variant (variant_of k')) same in apart (cc));
  text_is = refl;
}

pub names_differ : (k k' : TypeDefKind) → variant_of k ≡ variant_of k' → (steps_of k ≡ steps_of k' → ⊥) → HeadsDiffer k k' Names
names_differ k k' one apart = record {
  a = names (steps_of k);
  b = names (steps_of k');
  first = first_behind (here (variant (variant_of k)) ∷ []) (here (variant (variant_of k')) ∷ []) _ _ _ _ (ap (λ (v : Variant). here (variant v) ∷ []) one)
      (first_here (here (names (steps_of k))) (here (names (steps_of k'))) (length_feature (fixed_length k)) (length_feature (fixed_length k'))
      (λ same. let contents = content_same (names (steps_of k)) (names (steps_of k')) same in apart (cc)));
  text_is = refl;
}

is_fixed : Variant → Bool
is_fixed variants.FixedLengthList = true
is_fixed other = false

fixed_by : (k : TypeDefKind) → is_some (fixed_length k) ≡ is_fixed (variant_of k)
unfolding is_fixed
fixed_by (kind.Handle (handle.Own t)) = refl
fixed_by (kind.Handle (handle.Borrow t)) = refl
fixed_by other = refl

pub lengths_differ : (k k' : TypeDefKind) → variant_of k ≡ variant_of k' → steps_of k ≡ steps_of k' → (fixed_length k ≡ fixed_length k' → ⊥) → HeadsDiffer k k' Lengths
lengths_differ k k' one steps apart = by (fixed_length k) (fixed_length k') refl refl
  where
    both : is_some (fixed_length k) ≡ is_some (fixed_length k')
    both = fixed_by k ∙ (ap is_fixed one ∙ sym (fixed_by k'))

    by : (o o' : Option ℕ) → fixed_length k ≡ o → fixed_length k' ≡ o' → HeadsDiffer k k' Lengths
    by None None is is' = absurd (apart (is ∙ sym is'))
    by None (Some b) is is' = absurd (false≢true (sym (ap is_some is) ∙ (both ∙ ap is_some is')))
    by (Some a) None is is' = absurd (false≢true (sym (ap is_some is') ∙ (sym both ∙ ap is_some is)))
    by (Some a) (Some b) is is' = record {
      a = fixed a;
      b = fixed b;
      first = first_behind (here (variant (variant_of k)) ∷ here (names (steps_of k)) ∷ []) (here (variant (variant_of k')) ∷ here (names (steps_of k')) ∷ []) (length_feature (fixed_length k)) (length_feature (fixed_length k')) _ _
          (ap (λ (v : Variant). here (variant v) ∷ here (names (steps_of k)) ∷ []) one ∙ ap (λ (s : List (List ℕ)). here (variant (variant_of k')) ∷ here (names s) ∷ []) steps)
          (subst (λ (xs : List Feature). FirstDifference xs (length_feature (fixed_length k')) (here (fixed a)) (here (fixed b))) (sym (ap length_feature is))
          (subst (λ (ys : List Feature). FirstDifference (here (fixed a) ∷ []) ys (here (fixed a)) (here (fixed b))) (sym (ap length_feature is'))
          (first_here (here (fixed a)) (here (fixed b)) [] [] (λ same. let contents = content_same (fixed a) (fixed b) same in let numbers : a ≡ b = cc in apart (is ∙ (ap (λ (n : ℕ). Some n) numbers ∙ sym is'))))));
      text_is = refl;
    }
