-- The worked examples.
use Rattle.std.proofs.Common.{◌≡◌, ◌∙◌, ℕ, suc, List, [], ◌∷◌, ◌++◌, drop, take, codes, decimal, Some, None, refl, sym, ap, subst, arith, lit<}
use Rattle.std.proofs.lemmas.Fmt.{decimal_digit}
use Rattle.wit_values.specs.facts.Lists.{differ}
use Rattle.wit_data.specs.declared.types.TypeDef.{TypeDef}
use Rattle.wit_data.specs.declared.types.TypeDefKind.{TypeDefKind}
use Rattle.wit_data.specs.declared.types.TypeDefKind.TheVariants as kind
use Rattle.wit_data.specs.declared.types.Type_.TheVariants as type
use Rattle.wit_merge_spec.specs.facts.DifferenceFacts.{first_here, one_first, same_no_first}
use Rattle.wit_merge_spec.specs.examples.StructureExamples.{Differ, ExamplesOfHeads, ExamplesOfParts, ExamplesOfTypes, ExamplesOfVariants, bytes, record_ab, shorts, with_name, without_name}
use Rattle.wit_merge_spec.specs.Structure.{Content, DifferInStructure, Feature, FirstDifference, absent, difference_text, fixed, named, names, path_text, primitive, structure, structure_within, variant}
use Rattle.wit_data.specs.declared.kind.Variant.TheVariants as variants

-- a difference at a place of two lists
at_place : (n : ℕ) (xs ys : List Feature) (x y : Feature) → xs ≡ take n xs ++ (x ∷ drop (suc n) xs) → ys ≡ take n ys ++ (y ∷ drop (suc n) ys) → take n xs ≡ take n ys → (x.content ≡ y.content → ⊥) → FirstDifference xs ys x y
at_place n xs ys x y xs_are ys_are same apart = record {
  before = take n xs;
  after = drop (suc n) xs;
  after' = drop (suc n) ys;
  xs_are = xs_are;
  ys_are = ys_are ∙ ap (λ (front : List Feature). front ++ (y ∷ drop (suc n) ys)) (sym same);
  apart = λ equal. apart (ap (λ (f : Feature). f.content) equal);
}

-- so of two types
told : (n : ℕ) (others ours : List TypeDef) (path : List (List ℕ)) (a b : Content)
    → structure others Some 0 ≡ take n (structure others Some 0) ++ (record { path = path; content = a } ∷ drop (suc n) (structure others Some 0))
    → structure ours Some 0 ≡ take n (structure ours Some 0) ++ (record { path = path; content = b } ∷ drop (suc n) (structure ours Some 0)) → take n (structure others Some 0) ≡ take n (structure ours Some 0) → (a ≡ b → ⊥)
    → DifferInStructure others ours Some 0 0 (path_text path ++ difference_text a b)
told n others ours path a b xs_are ys_are same apart = record {
  x = record { path = path; content = a };
  y = record { path = path; content = b };
  first = at_place n (structure others Some 0) (structure ours Some 0) (record { path = path; content = a }) (record { path = path; content = b }) xs_are ys_are same apart;
  text_is = refl;
}

pub of_variants : ExamplesOfVariants
unfolding structure structure_within
of_variants = record {
  own_and_borrow = told 0 _ _ [] (variant variants.Own) (variant variants.Borrow) refl refl refl (λ same. (cc));
  owns = refl;
  resources = refl;
  resource_and_number = told 0 _ _ [] (variant variants.Resource) (variant variants.Alias) refl refl refl (λ same. (cc));
  record_and_variant = told 0 _ _ [] (variant variants.Record) (variant variants.Variant_) refl refl refl (λ same. (cc));
  flags_and_enum = told 0 _ _ [] (variant variants.Flags) (variant variants.Enum) refl refl refl (λ same. (cc));
  list_and_option = told 0 _ _ [] (variant variants.List) (variant variants.Option) refl refl refl (λ same. (cc));
  list_and_fixed = told 0 _ _ [] (variant variants.List) (variant variants.FixedLengthList) refl refl refl (λ same. (cc));
  future_and_stream = told 0 _ _ [] (variant variants.Future) (variant variants.Stream) refl refl refl (λ same. (cc));
}

-- lists of names that differ in their first, or in their number
first_names : (a b : List ℕ) (more more' : List (List ℕ)) → (a ≡ b → ⊥) → names (a ∷ more) ≡ names (b ∷ more') → ⊥
first_names a b more more' apart same = apart (cc)

fewer_names : (a b c : List ℕ) (cs : List (List ℕ)) → names (a ∷ []) ≡ names (b ∷ c ∷ cs) → ⊥
fewer_names a b c cs same = cc

more_names : (a b c : List ℕ) (cs : List (List ℕ)) → names (b ∷ c ∷ cs) ≡ names (a ∷ []) → ⊥
more_names a b c cs same = cc

some_names : (a : List ℕ) (more : List (List ℕ)) → names (a ∷ more) ≡ names [] → ⊥
some_names a more same = cc

apart_lengths : (a b : ℕ) → (a ≡ b → ⊥) → fixed a ≡ fixed b → ⊥
apart_lengths a b apart same = apart (cc)

pub of_heads : ExamplesOfHeads
unfolding structure structure_within
of_heads = record {
  field_names = told 1 _ _ [] (names (codes "a" ∷ [])) (names (codes "b" ∷ [])) refl refl refl (first_names (codes "a") (codes "b") [] [] (differ (codes "a") (codes "b") refl));
  field_count = told 1 _ _ [] (names (codes "a" ∷ [])) (names (codes "a" ∷ codes "b" ∷ [])) refl refl refl (fewer_names (codes "a") (codes "a") (codes "b") []);
  field_order = told 1 _ _ [] (names (codes "a" ∷ codes "b" ∷ [])) (names (codes "b" ∷ codes "a" ∷ [])) refl refl refl (first_names (codes "a") (codes "b") (codes "b" ∷ []) (codes "a" ∷ []) (differ (codes "a") (codes "b") refl));
  names_first = told 1 _ _ [] (names (codes "a" ∷ codes "b" ∷ [])) (names (codes "a" ∷ [])) refl refl refl (more_names (codes "a") (codes "a") (codes "b") []);
  case_names = told 1 _ _ [] (names (codes "a" ∷ [])) (names (codes "b" ∷ [])) refl refl refl (first_names (codes "a") (codes "b") [] [] (differ (codes "a") (codes "b") refl));
  flag_names = told 1 _ _ [] (names (codes "a" ∷ [])) (names (codes "b" ∷ [])) refl refl refl (first_names (codes "a") (codes "b") [] [] (differ (codes "a") (codes "b") refl));
  flag_count = told 1 _ _ [] (names (codes "a" ∷ [])) (names []) refl refl refl (some_names (codes "a") []);
  enum_names = told 1 _ _ [] (names (codes "a" ∷ [])) (names (codes "b" ∷ [])) refl refl refl (first_names (codes "a") (codes "b") [] [] (differ (codes "a") (codes "b") refl));
  tuple_count = told 1 _ _ [] (names (decimal 0 ∷ [])) (names (decimal 0 ∷ decimal 1 ∷ [])) refl refl refl (fewer_names (decimal 0) (decimal 0) (decimal 1) []);
  lengths = told 2 _ _ [] (fixed 4) (fixed 5) refl refl refl (apart_lengths 4 5 (λ same. absurd (omega (arith, same))));
  length_first = told 2 _ _ [] (fixed 4) (fixed 5) refl refl refl (apart_lengths 4 5 (λ same. absurd (omega (arith, same))));
  same_length = refl;
}

one_written : decimal 1 ≡ codes "1"
one_written = decimal_digit 1 (lit< tt)

apart_numbers : primitive type.U8 ≡ primitive type.U16 → ⊥
apart_numbers same = cc

comes : primitive type.U8 ≡ absent → ⊥
comes same = cc

is_there : absent ≡ primitive type.U8 → ⊥
is_there same = cc

pub of_parts : ExamplesOfParts
unfolding structure structure_within
of_parts = record {
  of_field = told 3 _ _ (codes "b" ∷ []) (primitive type.U8) (primitive type.U16) refl refl refl apart_numbers;
  of_case = told 2 _ _ (codes "a" ∷ []) (primitive type.U8) (primitive type.U16) refl refl refl apart_numbers;
  of_tuple =
      subst (λ (step : List ℕ). Differ (kind.Tuple (type.U8 ∷ type.U8 ∷ [])) [] (kind.Tuple (type.U8 ∷ type.U16 ∷ [])) [] (path_text (step ∷ []) ++ codes "different kinds of types")) one_written
      (told 3 _ _ (decimal 1 ∷ []) (primitive type.U8) (primitive type.U16) refl refl refl apart_numbers);
  of_option = told 2 _ _ (codes "element" ∷ []) (primitive type.U8) (primitive type.U16) refl refl refl apart_numbers;
  of_list = told 2 _ _ (codes "element" ∷ []) (primitive type.U8) (primitive type.U16) refl refl refl apart_numbers;
  of_fixed = told 3 _ _ (codes "element" ∷ []) (primitive type.U8) (primitive type.U16) refl refl refl apart_numbers;
  of_future = told 2 _ _ (codes "element" ∷ []) (primitive type.U8) (primitive type.U16) refl refl refl apart_numbers;
  of_stream = told 2 _ _ (codes "element" ∷ []) (primitive type.U8) (primitive type.U16) refl refl refl apart_numbers;
  of_key = told 2 _ _ (codes "key" ∷ []) (primitive type.U8) (primitive type.U16) refl refl refl apart_numbers;
  of_value = told 3 _ _ (codes "value" ∷ []) (primitive type.U8) (primitive type.U16) refl refl refl apart_numbers;
  of_ok = told 2 _ _ (codes "ok" ∷ []) (primitive type.U8) (primitive type.U16) refl refl refl apart_numbers;
  of_err = told 3 _ _ (codes "err" ∷ []) (primitive type.U8) (primitive type.U16) refl refl refl apart_numbers;
  of_alias = told 2 _ _ (codes "alias" ∷ []) (primitive type.U8) (primitive type.U16) refl refl refl apart_numbers;
  payload_comes = told 2 _ _ (codes "a" ∷ []) (primitive type.U8) absent refl refl refl comes;
  payload_there = told 2 _ _ (codes "element" ∷ []) absent (primitive type.U8) refl refl refl is_there;
  no_payload = refl;
}

apart_named : (t t' : ℕ) → (t ≡ t' → ⊥) → named (Some t) ≡ named (Some t') → ⊥
apart_named t t' apart same = apart (cc)

-- the difference of the two records whose parts both differ
first_of_two : DifferInStructure (with_name (record_ab type.U8 type.U8) ∷ []) (with_name (record_ab type.U16 type.U16) ∷ []) Some 0 0 (codes "at a: different kinds of types")
unfolding structure structure_within
first_of_two = told 2 _ _ (codes "a" ∷ []) (primitive type.U8) (primitive type.U16) refl refl refl apart_numbers

pub of_types : ExamplesOfTypes
unfolding structure structure_within
of_types = record {
  in_unnamed = told 5 _ _ (codes "b" ∷ codes "element" ∷ []) (primitive type.U8) (primitive type.U16) refl refl refl apart_numbers;
  unnamed_there = refl;
  unnamed_and_number = told 2 _ _ (codes "a" ∷ []) (variant variants.List) (primitive type.U8) refl refl refl (λ same. (cc));
  number_and_unnamed = told 2 _ _ (codes "a" ∷ []) (primitive type.U8) (variant variants.List) refl refl refl (λ same. (cc));
  unnamed_and_named = told 2 _ _ (codes "a" ∷ []) (variant variants.List) (named (Some 1)) refl refl refl (λ same. (cc));
  unnamed_variants = told 2 _ _ (codes "a" ∷ []) (variant variants.List) (variant variants.Option) refl refl refl (λ same. (cc));
  deep =
      subst
      (λ (step : List ℕ). Differ (kind.List (type.Id 1)) (without_name (kind.Tuple (type.U8 ∷ type.Id 2 ∷ [])) ∷ bytes) (kind.List (type.Id 1)) (without_name (kind.Tuple (type.U8 ∷ type.Id 2 ∷ [])) ∷ shorts)
      (path_text (codes "element" ∷ step ∷ codes "element" ∷ []) ++ codes "different kinds of types")) one_written
      (told 7 _ _ (codes "element" ∷ decimal 1 ∷ codes "element" ∷ []) (primitive type.U8) (primitive type.U16) refl refl refl apart_numbers);
  other_type = told 2 _ _ (codes "a" ∷ []) (named (Some 1)) (named (Some 2)) refl refl refl (apart_named 1 2 (λ same. absurd (omega (arith, same))));
  not_matched = record {
    x = record { path = codes "a" ∷ []; content = named None };
    y = record { path = codes "a" ∷ []; content = named (Some 1) };
    first = at_place 2 _ _ _ _ refl refl refl (λ same. (cc));
    text_is = refl;
  };
  of_handle = told 2 _ _ (codes "handle" ∷ []) (named (Some 1)) (named (Some 2)) refl refl refl (apart_named 1 2 (λ same. absurd (omega (arith, same))));
  matched_anywhere = refl;
  not_entered = refl;
  inner_first = told 4 _ _ (codes "a" ∷ codes "element" ∷ []) (primitive type.U8) (primitive type.U16) refl refl refl apart_numbers;
  second = λ d.
      let one = one_first _ _ _ _ _ _ first_of_two.first d.first in
      let texts : path_text first_of_two.x.path ++ difference_text first_of_two.x.content first_of_two.y.content ≡ codes "at b: different kinds of types" =
      ap (λ (x : Feature). path_text x.path ++ difference_text x.content first_of_two.y.content) one.0 ∙ (ap (λ (y : Feature). path_text d.x.path ++ difference_text d.x.content y.content) one.1 ∙ sym d.text_is) in
      differ (codes "at a: different kinds of types") (codes "at b: different kinds of types") refl (first_of_two.text_is ∙ texts);
  same_none = λ text d. same_no_first _ _ _ _ refl d.first;
}
