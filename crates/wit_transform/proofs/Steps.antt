-- The steps of the loops, and from what the calls answer to the definitions.
use Rattle.std.proofs.Common.{◌≡◌, ◌∙◌, ◌⊎◌, inl, inr, ℕ, ◌+◌, ◌<◌, ◌≤◌, List, length, Option, Some, None, slice_get, sym, ap, subst, arith, Contains, IfNone}
use Rattle.std.specs.Cmp.Lexicographic.{nat_list_eq_equiv}
use Rattle.std.specs.List.{IsDistinct}
use Rattle.std.specs.Map.{keys_of, lookup}
use Rattle.std.specs.Str.{bytes_eq}
use Rattle.std.proofs.lemmas.Map.Views.{Contains-from_lookup, lookup-from_Contains}
use Rattle.std.proofs.lemmas.Option.{slice_get_within}
use Rattle.std.proofs.lemmas.Slice.Eq.{bytes_eq-Decides}
use Rattle.wit_data.specs.declared.function.Function.{Function}
use Rattle.wit_data.specs.declared.interface.Interface.{Interface}
use Rattle.wit_data.specs.declared.function.Param.{Param}
use Rattle.wit_remap_spec.specs.FunctionMismatch.{AreOfOneKind, FunctionMismatch, HaveFunctionMismatch, kinds_differ, parameter_counts_differ, parameter_names_differ, parameter_types_differ, result_counts_differ, results_differ}
use Rattle.wit_graph_theory.specs.facts.ListFacts.{below_or_same, contained_at, place_of}
use Rattle.wit_transform.specs.steps.Agreeing.{AgreesIn, DisagreesIn, ParamAgrees, ParamMismatch, ParamsAgree, ResultsAgree, names_differ, types_differ}
use Rattle.wit_remap_spec.specs.steps.Parts.{function_mismatch_text}

-- what follows where there is nothing
pub none-weaker : {X P Q : Type 0} → (P → Q) → (o : Option X) → IfNone o P → IfNone o Q
none-weaker follows None h = follows h
none-weaker follows (Some x) h = h

-- ---- functions

-- the first n parameters agree with those in their places
abbrev pub FirstAgree : ℕ → List Param → List Param → Type 0
FirstAgree n from into = (i : ℕ) (a b : Param) → i < n → slice_get from i ≡ Some a → slice_get into i ≡ Some b → ParamAgrees a b

pub params-next : (from into : List Param) (n : ℕ) (a b : Param) → slice_get from n ≡ Some a → slice_get into n ≡ Some b → FirstAgree n from into → ParamAgrees a b
    → FirstAgree (n + 1) from into
params-next from into n a b at there before agrees i x y within x_at y_at =
    elim (below_or_same i n within) [
      | inl earlier ↦ before i x y earlier x_at y_at
      | inr same ↦
          let first : a ≡ x = cc in
          let second : b ≡ y = cc in
          subst (λ (z : Param). ParamAgrees z y) first (subst (ParamAgrees a) second agrees)
    ]

pub params-all : (from into : List Param) (n : ℕ) → length from ≤ n → FirstAgree n from into → ParamsAgree from into
params-all from into n reached before i a b at there = let within : i < length from = slice_get_within from i a at in before i a b (omega arith) at there

-- a parameter that disagrees with the one in its place
pub params-differ : (from into : Function) (n : ℕ) (a b : Param) → slice_get from.params n ≡ Some a → slice_get into.params n ≡ Some b
    → (text : List ℕ) → ParamMismatch a b text → FunctionMismatch from into text
params-differ from into n a b at there text (names_differ apart told) = parameter_names_differ n a b at there apart told
params-differ from into n a b at there text (types_differ apart told) = parameter_types_differ n a b at there apart told

-- functions that agree in all of it
pub functions-agree : (from into : Function) → AreOfOneKind from.kind into.kind → length from.params ≡ length into.params → ParamsAgree from.params into.params
    → ResultsAgree from.result_ into.result_ → (text : List ℕ) → FunctionMismatch from into text → ⊥
functions-agree from into kinds counts params results text (kinds_differ apart told) = apart kinds
functions-agree from into kinds counts params results text (parameter_counts_differ apart told) = apart counts
functions-agree from into kinds counts params results text (parameter_names_differ i a b at there apart told) = apart (params i a b at there).name_is
functions-agree from into kinds counts params results text (parameter_types_differ i a b at there apart told) = apart (params i a b at there).of_one_sort
functions-agree from into kinds counts params results text (results_differ a b at there apart told) = apart (results.of_one_sort a b at there)
functions-agree from into kinds counts params results text (result_counts_differ apart told) = apart results.as_many

-- ---- functions of interfaces

module _ (into : Interface) (name : List ℕ) (function : Function) (distinct : IsDistinct bytes_eq (keys_of into.functions)) where
  found : (other : Function) → Contains into.functions (name, other) → lookup (bytes_eq name) into.functions ≡ Some other
  found other has = lookup-from_Contains nat_list_eq_equiv name other into.functions distinct has

  -- there is no function of this name
  pub agrees-none : lookup (bytes_eq name) into.functions ≡ None → AgreesIn into name function
  agrees-none none other has text mismatch = let there = found other has in let never : None ≡ Some other = sym none ∙ there in cc

  -- the one of this name agrees
  pub agrees-some : (here : Function) → lookup (bytes_eq name) into.functions ≡ Some here → ((text : List ℕ) → FunctionMismatch function here text → ⊥) → AgreesIn into name function
  agrees-some here at agree other has =
      let there = found other has in
      let both : Some here ≡ Some other = sym at ∙ there in
      let same : here ≡ other = cc in
      subst (λ (f : Function). (text : List ℕ) → FunctionMismatch function f text → ⊥) same agree

-- the one of this name disagrees
pub disagrees : (into : Interface) (name : List ℕ) (function other : Function) → lookup (bytes_eq name) into.functions ≡ Some other
    → (ending text : List ℕ) → FunctionMismatch function other ending → text ≡ function_mismatch_text name ending → DisagreesIn into name function text
disagrees into name function other at ending text mismatch told = record {
  other = other;
  other_has = Contains-from_lookup (λ a b. (bytes_eq-Decides a b).0) name other into.functions at;
  ending = ending;
  mismatch = mismatch;
  text_is = told;
}

-- the first n functions agree with those of their names
abbrev pub FirstAgreeIn : ℕ → List (List ℕ × Function) → Interface → Type 0
FirstAgreeIn n from into = (i : ℕ) (name : List ℕ) (function : Function) → i < n → slice_get from i ≡ Some (name, function) → AgreesIn into name function

pub functions-next : (from : List (List ℕ × Function)) (into : Interface) (n : ℕ) (name : List ℕ) (function : Function) → slice_get from n ≡ Some (name, function)
    → FirstAgreeIn n from into → AgreesIn into name function → FirstAgreeIn (n + 1) from into
functions-next from into n name function at before agrees i x f within there =
    elim (below_or_same i n within) [
      | inl earlier ↦ before i x f earlier there
      | inr same ↦
          let both : (name, function) ≡ (x, f) = cc in
          let names : name ≡ x = ap (λ (e : List ℕ × Function). e.0) both in
          let functions : function ≡ f = ap (λ (e : List ℕ × Function). e.1) both in
          subst (λ (y : List ℕ). AgreesIn into y f) names (subst (AgreesIn into name) functions agrees)
    ]

-- none disagrees
pub functions-all : (from into : Interface) (n : ℕ) → length from.functions ≤ n → FirstAgreeIn n from.functions into → (text : List ℕ) → HaveFunctionMismatch from into text → ⊥
functions-all from into n reached before text have =
    let place = place_of from.functions (have.name, have.function) have.has in
    let within : place.0 < length from.functions = slice_get_within from.functions place.0 (have.name, have.function) place.1 in
    before place.0 have.name have.function (omega arith) place.1 have.other have.other_has have.ending have.mismatch

-- one disagrees
pub functions-differ : (from into : Interface) (n : ℕ) (name : List ℕ) (function : Function) → slice_get from.functions n ≡ Some (name, function)
    → (text : List ℕ) → DisagreesIn into name function text → HaveFunctionMismatch from into text
functions-differ from into n name function at text differs = record {
  name = name;
  function = function;
  other = differs.other;
  has = contained_at from.functions n (name, function) at;
  other_has = differs.other_has;
  ending = differs.ending;
  mismatch = differs.mismatch;
  text_is = differs.text_is;
}
