-- Where a function disagrees with another of its name. A merge asks this of interfaces that become one (24),
-- semver merging of an interface and the one that replaces it (25).
-- Source: `build_function` of wit-parser 0.263.0.
use Rattle.std.specs.Prelude.{◌≡◌, ◌≢◌, ℕ, List, ◌++◌, Some, codes, is_some, length, slice_get, Contains}
use Rattle.wit_data.specs.declared.function.Function.{Function}
use Rattle.wit_data.specs.declared.function.FunctionKind.{FunctionKind}
use Rattle.wit_data.specs.declared.interface.Interface.{Interface}
use Rattle.wit_data.specs.declared.function.Param.{Param}
use Rattle.wit_data.specs.declared.types.Type_.{Type_}
use Rattle.wit_remap_spec.specs.Image.{map_function_kind}
use Rattle.wit_data.specs.Kind.{map_type}

-- two types are of one sort: the same primitive, or both of them types of a list. So they are the same where all ids
-- are made one
abbrev pub AreOfOneSort : Type_ → Type_ → Type 0
AreOfOneSort a b = map_type (λ t. 0) a ≡ map_type (λ t. 0) b

-- two functions are of one kind, whatever resources they belong to: the same where all ids are made one
abbrev pub AreOfOneKind : FunctionKind → FunctionKind → Type 0
AreOfOneKind a b = map_function_kind (λ r. 0) a ≡ map_function_kind (λ r. 0) b

-- function `from` disagrees with function `into`, which this text tells; of several disagreements any may be told
pub data FunctionMismatch (from into : Function) (text : List ℕ) : Type 0 where
  kinds_differ : (AreOfOneKind from.kind into.kind → ⊥)
      → text ≡ codes "different function kind types" → FunctionMismatch from into text
  parameter_counts_differ : length from.params ≢ length into.params
      → text ≡ codes "different number of function parameters" → FunctionMismatch from into text
  parameter_names_differ : (i : ℕ) (a b : Param) → slice_get from.params i ≡ Some a
      → slice_get into.params i ≡ Some b
      → a.name ≢ b.name
      → text
      ≡ codes "different function parameter names: " ++ (a.name ++ (codes " != " ++ b.name))
      → FunctionMismatch from into text
  -- told by the name of the parameter of `from`
  parameter_types_differ : (i : ℕ) (a b : Param) → slice_get from.params i ≡ Some a
      → slice_get into.params i ≡ Some b
      → (AreOfOneSort a.ty b.ty → ⊥)
      → text
      ≡ codes "different function parameter types for `"
      ++ (a.name ++ codes "`: different kinds of types") → FunctionMismatch from into text
  results_differ : (a b : Type_) → from.result_ ≡ Some a → into.result_ ≡ Some b
      → (AreOfOneSort a b → ⊥)
      → text ≡ codes "different function result types: different kinds of types"
      → FunctionMismatch from into text
  result_counts_differ : is_some from.result_ ≢ is_some into.result_
      → text ≡ codes "different number of function results" → FunctionMismatch from into text

-- two interfaces have a function of one name, in which the first disagrees with the second
pub record HaveFunctionMismatch (from into : Interface) (text : List ℕ) : Type 0 where
  pub name : List ℕ
  pub function : Function
  pub other : Function
  pub has : Contains from.functions (name, function)
  pub other_has : Contains into.functions (name, other)
  pub ending : List ℕ
  pub mismatch : FunctionMismatch function other ending
  pub text_is : text ≡ codes "mismatch in function `" ++ (name ++ (codes "`: " ++ ending))
