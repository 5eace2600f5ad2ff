-- What it means that functions agree, and where a parameter or a function of an interface doesn't: the words of the steps.
use Rattle.std.specs.Prelude.{◌≡◌, ◌≢◌, ℕ, List, Option, Some, Contains, is_some, slice_get}
use Rattle.wit_data.specs.declared.function.Function.{Function}
use Rattle.wit_data.specs.declared.interface.Interface.{Interface}
use Rattle.wit_data.specs.declared.function.Param.{Param}
use Rattle.wit_data.specs.declared.types.Type_.{Type_}
use Rattle.wit_remap_spec.specs.FunctionMismatch.{AreOfOneSort, FunctionMismatch}
use Rattle.wit_remap_spec.specs.steps.Parts.{parameter_names_text, parameter_types_text, function_mismatch_text}

-- ---- parameters and results

-- a parameter disagrees with another in its place, which this text tells
pub data ParamMismatch (from into : Param) (text : List ℕ) : Type 0 where
  names_differ : from.name ≢ into.name → text ≡ parameter_names_text from.name into.name
      → ParamMismatch from into text
  types_differ : (AreOfOneSort from.ty into.ty → ⊥) → text ≡ parameter_types_text from.name
      → ParamMismatch from into text

-- a parameter agrees with another in its place
pub record ParamAgrees (from into : Param) : Type 0 where
  pub name_is : from.name ≡ into.name
  pub of_one_sort : AreOfOneSort from.ty into.ty

-- parameters agree with those in their places
abbrev pub ParamsAgree : List Param → List Param → Type 0
ParamsAgree from into =
    (i : ℕ) (a b : Param) → slice_get from i ≡ Some a → slice_get into i ≡ Some b → ParamAgrees a b

-- two functions have a result of one sort, or both have none
pub record ResultsAgree (from into : Option Type_) : Type 0 where
  pub as_many : is_some from ≡ is_some into
  pub of_one_sort : (a b : Type_) → from ≡ Some a → into ≡ Some b → AreOfOneSort a b

-- ---- functions of interfaces

-- an interface has a function of this name, with which the function disagrees
pub record DisagreesIn (into : Interface) (name : List ℕ) (function : Function)
    (text : List ℕ) : Type 0 where
  pub other : Function
  pub other_has : Contains into.functions (name, other)
  pub ending : List ℕ
  pub mismatch : FunctionMismatch function other ending
  pub text_is : text ≡ function_mismatch_text name ending

-- a function disagrees with none of this name in an interface
abbrev pub AgreesIn : Interface → List ℕ → Function → Type 0
AgreesIn into name function =
    (other : Function) → Contains into.functions (name, other) → (text : List ℕ)
    → FunctionMismatch function other text → ⊥
