-- Functions that agree, and that don't.
use Rattle.std.proofs.Common.{◌≡◌, ℕ, zero, suc, List, [], ◌∷◌, None, Some, codes, slice_get, slice_index_or, refl, sym, ap, subst, arith}
use Rattle.wit_data.specs.declared.function.FunctionKind.TheVariants as function
use Rattle.wit_data.specs.declared.function.Param.{Param}
use Rattle.wit_data.specs.declared.types.Type_.TheVariants as type
use Rattle.wit_graph_theory.specs.examples.AgreementFacts.{functions_accepted}
use Rattle.wit_remap_spec.specs.FunctionMismatch.{AreOfOneSort, FunctionMismatch, kinds_differ, parameter_counts_differ, parameter_names_differ, parameter_types_differ, result_counts_differ, results_differ}
use Rattle.wit_graph_theory.specs.facts.OptionFacts.{some_same}
use Rattle.examples_resolve.specs.merge.CauseExamples.{ExamplesOfMismatches, f_kind, f_of}
use Rattle.wit_remap_spec.specs.steps.Parts.{parameter_names_text}

-- the letter at which two texts differ
letter : List ℕ → ℕ
letter text = slice_index_or text 36 0

pub x_is_not_y : codes "x" ≡ codes "y" → ⊥
x_is_not_y same = let apart : 120 ≡ 121 = ap (λ (t : List ℕ). slice_index_or t 0 0) same in absurd (omega (arith, apart))

abbrev pub x_of : Param
x_of = record { name = codes "x"; ty = type.U32; span = None }

abbrev pub y_of : Param
y_of = record { name = codes "y"; ty = type.U32; span = None }

transformed : FunctionMismatch (f_of (codes "x") type.U32) (f_of (codes "y") type.U32) (codes "different function parameter names: y != x") → ⊥
unfolding letter
transformed (kinds_differ differ is) = differ refl
transformed (parameter_counts_differ differ is) = differ refl
transformed (parameter_names_differ i a b first second differ is) = by i a b first second is
  where
    by : (i : ℕ) (a b : Param) → slice_get (x_of ∷ []) i ≡ Some a → slice_get (y_of ∷ []) i ≡ Some b → codes "different function parameter names: y != x" ≡ parameter_names_text a.name b.name → ⊥
    by zero a b first second is =
        let x : x_of ≡ a = some_same x_of a first in
        let y : y_of ≡ b = some_same y_of b second in
        let texts : codes "different function parameter names: y != x" ≡ parameter_names_text (codes "x") (codes "y") =
        subst (λ (p : Param). codes "different function parameter names: y != x" ≡ parameter_names_text p.name (codes "y")) (sym x)
        (subst (λ (p : Param). codes "different function parameter names: y != x" ≡ parameter_names_text a.name p.name) (sym y) is) in
        let apart : 121 ≡ 120 = ap letter texts in
        absurd (omega (arith, apart))
    by (suc i) a b first second is = cc
transformed (parameter_types_differ i a b first second differ is) = by i a b first second differ
  where
    by : (i : ℕ) (a b : Param) → slice_get (x_of ∷ []) i ≡ Some a → slice_get (y_of ∷ []) i ≡ Some b → (AreOfOneSort a.ty b.ty → ⊥) → ⊥
    by zero a b first second differ =
        let x = some_same _ a first in
        let y = some_same _ b second in
        differ (subst (λ (p : Param). AreOfOneSort p.ty b.ty) x (subst (λ (p : Param). AreOfOneSort type.U32 p.ty) y refl))
    by (suc i) a b first second differ = cc
transformed (results_differ a b first second differ is) = cc
transformed (result_counts_differ differ is) = differ refl

pub mismatches : ExamplesOfMismatches
mismatches = record {
  kinds = kinds_differ (λ same. cc) refl;
  methods = kinds_differ (λ same. cc) refl;
  resources = functions_accepted (f_kind (function.Method 0)) (f_kind (function.Method 1)) refl;
  number = parameter_counts_differ (λ same. let apart : 1 ≡ 0 = same in absurd (omega (arith, apart))) refl;
  names = parameter_names_differ 0 x_of y_of refl refl x_is_not_y refl;
  types = parameter_types_differ 0 x_of (record x_of { ty = type.U64 }) refl refl (λ same. cc) refl;
  primitive = parameter_types_differ 0 (record x_of { ty = type.Id 0 }) x_of refl refl (λ same. cc) refl;
  ids = functions_accepted (f_of (codes "x") (type.Id 0)) (f_of (codes "x") (type.Id 1)) refl;
  results = results_differ type.U32 type.Bool refl refl (λ same. cc) refl;
  result = result_counts_differ (λ same. cc) refl;
  not_transformed = transformed;
}
