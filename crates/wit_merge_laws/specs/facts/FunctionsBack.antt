-- Where a function disagrees with another, the other disagrees with it; so interfaces whose functions disagree one way do
-- so the other way.
use Rattle.std.proofs.Common.{ℕ, List, codes, refl, sym}
use Rattle.wit_data.specs.declared.function.Function.{Function}
use Rattle.wit_data.specs.declared.interface.Interface.{Interface}
use Rattle.wit_remap_spec.specs.FunctionMismatch.{FunctionMismatch, HaveFunctionMismatch, kinds_differ, parameter_counts_differ, parameter_names_differ, parameter_types_differ, result_counts_differ, results_differ}
use Rattle.wit_remap_spec.specs.steps.Parts.{parameter_names_text, parameter_types_text, function_mismatch_text}

function_back : (from into : Function) (text : List ℕ) → FunctionMismatch from into text → (text' : List ℕ) × FunctionMismatch into from text'
function_back from into text (kinds_differ apart is) = (codes "different function kind types", kinds_differ (λ same. apart (sym same)) refl)
function_back from into text (parameter_counts_differ apart is) = (codes "different number of function parameters", parameter_counts_differ (λ same. apart (sym same)) refl)
function_back from into text (parameter_names_differ i a b here there apart is) = (parameter_names_text b.name a.name, parameter_names_differ i b a there here (λ same. apart (sym same)) refl)
function_back from into text (parameter_types_differ i a b here there apart is) = (parameter_types_text b.name, parameter_types_differ i b a there here (λ same. apart (sym same)) refl)
function_back from into text (results_differ a b here there apart is) = (codes "different function result types: different kinds of types", results_differ b a there here (λ same. apart (sym same)) refl)
function_back from into text (result_counts_differ apart is) = (codes "different number of function results", result_counts_differ (λ same. apart (sym same)) refl)

pub functions_back : (from into : Interface) (text : List ℕ) → HaveFunctionMismatch from into text → (text' : List ℕ) × HaveFunctionMismatch into from text'
functions_back from into text has =
    let one = function_back has.function has.other has.ending has.mismatch in (
      function_mismatch_text has.name one.0,
      record { name = has.name; function = has.other; other = has.function; has = has.other_has; other_has = has.has; ending = one.0; mismatch = one.1; text_is = refl },
    )
