-- The examples of setters.
use Rattle.std.proofs.Common.{◌≡◌, ◌∙◌, ◌&&◌, ℕ, zero, suc, true, List, [], ◌∷◌, refl, ap, sym, subst, lit<, Contains, arith}
use Rattle.std.proofs.lemmas.Bool.{false≢true}
use Rattle.std.specs.Map.{keys_of}
use Rattle.std.specs.Prelude.{codes}
use Rattle.wit_values.specs.facts.Lists.{differ}
use Rattle.wit_data.specs.Entries.{Entry}
use Rattle.wit_data.specs.declared.world.WorldKey.TheVariants as key
use Rattle.wit_labels.specs.examples.Examples.{ExamplesOfSetters, function_entry}
use Rattle.wit_labels.specs.Setters.{getter_label, is_setter_label}
use Rattle.wit_labels.specs.steps.Setters.{IsSetter, is_function}

name_same : (a b : List ℕ) → key.Name a ≡ key.Name b → a ≡ b
name_same a b same = cc

getter_there : (e : Entry) (label : List ℕ) → Contains (function_entry (codes "[get]p") ∷ function_entry (codes "[set]p") ∷ []) e → IsSetter label e
    → Contains (keys_of (function_entry (codes "[get]p") ∷ function_entry (codes "[set]p") ∷ [])) (key.Name (getter_label label))
getter_there e label (zero, below, is) setter =
    let called : codes "[get]p" ≡ label = name_same (codes "[get]p") label (ap (λ (x : Entry). x.0) is ∙ setter.0) in
    let is_one : is_function (function_entry (codes "[get]p")).1 && is_setter_label (codes "[get]p") ≡ true =
    subst (λ (x : List ℕ). is_function (function_entry (codes "[get]p")).1 && is_setter_label x ≡ true) (sym called)
    (subst (λ (x : Entry). is_function x.1 && is_setter_label label ≡ true) (sym is) setter.1) in
    absurd (false≢true is_one)
getter_there e label (suc zero, below, is) setter =
    let called : codes "[set]p" ≡ label = name_same (codes "[set]p") label (ap (λ (x : Entry). x.0) is ∙ setter.0) in
    subst (λ (x : List ℕ). Contains (keys_of (function_entry (codes "[get]p") ∷ function_entry (codes "[set]p") ∷ [])) (key.Name (getter_label x))) called (0, lit< tt, refl)
getter_there e label (suc (suc k), below, is) setter = absurd (omega (arith, below))

only_setter : Contains (key.Name (codes "[set]p") ∷ []) (key.Name (codes "[get]p")) → ⊥
only_setter (zero, below, is) = differ (codes "[set]p") (codes "[get]p") refl (name_same (codes "[set]p") (codes "[get]p") is)
only_setter (suc k, below, is) = absurd (omega (arith, below))

pub setters : ExamplesOfSetters
setters = record {
  has_getter = getter_there;
  lacks_getter = λ have. only_setter (have (function_entry (codes "[set]p")) (codes "[set]p") (0, lit< tt, refl) (refl, refl));
  getter_of = refl;
  is_setter = refl;
  is_getter = refl;
  setter_first = refl;
  getter_first = refl;
  getter_missing = refl;
}
