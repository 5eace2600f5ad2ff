-- Notes, and which of them are active and asked.
use Rattle.std.specs.Prelude.{◌≡◌, true, false, [], ◌∷◌, None}
use Rattle.wit_data.specs.declared.stability.Stability.TheVariants.{Unknown}
use Rattle.wit_link_spec.specs.Gates.{asked_gates, interface_is_active, is_active}
use Rattle.wit_graph_data.specs.examples.Samples.{foo_bar}
use Rattle.examples_resolve.specs.graph.Packages.{all_features, feature_f, gate_f, gated, main_name, naming, no_features, since_one}
use Rattle.wit_link_spec.specs.steps.Parts.{some_active}

-- gates that let their items be active, and gates that are asked
pub record ExamplesOfGates : Type 0 where
  pub off : is_active no_features gate_f ≡ false
  pub on : is_active feature_f gate_f ≡ true
  pub all : is_active all_features gate_f ≡ true
  pub none : is_active no_features Unknown ≡ true
  pub since : is_active no_features since_one ≡ true
  pub later_gate : some_active no_features (gate_f ∷ Unknown ∷ []) ≡ true
  pub asked : asked_gates no_features (gate_f ∷ Unknown ∷ gate_f ∷ []) ≡ gate_f ∷ Unknown ∷ []
  pub asked_all : asked_gates no_features (gate_f ∷ []) ≡ gate_f ∷ []
  -- of an interface of the package its own note counts, of one of another package that of the place that names it
  pub own : interface_is_active no_features (gated None gate_f) 0 ≡ false
  pub foreign : interface_is_active no_features (naming main_name foo_bar gate_f) 0 ≡ false
  pub foreign_on : interface_is_active feature_f (naming main_name foo_bar gate_f) 0 ≡ true
