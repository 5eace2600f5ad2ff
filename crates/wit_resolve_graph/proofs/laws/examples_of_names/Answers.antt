use Rattle.std.proofs.Common.{List, ℕ, Option, [], ◌∷◌, ap, refl}
use Rattle.std.specs.Prelude.{slice_get, unwrap_or}
use Rattle.wit_values.specs.facts.Lists.{differ}
use Rattle.wit_resolve_graph.proofs.laws.examples_of_names.Goals as goal

-- the first name
first_of : Option (List (List ℕ)) → List ℕ
first_of names = unwrap_or (slice_get (unwrap_or names []) 0) []

pub returns : goal.returns
unfolding first_of
returns c = record {
  all = refl;
  of_a_package = refl;
  of_no_package = refl;
  not_twice = λ same. cc;
  not_of_another = λ same. differ (98 ∷ []) (97 ∷ []) refl (ap first_of same);
}
