-- The examples of questions.
use Rattle.std.proofs.Common.{◌≡◌, ℕ, zero, suc, true, List, [], ◌∷◌, refl, sym, subst, arith}
use Rattle.std.proofs.lemmas.Bool.{false≢true}
use Rattle.std.specs.Fmt.{digits}
use Rattle.wit_digraph.specs.Relation.{IsPath}
use Rattle.wit_digraph.specs.PostOrder.{post_order, post_order_within}
use Rattle.wit_data.specs.Each.{SomeAt}
use Rattle.wit_data.specs.declared.types.TypeDef.{TypeDef}
use Rattle.wit_elaboration.specs.examples.Examples.{ExamplesOfQueries, value_types}
use Rattle.wit_graph_data.specs.Queries.{has_fixed_parts, type_contents}

-- nothing but type 3 is reached from it
handle_alone : (s : ℕ) (path : List ℕ) → IsPath (type_contents value_types) 3 path s → 3 ≡ s
handle_alone s [] same = same
handle_alone s (k ∷ path) leads = absurd (omega (arith, leads.0.1))

handle_valid : (s : ℕ) → 3 ≡ s → SomeAt value_types s (λ (def : TypeDef). has_fixed_parts def.kind ≡ true)
handle_valid s same = subst (λ (t : ℕ). SomeAt value_types t (λ (def : TypeDef). has_fixed_parts def.kind ≡ true)) same refl

-- from type 5 itself and type 3 are reached
tuple_valid : (s : ℕ) (path : List ℕ) → IsPath (type_contents value_types) 5 path s → SomeAt value_types s (λ (def : TypeDef). has_fixed_parts def.kind ≡ true)
tuple_valid s [] same = subst (λ (t : ℕ). SomeAt value_types t (λ (def : TypeDef). has_fixed_parts def.kind ≡ true)) same refl
tuple_valid s (k ∷ path) ((zero, below, first), leads) = handle_valid s (handle_alone s path (subst (λ (t : ℕ). IsPath (type_contents value_types) t path s) (sym first) leads))
tuple_valid s (k ∷ path) ((suc n, below, first), leads) = absurd (omega (arith, below))

pub questions : ExamplesOfQueries
unfolding post_order post_order_within digits
questions = record {
  deps = refl;
  dependency_first = refl;
  canonical = refl;
  suffix = refl;
  implements = refl;
  own_key = refl;
  external = refl;
  inner_first = refl;
  not_through_handles = refl;
  numbers = refl;
  no_bool = λ valid. false≢true valid;
  handles = λ s reached. handle_valid s (handle_alone s reached.0 reached.1);
  tuples = λ s reached. tuple_valid s reached.0 reached.1;
  no_list = λ valid. false≢true (valid 6 ([], refl));
}
