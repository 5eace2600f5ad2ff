-- The examples of pairs of types compute; which of them is told first.
use Rattle.std.proofs.Common.{◌≡◌, ◌∙◌, ℕ, List, [], ◌∷◌, ◌++◌, length, refl, sym, ap, arith, Contains}
use Rattle.std.specs.Prelude.{codes}
use Rattle.wit_values.specs.facts.Lists.{differ}
use Rattle.wit_digraph.specs.facts.MemberFacts.{Contains-here}
use Rattle.wit_digraph.specs.PostOrder.{post_order, post_order_within}
use Rattle.wit_graph_theory.specs.examples.TestFacts.{none_in, only_one}
use Rattle.wit_merge_spec.specs.MismatchText.{linked}
use Rattle.wit_merge_spec.specs.Matches.{FirstDiffers, TypePair}
use Rattle.examples_resolve.specs.merge.Pairs.{AllDiffer, ExamplesOfPairs, in_i, mismatch_t, pair}

abbrev of_t : TypePair
of_t = pair 0 0 (in_i mismatch_t)

abbrev of_u : TypePair
of_u = pair 1 1 (in_i (codes "mismatch in type `u`"))

abbrev told : TypePair → List ℕ
told p = linked p.links (codes "different kinds of types")

-- where all differ, nothing of the second is told
only_first : FirstDiffers AllDiffer (of_t ∷ of_u ∷ []) (told of_u) → ⊥
only_first d = by d.first.before d.first.are d.first.earlier
  where
    by : (before : List TypePair) → of_t ∷ of_u ∷ [] ≡ before ++ (d.pair ∷ d.first.after) → ((p : TypePair) → Contains before p → (ending : List ℕ) × AllDiffer p.from p.into ending → ⊥) → ⊥
    by [] are earlier =
        let same : of_t ≡ d.pair = cc in
        differ (told of_u) (told of_t) refl (d.message_is ∙ (ap (linked d.pair.links) d.first.is.1 ∙ ap told (sym same)))
    by (p ∷ before) are earlier = earlier p (Contains-here p before) (codes "different kinds of types", refl)

-- of nothing there is none
none_first : (message : List ℕ) → FirstDiffers AllDiffer [] message → ⊥
none_first message d = by d.first.before d.first.are
  where
    by : (before : List TypePair) → [] ≡ before ++ (d.pair ∷ d.first.after) → ⊥
    by [] are = cc
    by (p ∷ before) are = cc

-- the type of the first pair
first_from : List TypePair → ℕ
first_from [] = 99
first_from (p ∷ ps) = p.from

-- the number of links of the second
links_of_second : List TypePair → ℕ
links_of_second [] = 0
links_of_second (p ∷ []) = 0
links_of_second (p ∷ q ∷ ps) = length q.links

pub pairs : ExamplesOfPairs
unfolding post_order post_order_within first_from links_of_second
pairs = record {
  common = refl;
  other_name = refl;
  by_list = refl;
  not_transformed = λ same. let apart : 0 ≡ 1 = ap first_from same in absurd (omega (arith, apart));
  by_table = refl;
  by_package = refl;
  of_a_world = refl;
  not_without = λ same. let apart : 4 ≡ 3 = ap links_of_second same in absurd (omega (arith, apart));
  unnamed = refl;
  exported = refl;
  first = record { pair = of_t; first = record { before = []; after = of_u ∷ []; are = refl; earlier = λ p has. absurd (none_in p has); is = (_, refl) }; message_is = refl };
  not_second = λ d. only_first d;
  second = record {
    pair = of_u;
    first = record {
      before = of_t ∷ [];
      after = [];
      are = refl;
      earlier = λ p has differs.
          let same : of_t ≡ p = only_one of_t p has in
          let zero_is : 0 ≡ p.from = ap (λ (q : TypePair). q.from) same in
          let one_is = differs.1.0 in
          absurd (omega (arith, zero_is, one_is));
      is = (_, (refl, refl));
    };
    message_is = refl;
  };
  none = λ message d. none_first message d;
}
