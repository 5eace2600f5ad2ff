use Rattle.std.proofs.Common.{◌≡◌, ℕ, ◌+◌, ◌<◌, ◌++◌, ◌∷◌, [], List, take, get_or, eqb, ap, arith, subst, sym, ◌∙◌}
use Rattle.std.specs.Prelude.{Contains}
use Rattle.std.specs.List.{IsDistinct}
use Rattle.std.proofs.lemmas.Bool.Decides.{Decides-eqb}
use Rattle.std.proofs.lemmas.List.{take_more}
use Rattle.std.proofs.lemmas.Option.{slice_get-get_or}
use Rattle.wit_digraph.specs.steps.PostOrder.{Listed}
use Rattle.wit_data.specs.facts.EachFacts.{one_more}
use Rattle.wit_shape.specs.facts.DistinctFacts.{apart_push}
use Rattle.wit_shape.specs.facts.Found.{id_at}
use Rattle.wit_shape.proofs.worlds.first_again.Goals as goal

pub loop-number-init : goal.loop-number-init
unfolding IsDistinct
loop-number-init c = record {
  listed = ap (λ (l : Listed). l.order) c.in_ok-met.ensures;
  nodes = ap (λ (l : Listed). l.nodes) c.in_ok-met.ensures;
  differ = tt;
  new = record { each = λ i id below at. absurd (omega (arith, below)) };
}

pub has-requires : goal.has-requires
has-requires c =
    subst (λ (n : ℕ). get_or c.args.numbers.now c.loop-number.number-index 0 < n) (sym c.loop-number.invariant.nodes)
    (c.requires c.loop-number.number-index _ (slice_get-get_or c.args.numbers.now c.loop-number.number-index 0 c.loop-number-test.true))

pub returns-then-has : goal.returns-then-has
returns-then-has c =
    let numbers = c.args.numbers.now in
    let i = c.loop-number.number-index in
    let number : ℕ = get_or numbers i 0 in
    let listed : Contains (take i numbers) number = subst (λ (l : List ℕ). Contains l number) c.loop-number.invariant.listed (c.has.ensures.0 c.if-has.true) in
    id_at (λ j id. Contains (take j numbers) id → ⊥) numbers i number c.loop-number.invariant.new (slice_get-get_or numbers i 0 c.loop-number-test.true) (λ none. none listed)

pub push-requires-clause-in_range : goal.push-requires-clause-in_range
push-requires-clause-in_range c =
    subst (λ (n : ℕ). get_or c.args.numbers.now c.loop-number.number-index 0 < n) (sym c.loop-number.invariant.nodes)
    (c.requires c.loop-number.number-index _ (slice_get-get_or c.args.numbers.now c.loop-number.number-index 0 c.loop-number-test.true))

pub loop-number-preserved : goal.loop-number-preserved
loop-number-preserved c =
    let numbers = c.args.numbers.now in
    let i = c.loop-number.number-index in
    let number : ℕ = get_or numbers i 0 in
    let more : take (i + 1) numbers ≡ take i numbers ++ number ∷ [] = take_more numbers i 0 c.loop-number-test.true in
    let new : Contains (take i numbers) number → ⊥ =
    λ there. let found = c.has.ensures.1 (subst (λ (l : List ℕ). Contains l number) (sym c.loop-number.invariant.listed) there) in cc in
    record {
      listed = ap (λ (l : Listed). l.order) c.in_ok-push.ensures.ok ∙ ap (λ (l : List ℕ). l ++ number ∷ []) c.loop-number.invariant.listed ∙ sym more;
      nodes = ap (λ (l : Listed). l.nodes) c.in_ok-push.ensures.ok ∙ c.loop-number.invariant.nodes;
      differ = subst (λ (l : List ℕ). IsDistinct eqb l) (sym more) (apart_push Decides-eqb (take i numbers) number c.loop-number.invariant.differ new);
      new = one_more c.loop-number.invariant.new number (slice_get-get_or numbers i 0 c.loop-number-test.true) new;
    }
