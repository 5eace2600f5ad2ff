use Rattle.std.proofs.Common.{◌≡◌, ◌∙◌, ℕ, ◌+◌, ◌++◌, ◌∷◌, [], List, take, get_or, eqb, ap, arith, subst, sym}
use Rattle.std.specs.Prelude.{Contains}
use Rattle.std.specs.List.{IsDistinct}
use Rattle.std.proofs.lemmas.Bool.Decides.{Decides-eqb}
use Rattle.std.proofs.lemmas.List.{take_all, take_more}
use Rattle.std.proofs.lemmas.Option.{slice_get-get_or}
use Rattle.wit_digraph.specs.steps.PostOrder.{Listed}
use Rattle.wit_data.specs.facts.EachFacts.{all_of, one_more}
use Rattle.wit_shape.specs.facts.DistinctFacts.{apart_push}
use Rattle.wit_shape.specs.facts.IdFacts.{are_first}
use Rattle.wit_shape.specs.facts.Found.{id_at}
use Rattle.wit_shape.specs.Faults.{IsNewFirst}
use Rattle.wit_shape.proofs.foreign.misplaced_id.Goals as goal

pub loop-id-init : goal.loop-id-init
unfolding IsDistinct
loop-id-init c = record {
  listed = ap (λ (l : Listed). l.order) c.in_ok-met.ensures;
  nodes = ap (λ (l : Listed). l.nodes) c.in_ok-met.ensures;
  differ = tt;
  new = record { each = λ i id below at. absurd (omega (arith, below)) };
}

pub returns-then-id-bound : goal.returns-then-id-bound
returns-then-id-bound c =
    let ids = c.args.ids.now in
    let i = c.loop-id.id-index in
    id_at (IsNewFirst ids c.args.count) ids i (get_or ids i 0) c.loop-id.invariant.new (slice_get-get_or ids i 0 c.loop-id-test.true) (λ fits. absurd (omega (arith, fits.0, fits.1, c.min-bound.ensures, c.if-id-bound.true)))

pub returns-then-has : goal.returns-then-has
returns-then-has c =
    let ids = c.args.ids.now in
    let i = c.loop-id.id-index in
    let id : ℕ = get_or ids i 0 in
    let listed : Contains (take i ids) id = subst (λ (l : List ℕ). Contains l id) c.loop-id.invariant.listed (c.has.ensures.0 c.if-has.true) in
    id_at (IsNewFirst ids c.args.count) ids i id c.loop-id.invariant.new (slice_get-get_or ids i 0 c.loop-id-test.true) (λ fits. fits.2 listed)

pub loop-id-preserved : goal.loop-id-preserved
loop-id-preserved c =
    let ids = c.args.ids.now in
    let i = c.loop-id.id-index in
    let id : ℕ = get_or ids i 0 in
    let more : take (i + 1) ids ≡ take i ids ++ id ∷ [] = take_more ids i 0 c.loop-id-test.true in
    let new : Contains (take i ids) id → ⊥ =
    λ there. let found = c.has.ensures.1 (subst (λ (l : List ℕ). Contains l id) (sym c.loop-id.invariant.listed) there) in cc in
    record {
      listed = ap (λ (l : Listed). l.order) c.in_ok-push.ensures.ok ∙ ap (λ (l : List ℕ). l ++ id ∷ []) c.loop-id.invariant.listed ∙ sym more;
      nodes = ap (λ (l : Listed). l.nodes) c.in_ok-push.ensures.ok ∙ c.loop-id.invariant.nodes;
      differ = subst (λ (l : List ℕ). IsDistinct eqb l) (sym more) (apart_push Decides-eqb (take i ids) id c.loop-id.invariant.differ new);
      new = one_more c.loop-id.invariant.new id (slice_get-get_or ids i 0 c.loop-id-test.true) (omega (arith, c.min-bound.ensures, c.if-id-bound.false), omega (arith, c.min-bound.ensures, c.if-id-bound.false), new);
    }

pub returns : goal.returns
returns c =
    let ids = c.args.ids.now in
    let i = c.loop-id.id-index in
    are_first ids c.args.count (subst (λ (l : List ℕ). IsDistinct eqb l) (take_all i ids c.loop-id-test.false) c.loop-id.invariant.differ) (all_of c.loop-id.invariant.new c.loop-id-test.false)
