use Rattle.std.proofs.Common.{◌≡◌, ◌∙◌, ◌+◌, ◌++◌, ◌∷◌, [], ℕ, List, ap, arith, length, subst, sym}
use Rattle.std.proofs.lemmas.List.{length_push}
use Rattle.wit_merge_match.proofs.ClassSteps.{AreOwn, none_own, own_descending, own_same, push_own}
use Rattle.wit_merge_match.proofs.classes.own_classes.Goals as goal

pub loop-thing-init : goal.loop-thing-init
loop-thing-init c = record {
  own = subst AreOwn (sym c.new-leaders.ensures) none_own;
  long = ap (λ (l : List ℕ). length l) c.new-leaders.ensures;
}

pub loop-thing-preserved : goal.loop-thing-preserved
loop-thing-preserved c =
    let leaders = c.loop-thing.leaders in
    let pushed : c.push.new.self ≡ leaders ++ length leaders ∷ [] = c.in_ok-push.ensures.ok ∙ ap (λ (n : ℕ). leaders ++ n ∷ []) (sym c.loop-thing.invariant.long) in
    record {
      own = subst AreOwn (sym pushed) (push_own leaders c.loop-thing.invariant.own);
      long = ap (λ (l : List ℕ). length l) pushed ∙ (length_push leaders (length leaders) ∙ ap (λ (n : ℕ). n + 1) c.loop-thing.invariant.long);
    }

pub returns-clause-long : goal.returns-clause-long
returns-clause-long c = omega (arith, c.loop-thing.invariant.long)

pub returns-clause-descending : goal.returns-clause-descending
returns-clause-descending c = own_descending c.loop-thing.leaders c.loop-thing.invariant.own

pub returns-clause-same : goal.returns-clause-same
returns-clause-same c = own_same c.loop-thing.leaders c.loop-thing.invariant.own

pub returns-clause-small : goal.returns-clause-small
returns-clause-small c = let long : length c.loop-thing.leaders ≡ c.args.count = omega (arith, c.loop-thing.invariant.long) in omega arith
