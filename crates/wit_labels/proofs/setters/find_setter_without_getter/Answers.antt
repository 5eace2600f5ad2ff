use Rattle.std.proofs.Common.{◌≡◌, ◌∙◌, ℕ, List, Some, sym, subst, true, arith, is_some}
use Rattle.std.specs.Map.{lookup}
use Rattle.wit_data.specs.contracts.world.WorldKeyPartialEq.TheImpl.{eq-value}
use Rattle.wit_data.specs.declared.world.WorldKey.TheVariants as key
use Rattle.wit_labels.specs.Setters.{wanted_getter}
use Rattle.wit_labels.proofs.SetterSteps.{have-all, have-next, have-none, key_absent, key_found, lacks-at}
use Rattle.wit_labels.proofs.setters.find_setter_without_getter.Goals as goal
use Rattle.wit_labels.proofs.setters.find_setter_without_getter.Goals.{in-Some+else-not-contains_key, in-None}

pub loop-index-init : goal.loop-index-init
loop-index-init c = have-none c.args.entries.now

pub returns-then-not-contains_key-clause-some : goal.returns-then-not-contains_key-clause-some
returns-then-not-contains_key-clause-some c =
    lacks-at c.args.entries.now c.loop-index.index c.entry_at.result.0.now c.entry_at.result.1.now c.in-Some.getter c.entry_at.ensures (sym c.in_ok-getter.ensures ∙ c.in-Some.is)
    (key_absent (key.Name c.in-Some.getter) c.args.entries.now (sym c.contains_key.ensures ∙ c.if-not-contains_key.true))

pub loop-index-preserved : goal.loop-index-preserved
loop-index-preserved c =
    have-next c.args.entries.now c.loop-index.index c.entry_at.result.0.now c.entry_at.result.1.now c.loop-index.invariant c.entry_at.ensures
    (elim c.match-branch-2.branch [
      | in-Some+else-not-contains_key w ↦ λ (g : List ℕ) (wanted : wanted_getter c.entry_at.result.0.now c.entry_at.result.1.now ≡ Some g).
          let same : w.in-Some.getter ≡ g = cc (w.in-Some.is, c.in_ok-getter.ensures, wanted) in
          key_found (key.Name g) c.args.entries.now
          (subst (λ (x : List ℕ). is_some (lookup (eq-value.it (key.Name x)) c.args.entries.now) ≡ true) same (sym w.contains_key.ensures ∙ w.if-not-contains_key.false))
      | in-None w ↦ λ (g : List ℕ) (wanted : wanted_getter c.entry_at.result.0.now c.entry_at.result.1.now ≡ Some g). cc (w.in-None.is, c.in_ok-getter.ensures, wanted)
    ])

pub returns-clause-none : goal.returns-clause-none
returns-clause-none c = have-all c.args.entries.now c.loop-index.index c.loop-index.invariant (let long = c.len-index-end.ensures.len in omega arith)
