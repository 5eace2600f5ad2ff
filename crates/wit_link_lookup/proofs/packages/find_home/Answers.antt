use Rattle.std.proofs.Common.{◌∙◌, ap, inr, length, sym}
use Rattle.std.proofs.lemmas.Bool.{false≢true}
use Rattle.wit_link_spec.specs.steps.AdditionRefs.{addition_of}
use Rattle.wit_link_lookup.proofs.Causes.{found_home, no_home, own_home, package_missing}
use Rattle.wit_link_lookup.proofs.packages.find_home.Goals as goal
use Rattle.wit_link_lookup.proofs.packages.find_home.Goals.{else-eq+in-None, else-eq+in-Some, then-eq}

pub returns-in-None-2-clause-cause : goal.returns-in-None-2-clause-cause
returns-in-None-2-clause-cause c =
    rw c.in_ok-package_not_found-in-None-2.ensures
    (inr (package_missing (addition_of c.args.addition.now) c.args.index c.entry_at.result.0.now c.entry_at.result.1.now c.at-span.result.now c.entry_at.ensures
    (λ empty. false≢true (sym c.if-is_empty.false ∙ c.is_empty.ensures.1 (ap length empty))) (sym c.in-None-2.ensures) (sym c.eq.ensures ∙ c.if-eq.false) c.at-span.ensures))

pub returns-clause-home : goal.returns-clause-home
returns-clause-home c = elim c.if-eq.branch [
  | then-eq w ↦ rw w.id-is (own_home (addition_of c.args.addition.now) c.args.index c.entry_at.result.0.now c.entry_at.result.1.now c.entry_at.ensures (sym c.eq.ensures ∙ w.if-eq.true))
  | else-eq+in-Some w ↦
      rw w.id-is
      (found_home (addition_of c.args.addition.now) c.args.index c.entry_at.result.0.now c.entry_at.result.1.now w.in-Some.id.now c.entry_at.ensures (sym c.eq.ensures ∙ w.if-eq.false) (sym w.in-Some.ensures))
  | else-eq+in-None w ↦
      rw w.id-is
      (no_home (addition_of c.args.addition.now) c.args.index c.entry_at.result.0.now c.entry_at.result.1.now c.entry_at.ensures (sym c.eq.ensures ∙ w.if-eq.false) (sym w.in-None.ensures) (w.is_empty.ensures.0 w.if-is_empty.true))
]
