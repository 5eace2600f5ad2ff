use Rattle.std.proofs.Common.{◌≡◌, ◌∙◌, ◌-◌, ◌+◌, ℕ, ap, sym, take, arith}
use Rattle.wit_data.specs.declared.types.TypeDefKind.{TypeDefKind}
use Rattle.wit_script_package.specs.Making.{forms_made, type_of}
use Rattle.wit_script_package.proofs.Wrapped.{form-made}
use Rattle.wit_script_package.proofs.draft.Draft.make_forms.Goals as goal
use Rattle.wit_script_lines.specs.facts.OptionFacts.{same-some}

pub loop-at-preserved : goal.loop-at-preserved
loop-at-preserved c =
    let before : c.loop-at.at ≡ (c.loop-at.at - 1) + 1 = omega (arith, c.loop-at-test.true) in
    let made : type_of c.loop-at.self c.loop-at.kind c.args.here.now ≡ (c.in_ok-inner.inner, c.make_of.new.self) = same-some _ _ c.in_ok-inner.ensures in
    record {
      within = omega (arith, c.loop-at.invariant.within);
      same =
          c.loop-at.invariant.same ∙ ap (λ (n : ℕ). forms_made c.loop-at.self (take n c.args.forms.now) c.loop-at.kind c.args.here.now) before
          ∙ form-made c.loop-at.self c.make_of.new.self c.args.forms.now (c.loop-at.at - 1) _ c.loop-at.kind c.args.here.now c.in_ok-inner.inner
          (omega (arith, c.loop-at.invariant.within, c.loop-at-test.true)) made
          ∙ ap (λ (k : TypeDefKind). forms_made c.make_of.new.self (take (c.loop-at.at - 1) c.args.forms.now) k c.args.here.now) (sym c.around-kind.ensures);
    }
